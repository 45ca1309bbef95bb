pub mod Making
pub mod Ranges
pub mod Refusals
pub mod WordRanges
pub mod Binding
pub mod Faults
pub mod InText
