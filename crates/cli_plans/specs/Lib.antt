pub mod Refusals
pub mod CommandLine
pub mod Words
pub mod Plans
pub mod Reading
pub mod Commands
pub mod Parsing
pub mod Values
