pub mod Refusals
pub mod Values
pub mod Bindings
pub mod Text
pub mod ExportNames
pub mod Printed
pub mod Ranges
