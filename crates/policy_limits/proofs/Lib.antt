mod ModuleNames
mod Bound
pub mod InRam
