pub mod Cores
pub mod Conditions
