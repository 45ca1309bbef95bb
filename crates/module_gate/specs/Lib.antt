pub mod Ascending
pub mod Changes
pub mod Conditions
pub mod Gates
pub mod InsideGate
pub mod InsideLoad
pub mod Parts
pub mod Retiring
