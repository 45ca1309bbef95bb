pub mod HwOfSlots
mod Changes
mod Modules
mod HartTraps
pub mod DeviceAnswers
pub mod Entered
pub mod Places
pub mod Sret
mod Bits
mod Changed
mod Inputs
mod Started
mod Starting
