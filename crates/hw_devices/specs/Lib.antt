pub mod BlockRegisters
pub mod Bus
pub mod Ports
