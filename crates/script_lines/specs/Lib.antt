pub mod Lines
pub mod Minimal
pub mod Tallies
pub mod TallyLines
