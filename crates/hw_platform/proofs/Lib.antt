pub mod HwOfSlots
pub mod BeatsFit
pub mod Batches
