pub mod FrameReading
pub mod Cutting
