pub mod Digits
pub mod Framing
pub mod Reading
pub mod Readers
pub mod FrameLaws
pub mod Words
pub mod Packets
pub mod Answers
