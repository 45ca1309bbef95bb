pub mod Frames
pub mod Privileges
