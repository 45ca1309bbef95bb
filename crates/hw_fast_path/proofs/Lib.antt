pub mod Windows
pub mod Kept
pub mod Going
pub mod Reaching
pub mod Exits
pub mod Flats
pub mod Stores
