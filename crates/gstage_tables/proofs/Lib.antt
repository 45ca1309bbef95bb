pub mod Bits
pub mod Counts
pub mod MapsBlocks
pub mod Places
pub mod Walks
pub mod Writes
