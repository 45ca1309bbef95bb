pub mod Kept
pub mod Tags
pub mod Usable
pub mod Lookup
pub mod Fills
pub mod CacheWalks
