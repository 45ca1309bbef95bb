pub mod Emptied
pub mod Holding
pub mod Levels
pub mod Stages
pub mod Tagged
pub mod Walks
pub mod GstageCacheLines
pub mod WritesAndWalks
