pub mod TruthValues
pub mod Sums
pub mod FileChecks
pub mod PolicyLimits
pub mod PageNumbers
pub mod InPages
pub mod SetElements
