pub mod Attempts
pub mod Beats
pub mod Hardwares
pub mod Batches
