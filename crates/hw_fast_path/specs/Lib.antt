pub mod Batches
pub mod MicroOp
pub mod Quick
pub mod Ends
pub mod Reaching
