pub mod Lends
pub mod LendsAll
pub mod Ownership
