pub mod Places
pub mod Sets
pub mod Spans
pub mod Stays
