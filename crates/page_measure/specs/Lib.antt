pub mod Fields
pub mod Pieces
pub mod Steps
pub mod Laws
pub mod Wrong
