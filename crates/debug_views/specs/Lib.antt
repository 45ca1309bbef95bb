pub mod Memory
pub mod Looks
pub mod Description
pub mod Pages
pub mod Walks
