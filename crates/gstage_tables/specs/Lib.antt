pub mod Blocks
pub mod Layout
pub mod Written
pub mod Protecting
