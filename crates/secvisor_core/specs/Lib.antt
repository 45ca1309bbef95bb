pub mod Serving
pub mod Visors
pub mod Placed
pub mod Whole
