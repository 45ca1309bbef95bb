pub mod Owing
pub mod Permits
