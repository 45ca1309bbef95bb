pub mod FieldBytes
pub mod OnePage
pub mod Boots
