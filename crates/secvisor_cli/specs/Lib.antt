pub mod Answers
pub mod Ready
pub mod Converted
pub mod DueIn
