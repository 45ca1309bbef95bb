pub mod Choice
pub mod Answers
