pub mod Steps
pub mod Events
pub mod Taking
pub mod Readers
pub mod JournalLines
