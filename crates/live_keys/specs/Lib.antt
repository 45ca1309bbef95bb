pub mod Keys
pub mod Reader
pub mod Line
pub mod Placed
pub mod Journal
pub mod Memory
pub mod JournalText
pub mod Feeding
