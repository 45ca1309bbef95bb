pub mod Journals
pub mod Findings
pub mod FoundNotes
pub mod Lines
pub mod Views
