pub mod Journals
pub mod KeptNotes
