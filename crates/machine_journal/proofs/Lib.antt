pub mod FirstNotes
