pub mod FoundRows
