pub mod PartLemmas
pub mod WritingLemmas
pub mod AnswerLemmas
mod Chunks
mod Outcomes
pub mod ShrinkAnswerLemmas
pub mod ClauseLemmas
mod SmallScripts
mod Booting
