pub mod WordLemmas
pub mod PlanLemmas
pub mod FoundFaults
pub mod Names
pub mod PlainWords
pub mod Walks
