pub mod WordFacts
pub mod ViewFacts
pub mod ByteLaws
pub mod Fields
pub mod Filling
pub mod Values
