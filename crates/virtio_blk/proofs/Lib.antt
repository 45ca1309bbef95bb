pub mod Accepting
pub mod Chains
pub mod DataMoves
pub mod NewRequests
pub mod Places
pub mod Sums
pub mod MoveForms
pub mod Whole
