pub mod Places
pub mod Returns
pub mod AttemptStages
