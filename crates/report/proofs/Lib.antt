pub mod NoteLists
pub mod Places
