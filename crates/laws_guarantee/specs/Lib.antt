pub mod UserTraps
pub mod Reached
pub mod Guarantee
pub mod Guarded
pub mod SurveyGuarantee
