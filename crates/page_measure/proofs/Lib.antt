pub mod PageDigests
pub mod RulesWithin
pub mod Sites
pub mod FieldsInPieces
pub mod WrongFields
