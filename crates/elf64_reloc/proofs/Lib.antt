pub mod Lists
pub mod NamesJoined
pub mod TextPlaces
pub mod FieldPlaces
pub mod ModuleLimits
pub mod RefusedOn
