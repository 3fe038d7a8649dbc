pub mod FirstPlaces
pub mod NamedItems
pub mod ModuleScopes
