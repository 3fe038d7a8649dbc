pub mod Entries
pub mod SaidPlaces
pub mod Gathering
pub mod Importers
pub mod PlacementRules
pub mod LawfulPlacement
