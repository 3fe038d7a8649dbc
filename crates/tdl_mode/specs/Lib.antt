pub mod Offsets
pub mod States
pub mod Phases
pub mod Instants
pub mod Imports
pub mod Grains
pub mod WellFormed
pub mod Laws
