mod FirstPlaces
pub mod Commons
pub mod Residues
pub mod NoPlaces
mod NoFaults
mod Examples
mod SampleFacts
