pub mod SaidLemmas
pub mod Noting
pub mod OrderLemmas
pub mod Walking
pub mod ReadLemmas
mod Examples
mod FirstThings
mod Quiet
mod SaidForms
mod LawfulParts
mod RisingParts
pub mod Lawful
