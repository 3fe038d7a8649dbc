mod Examples
mod BusExamples
mod LogExamples
pub mod Leads
pub mod Sweeps
pub mod WholeTurn
pub mod EndBlocks
pub mod Covered
pub mod JobSlots
pub mod NodeSends
pub mod Replaced
pub mod LiveWindows
pub mod Releases
pub mod Arrivals
pub mod RunLemmas
