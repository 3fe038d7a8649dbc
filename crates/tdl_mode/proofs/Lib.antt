mod PhaseExamples
pub mod ModuleByModule
pub mod Agreeing
pub mod NextOffsets
pub mod Resting
pub mod Seeing
pub mod StateLength
mod Bases
mod Activities
