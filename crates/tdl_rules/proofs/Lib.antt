pub mod Equations
pub mod Order
pub mod Firsts
pub mod InOrder
pub mod Ascending
pub mod Occurrences
pub mod Sources
mod Layers
mod SpaceExamples
mod NameExamples
mod SortExamples
mod ModeExamples
mod TimeExamples
mod BoundExamples
mod CountExamples
mod Examples
