pub mod Weights
pub mod Bounded
pub mod Numbering
pub mod ModuleList
