pub mod BlockNames
pub mod Blocks
pub mod Tables
pub mod Counts
pub mod Takes
pub mod Realises
pub mod HostSteps
