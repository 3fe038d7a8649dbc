pub mod Parts
pub mod Occurrences
