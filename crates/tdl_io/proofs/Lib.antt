pub mod Calls
pub mod OutsideLemmas
pub mod Appending
