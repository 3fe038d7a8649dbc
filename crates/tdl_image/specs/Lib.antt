pub mod Spelling
pub mod Identifiers
pub mod Spellable
pub mod Example
