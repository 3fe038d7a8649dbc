pub mod Spelled
pub mod PlainAccepted
pub mod Compiled
pub mod PlainRealises
pub mod PlainText
pub mod PlainScenarios
pub mod PlainForms
