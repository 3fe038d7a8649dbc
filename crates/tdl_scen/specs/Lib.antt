pub mod Lines
pub mod Scenario
pub mod Senses
