pub mod Pairs
pub mod Repeated
pub mod Onward
pub mod SameTask
mod SameActuator
