pub mod Steps
pub mod Standing
pub mod Nearer
pub mod InStep
