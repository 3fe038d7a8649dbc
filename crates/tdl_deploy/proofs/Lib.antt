pub mod ExampleCounter
pub mod ExampleCounterRows
mod ExampleGuardRows
mod ExampleSwitchRows
pub mod ExampleModuleRows
mod ExamplePlacing
