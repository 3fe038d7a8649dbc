pub mod Placing
pub mod Counted
pub mod Kept
pub mod Made
pub mod Turns
pub mod ExampleSources
