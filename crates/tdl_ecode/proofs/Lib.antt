pub mod Apart
pub mod Readings
pub mod Unfinished
