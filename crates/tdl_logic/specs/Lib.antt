pub mod Standing
pub mod Looks
pub mod Releases
pub mod Wholes
pub mod Rooms
pub mod Facts
pub mod Runs
