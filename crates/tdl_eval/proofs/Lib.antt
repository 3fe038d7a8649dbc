pub mod Beside
pub mod Valued
pub mod Done
