pub mod Placed
pub mod Rows
pub mod Named
pub mod Passes
pub mod Texts
pub mod AtRelease
