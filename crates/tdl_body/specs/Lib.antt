pub mod Values
pub mod Effects
pub mod Places
pub mod Bounds
pub mod Examples
pub mod CellUse
