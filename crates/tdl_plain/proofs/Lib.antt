pub mod Plain
pub mod Values
pub mod Unique
pub mod Checked
