pub mod Texts
pub mod Extending
pub mod Printing
