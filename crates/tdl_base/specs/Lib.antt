pub mod Numbers
pub mod Sensed
pub mod Lists
pub mod Cells
pub mod Bytes
pub mod Letters
