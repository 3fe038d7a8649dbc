pub mod Widths
pub mod ItemsLeft
pub mod Insides
pub mod Lawful
pub mod Ascending
pub mod Listing
