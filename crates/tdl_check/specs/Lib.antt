pub mod Tells
pub mod Groups
pub mod IsChecked
