pub mod Sources
pub mod Taken
pub mod Inputs
pub mod Refused
pub mod Answers
pub mod Due
pub mod Loads
pub mod Headline
