pub mod SaidLines
pub mod DottedWords
pub mod Faults
