pub mod Lexemes
pub mod Cutting
pub mod Values
pub mod Pieces
pub mod Cuts
pub mod Places
pub mod Found
pub mod Spans
