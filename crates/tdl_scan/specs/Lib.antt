pub mod Lexemes
pub mod Pieces
pub mod Lengths
pub mod Places
pub mod Tokens
