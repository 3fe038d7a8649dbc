pub mod PrefixFree
pub mod OneSpelling
pub mod Examples
