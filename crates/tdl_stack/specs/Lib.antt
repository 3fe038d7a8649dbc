pub mod Running
pub mod Spelling
pub mod Texts
pub mod Lawful
pub mod Judging
pub mod Spanning
pub mod Counting
pub mod Examples
