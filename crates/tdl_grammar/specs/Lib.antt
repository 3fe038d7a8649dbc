pub mod Grammar
pub mod Parsing
pub mod Counting
pub mod Goodness
pub mod Example
