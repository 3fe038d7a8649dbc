pub mod Counting
pub mod Numbered
pub mod Standing
pub mod Turns
pub mod Within
pub mod Examples
