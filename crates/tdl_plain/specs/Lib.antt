pub mod PlainSource
pub mod PlainTree
pub mod FormInTree
pub mod PlainProgram
pub mod Checking
pub mod Runnable
pub mod Says
pub mod Counting
