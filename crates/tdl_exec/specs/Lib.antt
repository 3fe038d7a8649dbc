pub mod Stepping
pub mod Going
pub mod Views
