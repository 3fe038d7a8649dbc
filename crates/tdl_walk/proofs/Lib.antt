pub mod Minimum
pub mod Walking
pub mod Modules
pub mod Late
