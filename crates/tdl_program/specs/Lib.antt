pub mod Literals
pub mod Ordinals
pub mod Expressions
pub mod Bodies
pub mod Activities
pub mod Programs
pub mod KeepsLimits
pub mod Examples
