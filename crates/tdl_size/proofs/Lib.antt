pub mod Equations
pub mod Gives
pub mod Expressions
pub mod Statements
pub mod Activities
pub mod Declarations
pub mod Identifiers
