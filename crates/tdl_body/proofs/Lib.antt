pub mod Equations
pub mod Reading
pub mod StatementExamples
pub mod BoundEquations
pub mod BoundExamples
