pub mod Grammar
pub mod BundleGrammar
pub mod Reading
pub mod BundleReading
pub mod Answers
