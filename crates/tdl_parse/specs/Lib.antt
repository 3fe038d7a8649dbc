pub mod Words
pub mod Reading
pub mod ReadingExpressions
pub mod ReadingStatements
pub mod ReadingActivities
pub mod ReadingDeclarations
pub mod Giving
pub mod Faults
