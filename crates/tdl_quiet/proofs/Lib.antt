pub mod Places
pub mod Standing
pub mod OpenJobs
pub mod NextCalls
pub mod NextEvents
pub mod Resting
pub mod QuietRuns
pub mod Totals
pub mod Sizes
pub mod RowCounts
mod ExampleEvents
