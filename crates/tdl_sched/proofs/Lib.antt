pub mod Noting
pub mod ReadLemmas
pub mod WindowsSaid
pub mod InvocationsSaid
pub mod PlainWords
pub mod DecimalWords
pub mod NamesFound
pub mod WindowsRead
