pub mod Identifiers
pub mod Noting
pub mod Puts
pub mod Beyond
pub mod Repeats
pub mod ReadLemmas
pub mod RemoteLemmas
mod Examples
mod Numbered
mod Apart
mod NodesSaid
mod Hosted
mod Near
pub mod Lawful
pub mod OneNode
