pub mod Templates
pub mod Looks
pub mod Readable
