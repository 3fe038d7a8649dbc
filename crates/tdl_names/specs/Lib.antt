pub mod Places
pub mod Tables
pub mod Standing
pub mod Seen
