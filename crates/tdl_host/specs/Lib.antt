pub mod Hosts
pub mod CheckedCodes
pub mod Lasting
