mod Examples
pub mod Faulty
