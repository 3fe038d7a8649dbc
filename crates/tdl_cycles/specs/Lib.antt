pub mod Divisors
pub mod Instants
