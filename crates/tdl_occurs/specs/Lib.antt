pub mod Invocations
