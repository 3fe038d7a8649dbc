pub mod ArgumentsLeft
