pub mod Dividing
pub mod Rising
pub mod Sorting
