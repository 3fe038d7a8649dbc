pub mod Released
pub mod KeptCells
pub mod Sum
