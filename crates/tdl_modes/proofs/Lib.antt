pub mod StartModes
pub mod NumberedDeclarations
pub mod ShortTimes
