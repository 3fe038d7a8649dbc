pub mod Equations
pub mod ExprCodes
pub mod BodyCodes
pub mod Appended
pub mod AppendedBlocks
pub mod SoundCodes
pub mod SoundBodies
pub mod LawfulBodies
