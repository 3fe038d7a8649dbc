pub mod OffBus
pub mod Steps
pub mod Standing
pub mod Reaching
pub mod Entering
