pub mod MemFiles
pub mod MemSink
pub mod Outside
pub mod QuietFiles
pub mod Reading
pub mod Told
