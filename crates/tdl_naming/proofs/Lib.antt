pub mod LaterNames
