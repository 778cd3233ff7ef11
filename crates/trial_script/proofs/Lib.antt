pub mod Drawing
pub mod Ranges
pub mod Places
pub mod Bounds
pub mod Commands
