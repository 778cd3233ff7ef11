pub mod Bounds
pub mod Corners
pub mod Holding
pub mod TreeCorners
