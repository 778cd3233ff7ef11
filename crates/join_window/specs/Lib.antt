pub mod Corners
pub mod WindowPairs
