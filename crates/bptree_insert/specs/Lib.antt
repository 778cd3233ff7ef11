pub mod Growth
pub mod Rows
pub mod Spots
pub mod Steps
pub mod Ways
pub mod NoBoxLaws
