pub mod Moving
pub mod Members
pub mod Cells
pub mod Starting
