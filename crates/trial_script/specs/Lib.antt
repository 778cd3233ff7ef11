pub mod Draws
pub mod Script
pub mod Totals
pub mod Lines
pub mod Worked
