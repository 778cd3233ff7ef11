pub mod SlotRuns
pub mod Tables
pub mod States
pub mod Addition
pub mod Removal
