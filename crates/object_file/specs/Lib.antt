pub mod Slots
pub mod ObjectFile
