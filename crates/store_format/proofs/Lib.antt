pub mod Pieces
pub mod Slots
pub mod Filled
pub mod Runs
