pub mod Pieces
pub mod Cuts
pub mod Reading
pub mod Ranges
pub mod Replays
