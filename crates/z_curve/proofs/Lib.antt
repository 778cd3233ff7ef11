pub mod Interleaving
pub mod Pieces
pub mod Separating
pub mod Steps
