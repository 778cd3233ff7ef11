pub mod Among
pub mod Children
pub mod LeafSettling
pub mod Leaves
pub mod Places
pub mod Written
