pub mod ThreeSlots
pub mod NoTrees
