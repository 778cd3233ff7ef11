pub mod Placed
pub mod Reading
pub mod Standing
pub mod Damaging
pub mod Writing
pub mod Zeros
pub mod Opening
pub mod EmptyRoots
