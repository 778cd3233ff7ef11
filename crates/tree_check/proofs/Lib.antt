pub mod Sets
pub mod Order
pub mod Breaking
pub mod Advancing
pub mod Stepping
pub mod Rooting
pub mod Sound
