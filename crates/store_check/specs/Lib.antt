pub mod Layout
pub mod Profile
pub mod Pivots
pub mod Stands
pub mod Damage
pub mod Opened
