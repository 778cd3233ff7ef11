pub mod Passing
pub mod Damage
