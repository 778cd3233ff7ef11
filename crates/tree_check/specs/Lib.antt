pub mod PageSets
pub mod Damage
pub mod Checks
