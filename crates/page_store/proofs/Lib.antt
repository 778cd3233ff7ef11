pub mod Changing
pub mod Staging
pub mod Same
pub mod Worked
