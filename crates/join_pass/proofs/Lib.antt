pub mod Damages
pub mod Passing
pub mod Windows
