pub mod Reading
pub mod Regions
pub mod Shelved
