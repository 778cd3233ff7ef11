pub mod Errors
pub mod NewFile
