pub mod Testing
pub mod Telling
