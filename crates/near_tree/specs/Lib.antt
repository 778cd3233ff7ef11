pub mod Roots
pub mod Searches
