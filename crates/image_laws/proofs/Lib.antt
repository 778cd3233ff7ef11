pub mod Listing
pub mod Holding
pub mod Eight
pub mod Whole
pub mod Kept
pub mod Matched
pub mod Naming
