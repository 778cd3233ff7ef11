pub mod Passing
pub mod Ends
pub mod Halves
pub mod Joins
