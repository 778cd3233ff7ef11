pub mod Summing
pub mod Counts
pub mod Lists
pub mod Under
pub mod Rooted
pub mod Branches
pub mod Changing
pub mod Reaching
