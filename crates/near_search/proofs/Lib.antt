pub mod Counting
pub mod Found
pub mod Lists
pub mod Looking
pub mod Orders
pub mod Turns
