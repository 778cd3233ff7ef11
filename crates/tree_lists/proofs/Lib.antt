pub mod Orders
pub mod Changes
pub mod Finding
pub mod Counting
