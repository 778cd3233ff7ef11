pub mod Sorted
pub mod Entries
pub mod Members
pub mod RowOrder
pub mod Tables
