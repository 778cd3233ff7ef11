pub mod Searching
pub mod SortedRows
