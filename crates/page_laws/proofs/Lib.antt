pub mod Plain
pub mod ZeroGroups
