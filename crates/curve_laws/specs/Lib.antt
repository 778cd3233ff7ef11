pub mod Fields
pub mod Grid
pub mod GridLaws
pub mod Laws
pub mod Vectors
