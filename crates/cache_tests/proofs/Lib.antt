pub mod NoneFree
