pub mod Misses
pub mod MissLaws
pub mod Cached
