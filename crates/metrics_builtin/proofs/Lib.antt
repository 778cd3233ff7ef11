pub mod Answered
pub mod Merge
