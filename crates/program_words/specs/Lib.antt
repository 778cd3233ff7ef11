pub mod CommandLine
pub mod Matched
pub mod Ranges
