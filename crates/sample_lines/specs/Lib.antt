pub mod SampleLines
pub mod Answers
pub mod Worked
