pub mod Best
pub mod Choosing
pub mod Passing
pub mod SamplesAt
