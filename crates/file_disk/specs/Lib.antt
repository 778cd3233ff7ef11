pub mod Calls
pub mod Quiet
