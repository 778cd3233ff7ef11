pub mod Refuting
pub mod Standing
