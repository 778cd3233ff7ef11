pub mod FarthestFirst
pub mod Reached
pub mod Refusals
pub mod States
pub mod Spelling
