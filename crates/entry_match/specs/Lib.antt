pub mod Matching
pub mod MatchLaws
pub mod Mismatches
