pub mod FileLaws
pub mod Evaluations
pub mod QueryLaws
pub mod Sound
pub mod StoreLaws
