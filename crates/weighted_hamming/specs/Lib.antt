pub use Rattle.metrics_builtin.specs.Strings
pub mod Entries
pub mod Weighted
pub mod WeightedLaws
