pub mod BoundLaws
pub mod Bounds
pub mod Rows
pub mod VerdictLaws
pub mod Verdicts
pub use Rattle.spb_defs.specs.Pivots
pub use Rattle.metric_laws.specs.Log
pub use Rattle.metric_laws.specs.LogLaws
