pub mod Worths
pub use Rattle.spb_defs.specs.Choice
pub use Rattle.spb_defs.specs.Farthest
pub use Rattle.metric_laws.specs.Log
