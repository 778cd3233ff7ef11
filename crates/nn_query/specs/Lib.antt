pub mod Listed
pub use Rattle.spb_defs.specs.Scans
pub use Rattle.pivot_map.specs.Rows
pub use Rattle.metric_laws.specs.Log
