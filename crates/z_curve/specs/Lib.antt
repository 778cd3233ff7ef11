pub use Rattle.curve_laws.specs.Grid
pub use Rattle.curve_laws.specs.Laws
pub use Rattle.curve_laws.specs.Vectors
pub mod Spacing
pub mod ZLaws
pub mod ZOrder
