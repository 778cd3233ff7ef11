pub use Rattle.pivot_map.specs.Rows
