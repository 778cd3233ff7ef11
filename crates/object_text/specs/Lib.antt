pub mod Reads
pub use Rattle.spb_defs.specs.Numbers
pub use Rattle.spb_defs.specs.ObjectText
