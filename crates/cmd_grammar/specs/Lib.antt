pub mod ReadsCommand
pub mod HoldsObject
pub mod LineWords
pub use Rattle.spb_defs.specs.Numbers
pub use Rattle.spb_defs.specs.ObjectText
pub use Rattle.spb_defs.specs.Grammar
pub use Rattle.spb_defs.specs.ReplyText
pub use Rattle.spb_defs.specs.Words
