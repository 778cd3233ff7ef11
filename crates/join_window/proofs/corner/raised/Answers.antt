use Rattle.std.proofs.Common.{refl}
use Rattle.join_window.proofs.Reaches.{raised-is}
use Rattle.join_window.proofs.corner.raised.Goals as goal

pub returns : goal.returns
returns c = raised-is c.args.bits c.args.r c.args.coordinate _ _ _ c.requires.few refl c.saturating_add.ensures c.min.ensures
