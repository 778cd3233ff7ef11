use Rattle.std.proofs.Common.{refl}
use Rattle.curve_laws.proofs.Masks.{is_below}
use Rattle.curve_laws.proofs.grid.is_below.Goals as goal

pub returns : goal.returns
returns c = is_below 32 c.args.bits c.args.coordinate _ c.requires.few refl
