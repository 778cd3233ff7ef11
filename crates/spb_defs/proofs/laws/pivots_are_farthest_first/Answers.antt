use Rattle.std.proofs.Common.{sym, subst}
use Rattle.spb_defs.specs.Farthest.{IsChoice}
use Rattle.spb_defs.proofs.FarthestFirst.{is_choice, no_other}
use Rattle.spb_defs.proofs.laws.pivots_are_farthest_first.Goals as goal

pub returns : goal.returns
returns c = λ dist samples n places enough. (
  λ e. subst (IsChoice dist samples n) (sym e) (is_choice dist samples n enough),
  no_other dist samples n places enough,
)
