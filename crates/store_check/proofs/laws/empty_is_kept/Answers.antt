use Rattle.store_check.proofs.Standing.{empty_kept}
use Rattle.store_check.proofs.laws.empty_is_kept.Goals as goal

pub returns : goal.returns
returns c = empty_kept
