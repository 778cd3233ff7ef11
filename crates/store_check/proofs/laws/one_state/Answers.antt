use Rattle.store_check.proofs.Standing.{one}
use Rattle.store_check.proofs.laws.one_state.Goals as goal

pub returns : goal.returns
returns c = one
