use Rattle.store_check.proofs.Standing.{is_state}
use Rattle.store_check.proofs.laws.stands_is_state.Goals as goal

pub returns : goal.returns
returns c = is_state
