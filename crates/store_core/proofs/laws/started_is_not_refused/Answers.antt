use Rattle.store_core.proofs.Excluding.{is_store, breaks_no_first}
use Rattle.store_core.proofs.laws.started_is_not_refused.Goals as goal

pub returns : goal.returns
returns c = record { store = is_store; sound = breaks_no_first }
