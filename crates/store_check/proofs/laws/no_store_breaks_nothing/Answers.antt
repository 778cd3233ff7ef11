use Rattle.store_check.proofs.Damaging.{breaks_nothing}
use Rattle.store_check.proofs.laws.no_store_breaks_nothing.Goals as goal

pub returns : goal.returns
returns c = breaks_nothing
