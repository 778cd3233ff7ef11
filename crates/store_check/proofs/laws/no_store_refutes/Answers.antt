use Rattle.store_check.proofs.Damaging.{no_store}
use Rattle.store_check.proofs.laws.no_store_refutes.Goals as goal

pub returns : goal.returns
returns c = no_store
