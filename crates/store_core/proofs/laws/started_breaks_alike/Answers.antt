use Rattle.store_core.proofs.BreaksAlike.{breaks_alike}
use Rattle.store_core.proofs.laws.started_breaks_alike.Goals as goal

pub returns : goal.returns
returns c = breaks_alike
