use Rattle.store_check.proofs.Damaging.{refuted}
use Rattle.store_check.proofs.laws.breaks_refute.Goals as goal

pub returns : goal.returns
returns c = refuted
