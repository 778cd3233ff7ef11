use Rattle.spb_top.proofs.Completing.{completed}
use Rattle.spb_top.proofs.laws.causes_complete.Goals as goal

pub returns : goal.returns
returns c = completed c.no_store_refutes.ensures c.breaks_refute.ensures
