use Rattle.spb_defs.proofs.Reached.{changes_reached, reached_changes}
use Rattle.spb_defs.proofs.laws.reached_states.Goals as goal

pub returns : goal.returns
returns c = record { changes = changes_reached; all = reached_changes }
