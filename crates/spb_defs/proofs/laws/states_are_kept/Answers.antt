use Rattle.spb_defs.proofs.States.{in_memory, in_file, by_line, reached}
use Rattle.spb_defs.proofs.laws.states_are_kept.Goals as goal

pub returns : goal.returns
returns c = record { in_memory = in_memory; in_file = in_file; next = by_line; reached = reached }
