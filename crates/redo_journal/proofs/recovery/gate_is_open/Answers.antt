use Rattle.std.proofs.Common.{ap, nat_eq}
use Rattle.redo_journal.proofs.Pages.{gate_read}
use Rattle.redo_journal.proofs.recovery.gate_is_open.Goals as goal

pub returns-clause-gate : goal.returns-clause-gate
returns-clause-gate g c = λ tells. ap (λ v. nat_eq v 1) (gate_read _ _ (c.in_ok-read_piece.ensures.data tells))
