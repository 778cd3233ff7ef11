use Rattle.redo_journal.proofs.Home.{survives}
use Rattle.redo_journal.proofs.journal.home_survives.Goals as goal

pub returns : goal.returns
returns c = survives
