use Rattle.redo_journal.proofs.Staging.{lays_one}
use Rattle.redo_journal.proofs.journal.staging_lays_one.Goals as goal

pub returns : goal.returns
returns c = lays_one
