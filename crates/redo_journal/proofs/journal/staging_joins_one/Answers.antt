use Rattle.redo_journal.proofs.Staging.{joins_one}
use Rattle.redo_journal.proofs.journal.staging_joins_one.Goals as goal

pub returns : goal.returns
returns c = joins_one
