use Rattle.redo_journal.proofs.Settle.{redone_home}
use Rattle.redo_journal.proofs.journal.home_is_redone.Goals as goal

pub returns : goal.returns
returns c = redone_home
