use Rattle.redo_journal.proofs.Pairs.{stages_some}
use Rattle.redo_journal.proofs.journal.Journal.stage.Goals as goal

pub returns-clause-some : goal.returns-clause-some
returns-clause-some g c = stages_some c.stage.result _ _ _ _ c.stage.ensures.stages
