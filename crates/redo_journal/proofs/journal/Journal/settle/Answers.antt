use Rattle.std.proofs.lemmas.Result.{on_ok_weaker}
use Rattle.redo_journal.proofs.Settle.{redone_home}
use Rattle.redo_journal.proofs.journal.Journal.settle.Goals as goal

pub returns-clause-home : goal.returns-clause-home
returns-clause-home g c = λ tells holds marks home stands.
    on_ok_weaker c.settle_staged.result (λ redone. redone_home _ _ _ marks home redone stands) (c.settle_staged.ensures.settles tells holds)
