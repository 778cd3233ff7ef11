use Rattle.std.proofs.Common.{sym, subst}
use Rattle.redo_journal.specs.Journal.{disk_of, total_of, staged_of}
use Rattle.page_store.proofs.Changing.{CommitSays}
use Rattle.page_store.proofs.change.end_change.Goals as goal

pub returns-clause-any_moment : goal.returns-clause-any_moment
returns-clause-any_moment g c = let K = g.D.Disk in
    subst (λ d. CommitSays K.is_known K.knows_crashes K.image K.crash_states K.moment K.crash_states_since (disk_of c.args.journal.now)
    (total_of c.args.journal.now) (staged_of c.args.journal.now) d) (sym c.clear.ensures.disk) c.write_change-done.ensures.any_moment
