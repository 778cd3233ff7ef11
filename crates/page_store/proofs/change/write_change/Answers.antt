use Rattle.redo_journal.specs.Journal.{disk_of, total_of, staged_of}
use Rattle.page_store.proofs.Changing.{settled, changed}
use Rattle.page_store.proofs.change.write_change.Goals as goal

pub returns-clause-any_moment : goal.returns-clause-any_moment
returns-clause-any_moment g c = let K = g.D.Disk in
    settled K.is_known K.knows_crashes K.image K.crash_states K.moment K.crash_states_since (disk_of c.args.journal.now) (disk_of c.commit.new.self)
    (disk_of c.settle.new.self) (total_of c.args.journal.now) (total_of c.commit.new.self) (staged_of c.args.journal.now) (staged_of c.commit.new.self)
    c.commit.ensures.staged.1 c.commit.ensures.staged.0 c.commit.ensures.told.0 c.commit.ensures.told.1 c.commit.ensures.any_moment
    c.in_ok-commit.ensures.commits c.in_ok-commit.ensures.kept c.settle.ensures.any_moment

pub returns-clause-commits : goal.returns-clause-commits
returns-clause-commits g c = let K = g.D.Disk in
    changed K.is_known K.knows_crashes K.image K.crash_states K.moment K.crash_states_since c.settle.result (disk_of c.args.journal.now)
    (disk_of c.commit.new.self) (disk_of c.settle.new.self) (total_of c.args.journal.now) (total_of c.commit.new.self) (staged_of c.args.journal.now)
    (staged_of c.commit.new.self) c.commit.ensures.staged.1 c.commit.ensures.staged.0 c.commit.ensures.told.0 c.in_ok-commit.ensures.commits
    c.settle.ensures.home
