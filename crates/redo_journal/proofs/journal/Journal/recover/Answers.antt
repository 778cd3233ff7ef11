use Rattle.redo_journal.proofs.Runs.{stood}
use Rattle.redo_journal.proofs.Settle.{recovers_home, recovers_closed}
use Rattle.redo_journal.proofs.journal.Journal.recover.Goals as goal

pub returns-clause-home : goal.returns-clause-home
returns-clause-home g c = λ tells marks home stands. recovers_home _ c.recover_staged.result _ _ marks home (c.recover_staged.ensures.recovers tells) stands

pub returns-clause-closed : goal.returns-clause-closed
returns-clause-closed g c = λ tells. recovers_closed _ c.recover_staged.result _ _ (c.recover_staged.ensures.recovers tells)

pub returns-clause-any_moment : goal.returns-clause-any_moment
returns-clause-any_moment g c = λ tells crashes only marks home stands.
    stood g.D.Disk.moment g.D.Disk.crash_states_since _ _ _ _ _ marks home only stands (c.recover_staged.ensures.any_start tells crashes marks home stands)
