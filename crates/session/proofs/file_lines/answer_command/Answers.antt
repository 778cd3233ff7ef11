use Rattle.std.proofs.Common.{sym, ap, subst, ◌∙◌}
use Rattle.spb_defs.specs.Step.{reply_of, changed_state}
use Rattle.open_store.specs.Store.{IsInState}
use Rattle.session.proofs.FileLaws.{samples_of, sample_late, sample_state, count_reply, count_state, range_state, near_state, join_state}
use Rattle.session.proofs.file_lines.answer_command.Goals as goal

pub returns-in-Sample-clause-reply : goal.returns-in-Sample-clause-reply
returns-in-Sample-clause-reply g c = λ s in_state.
    sample_late s c.in-Sample.object (samples_of g.D.Disk.is_known g.D.Disk.image c.args.store.now s in_state) ∙ ap (reply_of s) (sym c.in-Sample.is)

pub returns-in-Sample-clause-next : goal.returns-in-Sample-clause-next
returns-in-Sample-clause-next g c = λ s in_state.
    subst (IsInState g.D.Disk.is_known g.D.Disk.image c.args.store.now)
    (sample_state s c.in-Sample.object (samples_of g.D.Disk.is_known g.D.Disk.image c.args.store.now s in_state)
    ∙ ap (changed_state s) (sym c.in-Sample.is)) in_state

pub returns-in-Count-clause-reply : goal.returns-in-Count-clause-reply
returns-in-Count-clause-reply g c = λ s in_state. count_reply s c.in-Count.c c.count.result (c.count.ensures.members s in_state) ∙ ap (reply_of s) (sym c.in-Count.is)

pub returns-in-Count-clause-next : goal.returns-in-Count-clause-next
returns-in-Count-clause-next g c = λ s in_state.
    subst (IsInState g.D.Disk.is_known g.D.Disk.image c.args.store.now) (count_state s c.in-Count.c ∙ ap (changed_state s) (sym c.in-Count.is)) in_state

pub returns-in-Range-clause-next : goal.returns-in-Range-clause-next
returns-in-Range-clause-next g c = λ s in_state.
    subst (IsInState g.D.Disk.is_known g.D.Disk.image c.args.store.now) (range_state s c.in-Range.c c.in-Range.r c.in-Range.object ∙ ap (changed_state s) (sym c.in-Range.is)) in_state

pub returns-in-Near-clause-next : goal.returns-in-Near-clause-next
returns-in-Near-clause-next g c = λ s in_state.
    subst (IsInState g.D.Disk.is_known g.D.Disk.image c.args.store.now) (near_state s c.in-Near.c c.in-Near.k c.in-Near.object ∙ ap (changed_state s) (sym c.in-Near.is)) in_state

pub returns-clause-next : goal.returns-clause-next
returns-clause-next g c = λ s in_state.
    subst (IsInState g.D.Disk.is_known g.D.Disk.image c.args.store.now) (join_state s c.in-Join.c c.in-Join.d c.in-Join.r ∙ ap (changed_state s) (sym c.in-Join.is)) in_state
