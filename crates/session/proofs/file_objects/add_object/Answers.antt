use Rattle.std.proofs.Common.{◌≡◌, ℕ, List, Option, Result, Err, sym, ap, subst, ◌∙◌}
use Rattle.std.specs.Prelude.{IfOk, OnOk}
use Rattle.spb_edge.specs.Crash.{CrashesLeaveOnly}
use Rattle.spb_defs.specs.declared.Command.TheVariants.{Add}
use Rattle.spb_defs.specs.declared.Reply.{Reply}
use Rattle.spb_defs.specs.State.{State}
use Rattle.spb_defs.specs.Step.{reply_of, changed_state}
use Rattle.open_store.specs.declared.errors.First.{First}
use Rattle.open_store.specs.Store.{StoreView, IsInState, with_member}
use Rattle.open_store.specs.Answers.{Spends, StandsForEither}
use Rattle.session.proofs.FileLaws.{added_reply, added_state, refused_add, kept_add, left_add, left_same}
use Rattle.session.proofs.file_objects.add_object.Goals as goal

pub returns-in-Ok-clause-reply : goal.returns-in-Ok-clause-reply
returns-in-Ok-clause-reply g c = λ s in_state. added_reply s c.args.c c.args.id c.args.object.now (c.in-Ok.ensures.replies s in_state)

pub returns-in-Ok-clause-next : goal.returns-in-Ok-clause-next
returns-in-Ok-clause-next g c = λ s in_state.
    subst (IsInState g.D.Disk.is_known g.D.Disk.image c.add.new.self)
    (ap (with_member s c.args.c c.args.id) c.as_slice.ensures ∙ added_state s c.args.c c.args.id c.args.object.now (c.in-Ok.ensures.replies s in_state))
    (c.in-Ok.ensures.step s in_state)

pub returns-in-Ok-clause-any_moment : goal.returns-in-Ok-clause-any_moment
returns-in-Ok-clause-any_moment g c = λ s in_state crashes durable.
    let K = g.D.Disk in
    subst (λ (t : State). CrashesLeaveOnly K.moment K.crash_states_since c.args.store.now.pages.disk c.add.new.self.pages.disk (StandsForEither s t))
    (ap (with_member s c.args.c c.args.id) c.as_slice.ensures ∙ added_state s c.args.c c.args.id c.args.object.now (c.in-Ok.ensures.replies s in_state))
    (c.in-Ok.ensures.any_moment s in_state crashes durable)

pub returns-in-Err-clause-reply : goal.returns-in-Err-clause-reply
returns-in-Err-clause-reply g c = λ s in_state.
    subst (λ (r : Result Reply First). IfOk r (λ said. said ≡ reply_of s (Add c.args.c c.args.id c.args.object.now))) (sym c.reply_to.ensures)
    (refused_add s c.args.c c.args.id c.args.object.now c.in-Err.e (c.in-Err.ensures.replies s in_state))

pub returns-in-Err-clause-next : goal.returns-in-Err-clause-next
returns-in-Err-clause-next g c = λ s in_state.
    let K = g.D.Disk in
    subst (λ (r : Result Reply First). OnOk r (IsInState K.is_known K.image c.add.new.self (changed_state s (Add c.args.c c.args.id c.args.object.now))))
    (sym c.reply_to.ensures)
    (kept_add s c.args.c c.args.id c.args.object.now c.args.store.now c.add.new.self (IsInState K.is_known K.image) c.in-Err.e
    (c.in-Err.ensures.replies s in_state) c.in-Err.ensures.refused in_state)

pub returns-in-Err-clause-any_moment : goal.returns-in-Err-clause-any_moment
returns-in-Err-clause-any_moment g c = λ s in_state crashes durable.
    let K = g.D.Disk in
    let old : StoreView g.row.D.Denot g.row.M.Denot = c.args.store.now in
    left_add s c.args.c c.args.id c.args.object.now old c.add.new.self
    (λ (v : StoreView g.row.D.Denot g.row.M.Denot) (t : State). CrashesLeaveOnly K.moment K.crash_states_since old.pages.disk v.pages.disk (StandsForEither s t))
    c.add.new.self.spent c.in-Err.e
    (subst (λ (spent : Option First). Spends spent (Err c.in-Err.e) old c.add.new.self c.add.new.self.spent) c.requires.open c.in-Err.ensures.spends)
    (c.in-Err.ensures.replies s in_state) c.in-Err.ensures.refused
    (λ t. left_same K.is_known K.knows_crashes K.size_of K.image K.crash_states K.moment K.crash_states_since g.met.D.Disk.only_now old s t in_state durable)
    (subst (λ (object : List ℕ). CrashesLeaveOnly K.moment K.crash_states_since old.pages.disk c.add.new.self.pages.disk
    (StandsForEither s (with_member s c.args.c c.args.id object)))
    c.as_slice.ensures (c.in-Err.ensures.any_moment s in_state crashes durable))
