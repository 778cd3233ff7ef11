use Rattle.std.proofs.Common.{◌≡◌, Result, sym, subst}
use Rattle.std.specs.Prelude.{IfOk, OnOk}
use Rattle.spb_defs.specs.declared.Command.TheVariants.{Get}
use Rattle.spb_defs.specs.declared.Reply.{Reply}
use Rattle.spb_defs.specs.Step.{reply_of, changed_state}
use Rattle.open_store.specs.declared.errors.First.{First}
use Rattle.open_store.specs.Store.{StoreView, IsInState}
use Rattle.session.proofs.FileLaws.{given_reply, get_state, refused_get, error_kept, left_quiet}
use Rattle.session.proofs.file_objects.get_object.Goals as goal

pub returns-in-Ok-clause-reply : goal.returns-in-Ok-clause-reply
returns-in-Ok-clause-reply g c = λ s in_state. given_reply s c.args.c c.args.id c.get.new.object (c.in-Ok.ensures.gives s in_state)

pub returns-in-Ok-clause-next : goal.returns-in-Ok-clause-next
returns-in-Ok-clause-next g c = λ s in_state.
    subst (IsInState g.D.Disk.is_known g.D.Disk.image c.get.new.self) (get_state s c.args.c c.args.id) (c.in-Ok.ensures.step s in_state)

pub returns-in-Ok-clause-any_moment : goal.returns-in-Ok-clause-any_moment
returns-in-Ok-clause-any_moment g c = λ s in_state crashes durable.
    let K = g.D.Disk in
    left_quiet K.is_known K.knows_crashes K.size_of K.image K.crash_states K.moment K.crash_states_since g.met.D.Disk.only_now c.args.store.now s
    (changed_state s (Get c.args.c c.args.id)) c.get.new.self.pages.disk in_state durable
    (g.met.D.Disk.quiet_is c.args.store.now.pages.disk c.get.new.self.pages.disk c.get.ensures.calm.is_quiet)

pub returns-in-Err-clause-reply : goal.returns-in-Err-clause-reply
returns-in-Err-clause-reply g c = λ s in_state.
    subst (λ (r : Result Reply First). IfOk r (λ said. said ≡ reply_of s (Get c.args.c c.args.id))) (sym c.reply_to.ensures)
    (refused_get s c.args.c c.args.id c.in-Err.e (c.in-Err.ensures.replies s in_state))

pub returns-in-Err-clause-next : goal.returns-in-Err-clause-next
returns-in-Err-clause-next g c = λ s in_state.
    let K = g.D.Disk in
    let old : StoreView g.row.D.Denot g.row.M.Denot = c.args.store.now in
    subst (λ (r : Result Reply First). OnOk r (IsInState K.is_known K.image c.get.new.self (changed_state s (Get c.args.c c.args.id)))) (sym c.reply_to.ensures)
    (error_kept old c.get.new.self (λ (v : StoreView g.row.D.Denot g.row.M.Denot). IsInState K.is_known K.image v (changed_state s (Get c.args.c c.args.id)))
    c.in-Err.e c.in-Err.ensures.refused (subst (IsInState K.is_known K.image old) (get_state s c.args.c c.args.id) in_state))
