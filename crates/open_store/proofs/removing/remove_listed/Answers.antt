use Rattle.std.proofs.Common.{ℕ, subst}
use Rattle.spb_edge.specs.Crash.{CrashesLeaveOnly}
use Rattle.redo_journal.specs.Pages.{page}
use Rattle.object_file.specs.Slots.{Free}
use Rattle.open_store.specs.SlotChange.{IsSetOrNot}
use Rattle.open_store.proofs.removing.remove_listed.Goals as goal

pub returns-in_err-clear_slot-clause-any_moment : goal.returns-in_err-clear_slot-clause-any_moment
returns-in_err-clear_slot-clause-any_moment g c = λ known crashes durable marks stands.
    let K = g.D.Disk in
    let old = c.args.pages.now in
    subst (λ (n : ℕ). CrashesLeaveOnly K.moment K.crash_states_since old.disk c.clear_slot.new.pages.disk (IsSetOrNot old.total n Free marks (page (K.image old.disk))))
    c.slot-slot.ensures (c.clear_slot.ensures.any_moment known crashes durable marks stands)

pub returns-clause-any_moment : goal.returns-clause-any_moment
returns-clause-any_moment g c = λ known crashes durable marks stands.
    let K = g.D.Disk in
    let old = c.args.pages.now in
    subst (λ (n : ℕ). CrashesLeaveOnly K.moment K.crash_states_since old.disk c.clear_slot.new.pages.disk (IsSetOrNot old.total n Free marks (page (K.image old.disk))))
    c.slot-slot.ensures (c.clear_slot.ensures.any_moment known crashes durable marks stands)
