use Rattle.std.proofs.Common.{sym, subst}
use Rattle.spb_defs.specs.declared.Asked.TheVariants.{Check}
use Rattle.spb_top.specs.Outside.{unread_outside}
use Rattle.spb_top.specs.Causes.{CauseOf}
use Rattle.spb_top.proofs.CheckedFiles.{may_leave, ends_as, refused_cause}
use Rattle.spb_top.proofs.checking.check_file.Goals as goal

-- ---- the store isn't opened

pub returns-in-Err-clause-any_moment : goal.returns-in-Err-clause-any_moment
returns-in-Err-clause-any_moment g c = λ known tells durable before.
    may_leave g.K.Sink g.D.Disk c.args.output.now c.args.output.now c.args.disk.now c.count_objects.new.disk before
    (c.count_objects.ensures.any_moment known tells durable)

pub returns-in-Err-clause-cause : goal.returns-in-Err-clause-cause
returns-in-Err-clause-cause g c =
    let E = g.D.Disk in
    let out = c.args.output.now in
    let old = c.args.disk.now in
    let new = c.count_objects.new.disk in
    subst (λ status. CauseOf Check status (unread_outside g.K.Sink E out out old new)) (sym c.into.ensures)
    (refused_cause g.K.Sink E out out old new c.in-Err.refusal c.in-Err.ensures.answer)

-- ---- there is no memory for the line

pub returns-in_default-clause-any_moment : goal.returns-in_default-clause-any_moment
returns-in_default-clause-any_moment g c = λ known tells durable before.
    may_leave g.K.Sink g.D.Disk c.args.output.now c.args.output.now c.args.disk.now c.count_objects.new.disk before
    (c.count_objects.ensures.any_moment known tells durable)

-- ---- the line is printed

pub returns-clause-any_moment : goal.returns-clause-any_moment
returns-clause-any_moment g c = λ known tells durable before.
    may_leave g.K.Sink g.D.Disk c.args.output.now c.print_line.new.output c.args.disk.now c.count_objects.new.disk before
    (c.count_objects.ensures.any_moment known tells durable)

pub returns-clause-stored : goal.returns-clause-stored
returns-clause-stored g c = λ known done.
    ends_as g.K.Sink g.D.Disk c.args.output.now c.print_line.new.output c.args.disk.now c.count_objects.new.disk c.in-Ok.objects
    (c.in-Ok.ensures.answer.0 known)
