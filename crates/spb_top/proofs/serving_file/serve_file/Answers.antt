use Rattle.std.proofs.Common.{◌≡◌, rules, sym, ap, subst, ◌∙◌}
use Rattle.spb_edge.specs.Lines.{lines_of}
use Rattle.spb_defs.specs.declared.TheConstants.{LINE_LIMIT}
use Rattle.spb_defs.specs.declared.Asked.TheVariants.{Run}
use Rattle.spb_defs.specs.Changes.{last_state}
use Rattle.store_check.specs.Stands.{Stands}
use Rattle.store_core.specs.Parts.{disk_in}
use Rattle.spb_top.specs.Outside.{outside_of}
use Rattle.spb_top.specs.Written.{WritesReplies, LeavesInput}
use Rattle.spb_top.specs.Causes.{CauseOf, refused_by}
use Rattle.spb_top.specs.Files.{MayLeave}
use Rattle.spb_top.proofs.AtOnce.{acknowledged_at_once}
use Rattle.spb_top.proofs.OpenedFiles.{Leaves, quietly_on, IsBegun, is_read, is_settled, counts_none}
use Rattle.spb_top.proofs.ServedFiles.{refused_text, refused_input, refused_cause, stays, text, leaves, acknowledged, ends, durable, served_cause}
use Rattle.spb_top.proofs.serving_file.serve_file.Goals as goal

-- ---- the profile or the pivots aren't read

pub returns-in-Err-clause-text : goal.returns-in-Err-clause-text
returns-in-Err-clause-text g c = λ first is script left.
    let taken = g.K.Sink.taken c.args.output.now in
    subst (λ status. WritesReplies status first script (g.S.Source.left c.args.input.now) taken taken) (sym c.into.ensures)
    (refused_text c.in-Err.back.0 first script (g.S.Source.left c.args.input.now) taken)

pub returns-in-Err-clause-any_moment : goal.returns-in-Err-clause-any_moment
returns-in-Err-clause-any_moment g c = λ known tells durable before.
    let E = g.D.Disk in
    let old = c.args.disk.now in
    let back = c.in-Err.back.1.now in
    let run : Leaves E old back (MayLeave Run (outside_of g.S.Source g.K.Sink E c.args.input.now c.args.input.now c.args.output.now c.args.output.now old back)) =
    stays g.S.Source g.K.Sink E old c.args.input.now c.args.input.now c.args.output.now c.args.output.now back
    (c.in-Err.ensures.any_moment known tells durable) before in
    search (rules, run)

pub returns-in-Err-clause-acknowledged : goal.returns-in-Err-clause-acknowledged
returns-in-Err-clause-acknowledged g c = λ known tells durable first stands script left before written had has many answered c' now.
    let E = g.D.Disk in
    let old = c.args.disk.now in
    let back = c.in-Err.back.1.now in
    let run : Leaves E old back (λ i. Stands i first) = c.in-Err.ensures.any_moment known tells durable first stands in
    let there : E.crash_states back c' = search (rules, now) in
    acknowledged_at_once first (lines_of LINE_LIMIT script) before written (g.K.Sink.taken c.args.output.now) many c' had has answered
    (run.each c' (g.met.D.Disk.counts_now back (E.moment old) c' run.later there))

-- ---- the lines are answered

pub serve_opened-requires-clause-read : goal.serve_opened-requires-clause-read
serve_opened-requires-clause-read g c =
    let begun : IsBegun g.D.Disk c.args.disk.now c.in-Ok.opening =
    record { started = c.in-Ok.ensures.opens; told = c.in-Ok.ensures.told; durable = c.in-Ok.ensures.kept; faults = c.in-Ok.ensures.fault } in
    is_read g.D.Disk c.args.disk.now c.in-Ok.opening begun

pub serve_opened-requires-clause-settled : goal.serve_opened-requires-clause-settled
serve_opened-requires-clause-settled g c =
    let begun : IsBegun g.D.Disk c.args.disk.now c.in-Ok.opening =
    record { started = c.in-Ok.ensures.opens; told = c.in-Ok.ensures.told; durable = c.in-Ok.ensures.kept; faults = c.in-Ok.ensures.fault } in
    is_settled g.D.Disk c.args.disk.now c.in-Ok.opening begun

pub returns-in-Ok-serve_opened-clause-text : goal.returns-in-Ok-serve_opened-clause-text
returns-in-Ok-serve_opened-clause-text g c =
    let begun : IsBegun g.D.Disk c.args.disk.now c.in-Ok.opening =
    record { started = c.in-Ok.ensures.opens; told = c.in-Ok.ensures.told; durable = c.in-Ok.ensures.kept; faults = c.in-Ok.ensures.fault } in
    let served = c.in-Ok-serve_opened.served in
    text g.S.Source g.K.Sink g.D.Disk c.args.disk.now c.in-Ok.opening begun served.0 c.args.input.now c.serve_opened.new.input c.args.output.now
    c.serve_opened.new.output served.1.now c.in-Ok-serve_opened.ensures.answer

pub returns-in-Ok-serve_opened-clause-any_moment : goal.returns-in-Ok-serve_opened-clause-any_moment
returns-in-Ok-serve_opened-clause-any_moment g c = λ known tells durable before.
    let E = g.D.Disk in
    let old = c.args.disk.now in
    let begun : IsBegun E old c.in-Ok.opening =
    record { started = c.in-Ok.ensures.opens; told = c.in-Ok.ensures.told; durable = c.in-Ok.ensures.kept; faults = c.in-Ok.ensures.fault } in
    let served = c.in-Ok-serve_opened.served in
    let run : Leaves E old served.1.now
    (MayLeave Run (outside_of g.S.Source g.K.Sink E c.args.input.now c.serve_opened.new.input c.args.output.now c.serve_opened.new.output old served.1.now)) =
    leaves g.S.Source g.K.Sink E old c.in-Ok.opening begun served.0 c.args.input.now c.serve_opened.new.input c.args.output.now c.serve_opened.new.output
    served.1.now c.in-Ok-serve_opened.ensures.answer (c.in-Ok.ensures.any_moment known tells durable) tells before in
    search (rules, run)

pub returns-in-Ok-serve_opened-clause-acknowledged : goal.returns-in-Ok-serve_opened-clause-acknowledged
returns-in-Ok-serve_opened-clause-acknowledged g c = λ known tells durable first stands script left before written had has many answered c' now.
    let E = g.D.Disk in
    let old = c.args.disk.now in
    let begun : IsBegun E old c.in-Ok.opening =
    record { started = c.in-Ok.ensures.opens; told = c.in-Ok.ensures.told; durable = c.in-Ok.ensures.kept; faults = c.in-Ok.ensures.fault } in
    let served = c.in-Ok-serve_opened.served in
    let there : E.crash_states served.1.now c' = search (rules, now) in
    acknowledged g.S.Source g.K.Sink E old c.in-Ok.opening begun served.0 c.args.input.now c.serve_opened.new.input c.args.output.now
    c.serve_opened.new.output served.1.now c.in-Ok-serve_opened.ensures.answer known tells first stands script left before written had has many answered c'
    there

pub returns-in-Ok-serve_opened-clause-stored : goal.returns-in-Ok-serve_opened-clause-stored
returns-in-Ok-serve_opened-clause-stored g c = λ known done first is script left.
    let E = g.D.Disk in
    let old = c.args.disk.now in
    let begun : IsBegun E old c.in-Ok.opening =
    record { started = c.in-Ok.ensures.opens; told = c.in-Ok.ensures.told; durable = c.in-Ok.ensures.kept; faults = c.in-Ok.ensures.fault } in
    let served = c.in-Ok-serve_opened.served in
    let stands : Stands (E.image served.1.now) (last_state first script) =
    ends g.S.Source g.K.Sink E old c.in-Ok.opening begun served.0 c.args.input.now c.serve_opened.new.input c.args.output.now c.serve_opened.new.output
    served.1.now c.in-Ok-serve_opened.ensures.answer done first is script left in
    search (rules, stands)

pub returns-in-Ok-serve_opened-clause-durable : goal.returns-in-Ok-serve_opened-clause-durable
returns-in-Ok-serve_opened-clause-durable g c = λ known tells durable_before script left done c' now.
    let E = g.D.Disk in
    let old = c.args.disk.now in
    let begun : IsBegun E old c.in-Ok.opening =
    record { started = c.in-Ok.ensures.opens; told = c.in-Ok.ensures.told; durable = c.in-Ok.ensures.kept; faults = c.in-Ok.ensures.fault } in
    let served = c.in-Ok-serve_opened.served in
    let there : E.crash_states served.1.now c' = search (rules, now) in
    let is : c' ≡ E.image served.1.now =
    durable g.S.Source g.K.Sink E old c.in-Ok.opening begun served.0 c.args.input.now c.serve_opened.new.input c.args.output.now c.serve_opened.new.output
    served.1.now c.in-Ok-serve_opened.ensures.answer known tells script left done c' there in
    search (rules, is)

pub returns-in-Ok-serve_opened-clause-cause : goal.returns-in-Ok-serve_opened-clause-cause
returns-in-Ok-serve_opened-clause-cause g c =
    let E = g.D.Disk in
    let old = c.args.disk.now in
    let begun : IsBegun E old c.in-Ok.opening =
    record { started = c.in-Ok.ensures.opens; told = c.in-Ok.ensures.told; durable = c.in-Ok.ensures.kept; faults = c.in-Ok.ensures.fault } in
    let served = c.in-Ok-serve_opened.served in
    let cause : CauseOf Run served.0
    (outside_of g.S.Source g.K.Sink E c.args.input.now c.serve_opened.new.input c.args.output.now c.serve_opened.new.output old served.1.now) =
    served_cause g.S.Source g.K.Sink E old c.in-Ok.opening begun c.args.input.now c.serve_opened.new.input c.args.output.now c.serve_opened.new.output
    served.1.now served.0 c.in-Ok-serve_opened.ensures.answer in
    search (rules, cause)

-- ---- the slots refuse the store

pub returns-in-Err-serve_opened-clause-text : goal.returns-in-Err-serve_opened-clause-text
returns-in-Err-serve_opened-clause-text g c = λ first is script left.
    let taken = g.K.Sink.taken in
    let now = g.S.Source.left c.serve_opened.new.input in
    let out = c.args.output.now in
    subst (λ status. WritesReplies status first script now (taken out) (taken c.serve_opened.new.output)) (sym c.into-in-Err-serve_opened.ensures)
    (subst (λ (k : g.row.K.Denot). WritesReplies (refused_by c.in-Err-serve_opened.back.0) first script now (taken out) (taken k))
    (sym c.in-Err-serve_opened.ensures.answer.2) (refused_text c.in-Err-serve_opened.back.0 first script now (taken out)))

pub returns-in-Err-serve_opened-clause-input : goal.returns-in-Err-serve_opened-clause-input
returns-in-Err-serve_opened-clause-input g c = λ script left.
    let now = g.S.Source.left c.serve_opened.new.input in
    subst (λ status. LeavesInput status script now) (sym c.into-in-Err-serve_opened.ensures)
    (refused_input c.in-Err-serve_opened.back.0 script now (ap g.S.Source.left c.in-Err-serve_opened.ensures.answer.1 ∙ left))

pub returns-in-Err-serve_opened-clause-any_moment : goal.returns-in-Err-serve_opened-clause-any_moment
returns-in-Err-serve_opened-clause-any_moment g c = λ known tells durable before.
    let E = g.D.Disk in
    let old = c.args.disk.now in
    let mid = disk_in c.in-Ok.opening in
    let back = c.in-Err-serve_opened.back.1.now in
    let quiet = g.met.D.Disk.quiet_is mid back c.in-Err-serve_opened.ensures.answer.0.quiet in
    let run : Leaves E old back
    (MayLeave Run (outside_of g.S.Source g.K.Sink E c.args.input.now c.serve_opened.new.input c.args.output.now c.serve_opened.new.output old back)) =
    stays g.S.Source g.K.Sink E old c.args.input.now c.serve_opened.new.input c.args.output.now c.serve_opened.new.output back
    (λ s stands. quietly_on E old mid back (λ i. Stands i s) (g.met.D.Disk.counts_now mid) (c.in-Ok.ensures.any_moment known tells durable s stands) quiet) before in
    search (rules, run)

pub returns-in-Err-serve_opened-clause-acknowledged : goal.returns-in-Err-serve_opened-clause-acknowledged
returns-in-Err-serve_opened-clause-acknowledged g c = λ known tells durable first stands script left before written had has many answered c' now.
    let E = g.D.Disk in
    let old = c.args.disk.now in
    let mid = disk_in c.in-Ok.opening in
    let back = c.in-Err-serve_opened.back.1.now in
    let there : E.crash_states back c' = search (rules, now) in
    let quiet = g.met.D.Disk.quiet_is mid back c.in-Err-serve_opened.ensures.answer.0.quiet in
    let run : Leaves E old mid (λ i. Stands i first) = c.in-Ok.ensures.any_moment known tells durable first stands in
    acknowledged_at_once first (lines_of LINE_LIMIT script) before written (g.K.Sink.taken c.args.output.now) many c' had
    (ap g.K.Sink.taken (sym c.in-Err-serve_opened.ensures.answer.2) ∙ has) answered
    (run.each c' (g.met.D.Disk.counts_now mid (E.moment old) c' run.later (quiet.no_more c' there)))

pub returns-in-Err-serve_opened-clause-cause : goal.returns-in-Err-serve_opened-clause-cause
returns-in-Err-serve_opened-clause-cause g c =
    let E = g.D.Disk in
    let old = c.args.disk.now in
    let begun : IsBegun E old c.in-Ok.opening =
    record { started = c.in-Ok.ensures.opens; told = c.in-Ok.ensures.told; durable = c.in-Ok.ensures.kept; faults = c.in-Ok.ensures.fault } in
    let back = c.in-Err-serve_opened.back in
    let o = outside_of g.S.Source g.K.Sink E c.args.input.now c.serve_opened.new.input c.args.output.now c.serve_opened.new.output old back.1.now in
    let cause : CauseOf Run c.into-in-Err-serve_opened.result o =
    subst (λ status. CauseOf Run status o) (sym c.into-in-Err-serve_opened.ensures)
    (refused_cause g.S.Source g.K.Sink E old c.args.input.now c.serve_opened.new.input c.args.output.now c.serve_opened.new.output back.1.now back.0
    (counts_none E old c.in-Ok.opening begun back.0 back.1.now c.in-Err-serve_opened.ensures.answer.0)) in
    search (rules, cause)
