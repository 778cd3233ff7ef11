use Rattle.std.proofs.Common.{◌≤◌, IsTrue, length, subst, sym, ◌∙◌, arith}
use Rattle.std.proofs.lemmas.Result.{on_ok_weaker}
use Rattle.spb_edge.specs.Crash.{IsDurable}
use Rattle.spb_edge.specs.Moments.{weaker, joined}
use Rattle.store_format.specs.NewFile.{IsUnderWay}
use Rattle.store_format.proofs.Filled.{stands, settled}
use Rattle.store_format.proofs.Runs.{asking}
use Rattle.store_format.proofs.Slots.{object_short}
use Rattle.store_format.proofs.empty_store.format.Goals as goal

pub new-requires-clause-short : goal.new-requires-clause-short
new-requires-clause-short g c = λ k d lt. object_short c.args.profile.now.space _ c.requires.range.fit (c.requires.objects k d lt)

pub returns-clause-formatted : goal.returns-clause-formatted
returns-clause-formatted g c = λ tells.
    let profile = c.args.profile.now in
    let pivots = c.args.pivots.now in
    let few : length pivots ≤ 8 = omega (arith, c.requires.count, c.requires.range.few_pivots) in
    let asked : IsTrue (g.D.Disk.is_known c.is_empty.new.disk) = subst IsTrue (sym c.is_empty.ensures.disk.0.0.0) tells in
    on_ok_weaker c.make.result
    (λ filled. stands profile pivots c.new.result c.new.ensures few
    (λ home reads there free. c.empty_is_kept.ensures home profile pivots reads c.requires.roots there c.requires.count c.requires.objects free)
    (g.D.Disk.image c.make.new.disk) filled.0 filled.1)
    (c.make.ensures.fills asked)

pub returns-clause-any_moment : goal.returns-clause-any_moment
returns-clause-any_moment g c = λ tells crashes only none.
    let profile = c.args.profile.now in
    let pivots = c.args.pivots.now in
    let start = c.args.disk.now in
    let then = c.is_empty.new.disk in
    let few : length pivots ≤ 8 = omega (arith, c.requires.count, c.requires.range.few_pivots) in
    let quiet = g.met.D.Disk.quiet_is start then c.is_empty.ensures.quiet in
    let asked : IsTrue (g.D.Disk.is_known then) = subst IsTrue (sym c.is_empty.ensures.disk.0.0.0) tells in
    let asked_crashes : IsTrue (g.D.Disk.knows_crashes then) = subst IsTrue (sym c.is_empty.ensures.disk.0.0.1) crashes in
    let still : IsDurable (g.D.Disk.image then) (g.D.Disk.crash_states then) =
    λ image left. only image (quiet.no_more image left) ∙ sym (quiet.image_is tells) in
    weaker g.D.Disk.moment g.D.Disk.crash_states_since start c.make.new.disk (IsUnderWay c.new.result) _
    (settled profile pivots c.new.result c.new.ensures few
    (λ home reads there free. c.empty_is_kept.ensures home profile pivots reads c.requires.roots there c.requires.count c.requires.objects free))
    (joined g.D.Disk.moment g.D.Disk.crash_states_since start then c.make.new.disk (IsUnderWay c.new.result)
    (asking g.D.Disk.moment g.D.Disk.crash_states_since c.new.result start then g.D.Disk.is_known g.D.Disk.knows_crashes g.D.Disk.size_of g.D.Disk.image
    g.D.Disk.crash_states quiet (g.met.D.Disk.only_now start) only (sym (g.met.D.Disk.length_is start tells) ∙ none))
    (c.make.ensures.any_moment asked asked_crashes still))
