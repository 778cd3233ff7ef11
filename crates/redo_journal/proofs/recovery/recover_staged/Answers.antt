use Rattle.std.proofs.Common.{◌≡◌, ◌∙◌, List, ℕ, Ok, Bool, true, IsTrue, subst, sym, ap}
use Rattle.spb_edge.specs.Crash.{CrashesLeaveOnly}
use Rattle.redo_journal.specs.Redo.{has_open_gate, journal_entries, RecoversTo}
use Rattle.redo_journal.specs.Change.{ReadsChange, HoldsChange}
use Rattle.redo_journal.proofs.Runs.{recovered}
use Rattle.redo_journal.proofs.recovery.recover_staged.Goals as goal

pub returns-in_err-settle_staged-clause-any_start : goal.returns-in_err-settle_staged-clause-any_start
returns-in_err-settle_staged-clause-any_start g c = λ tells crashes marks home stands.
    let total = c.args.staged.now.total in
    let tells_found : IsTrue (g.D.Disk.is_known c.find_kept_change.new.disk) = subst IsTrue (sym c.find_kept_change.ensures.disk.0.0) tells in
    let crashes_found : IsTrue (g.D.Disk.knows_crashes c.find_kept_change.new.disk) = subst IsTrue (sym c.find_kept_change.ensures.disk.0.1) crashes in
    let same : g.D.Disk.image c.find_kept_change.new.disk ≡ g.D.Disk.image c.args.disk.now = c.find_kept_change.ensures.image tells in
    let found : ReadsChange total (Ok true) (g.D.Disk.image c.args.disk.now) c.find_kept_change.new.staged.pages =
    subst (λ (b : Bool). ReadsChange total (Ok b) (g.D.Disk.image c.args.disk.now) c.find_kept_change.new.staged.pages) c.if-branch.true
    (c.in_ok-find_kept_change.ensures.finds tells) in
    let holds : HoldsChange c.find_kept_change.new.staged.pages (g.D.Disk.image c.find_kept_change.new.disk) = record {
      is_opened = ap has_open_gate same ∙ found.0;
      journal_is = ap journal_entries same ∙ sym found.2;
    } in
    recovered g.D.Disk.moment g.D.Disk.crash_states_since c.args.disk.now c.find_kept_change.new.disk c.settle_staged.new.disk
    (g.D.Disk.crash_states c.args.disk.now) (λ image. RecoversTo total image marks home)
    c.find_kept_change.ensures.any_moment
    (subst (λ (t : ℕ). CrashesLeaveOnly g.D.Disk.moment g.D.Disk.crash_states_since c.find_kept_change.new.disk c.settle_staged.new.disk
    (λ image. RecoversTo t image marks home)) c.find_kept_change.ensures.total
    (c.settle_staged.ensures.any_moment tells_found crashes_found (c.in_ok-find_kept_change.ensures.kept tells crashes) holds marks home
    (subst (λ (t : ℕ). RecoversTo t (g.D.Disk.image c.find_kept_change.new.disk) marks home) (sym c.find_kept_change.ensures.total)
    (subst (λ (i : List ℕ). RecoversTo total i marks home) (sym same) stands))))

pub returns-in_ok-settle_staged-clause-any_start : goal.returns-in_ok-settle_staged-clause-any_start
returns-in_ok-settle_staged-clause-any_start g c = λ tells crashes marks home stands.
    let total = c.args.staged.now.total in
    let tells_found : IsTrue (g.D.Disk.is_known c.find_kept_change.new.disk) = subst IsTrue (sym c.find_kept_change.ensures.disk.0.0) tells in
    let crashes_found : IsTrue (g.D.Disk.knows_crashes c.find_kept_change.new.disk) = subst IsTrue (sym c.find_kept_change.ensures.disk.0.1) crashes in
    let same : g.D.Disk.image c.find_kept_change.new.disk ≡ g.D.Disk.image c.args.disk.now = c.find_kept_change.ensures.image tells in
    let found : ReadsChange total (Ok true) (g.D.Disk.image c.args.disk.now) c.find_kept_change.new.staged.pages =
    subst (λ (b : Bool). ReadsChange total (Ok b) (g.D.Disk.image c.args.disk.now) c.find_kept_change.new.staged.pages) c.if-branch.true
    (c.in_ok-find_kept_change.ensures.finds tells) in
    let holds : HoldsChange c.find_kept_change.new.staged.pages (g.D.Disk.image c.find_kept_change.new.disk) = record {
      is_opened = ap has_open_gate same ∙ found.0;
      journal_is = ap journal_entries same ∙ sym found.2;
    } in
    recovered g.D.Disk.moment g.D.Disk.crash_states_since c.args.disk.now c.find_kept_change.new.disk c.settle_staged.new.disk
    (g.D.Disk.crash_states c.args.disk.now) (λ image. RecoversTo total image marks home)
    c.find_kept_change.ensures.any_moment
    (subst (λ (t : ℕ). CrashesLeaveOnly g.D.Disk.moment g.D.Disk.crash_states_since c.find_kept_change.new.disk c.settle_staged.new.disk
    (λ image. RecoversTo t image marks home)) c.find_kept_change.ensures.total
    (c.settle_staged.ensures.any_moment tells_found crashes_found (c.in_ok-find_kept_change.ensures.kept tells crashes) holds marks home
    (subst (λ (t : ℕ). RecoversTo t (g.D.Disk.image c.find_kept_change.new.disk) marks home) (sym c.find_kept_change.ensures.total)
    (subst (λ (i : List ℕ). RecoversTo total i marks home) (sym same) stands))))
