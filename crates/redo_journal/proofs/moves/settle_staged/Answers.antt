use Rattle.std.proofs.Common.{IsTrue, subst, sym, ◌∙◌, ap}
use Rattle.std.specs.Map.{keys_of}
use Rattle.spb_edge.specs.Moments.{weaker}
use Rattle.redo_journal.specs.Redo.{DiffersWithin}
use Rattle.redo_journal.specs.Change.{AreInPlace}
use Rattle.redo_journal.proofs.Runs.{settled_so_far, settled}
use Rattle.redo_journal.proofs.Settle.{differs_home, gate_laid, gate_redone}
use Rattle.redo_journal.proofs.Torn.{others_stay}
use Rattle.redo_journal.proofs.moves.settle_staged.Goals as goal

pub returns-in_err-write_all_home-clause-any_moment : goal.returns-in_err-write_all_home-clause-any_moment
returns-in_err-write_all_home-clause-any_moment g c = λ tells crashes only holds marks home stands.
    weaker g.D.Disk.moment g.D.Disk.crash_states_since c.args.disk.now c.write_all_home.new.disk _ _
    (λ image differs. differs_home c.args.staged.now.total c.args.staged.now.pages (g.D.Disk.image c.args.disk.now)
    image c.requires.least c.write_all_home.ensures.homes holds differs marks home stands)
    (c.write_all_home.ensures.any_moment tells only)

pub returns-in_err-sync_all-clause-any_moment : goal.returns-in_err-sync_all-clause-any_moment
returns-in_err-sync_all-clause-any_moment g c = λ tells crashes only holds marks home stands.
    settled_so_far g.D.Disk.moment g.D.Disk.crash_states_since g.D.Disk.image g.D.Disk.crash_states c.args.staged.now.total c.args.staged.now.pages marks home
    c.args.disk.now c.write_all_home.new.disk c.sync_all.new.disk c.write_all_home.ensures.homes holds stands (c.write_all_home.ensures.any_moment tells only)
    (c.write_all_home.ensures.crash tells only)
    c.sync_all.ensures.time c.sync_all.ensures.crash

pub returns-in_err-write_and_keep-clause-any_moment : goal.returns-in_err-write_and_keep-clause-any_moment
returns-in_err-write_and_keep-clause-any_moment g c = λ tells crashes only holds marks home stands.
    let tells_then : IsTrue (g.D.Disk.is_known c.write_all_home.new.disk) = subst IsTrue (sym c.write_all_home.ensures.disk.0.0.0) tells in
    let crashes_then : IsTrue (g.D.Disk.knows_crashes c.write_all_home.new.disk) = subst IsTrue (sym c.write_all_home.ensures.disk.0.0.1) crashes in
    let same = c.sync_all.ensures.image tells_then in
    settled g.D.Disk.moment g.D.Disk.crash_states_since g.D.Disk.image g.D.Disk.crash_states c.args.staged.now.total c.args.staged.now.pages marks home
    c.args.disk.now c.sync_all.new.disk c.write_and_keep.new.disk c.write_all_home.ensures.homes holds stands
    (settled_so_far g.D.Disk.moment g.D.Disk.crash_states_since g.D.Disk.image g.D.Disk.crash_states c.args.staged.now.total c.args.staged.now.pages marks home
    c.args.disk.now c.write_all_home.new.disk c.sync_all.new.disk c.write_all_home.ensures.homes holds stands (c.write_all_home.ensures.any_moment tells only)
    (c.write_all_home.ensures.crash tells only)
    c.sync_all.ensures.time c.sync_all.ensures.crash)
    (subst (AreInPlace c.args.staged.now.pages) (sym same) (c.in_ok-write_all_home.ensures.placed tells))
    (subst (DiffersWithin c.args.staged.now.total (keys_of c.args.staged.now.pages) (g.D.Disk.image c.args.disk.now)) (sym same)
    (c.in_ok-write_all_home.ensures.differs tells))
    (c.write_and_keep.ensures.any_moment (c.in_ok-sync_all.ensures.kept tells_then crashes_then))

pub returns-clause-any_moment : goal.returns-clause-any_moment
returns-clause-any_moment g c = λ tells crashes only holds marks home stands.
    let tells_then : IsTrue (g.D.Disk.is_known c.write_all_home.new.disk) = subst IsTrue (sym c.write_all_home.ensures.disk.0.0.0) tells in
    let crashes_then : IsTrue (g.D.Disk.knows_crashes c.write_all_home.new.disk) = subst IsTrue (sym c.write_all_home.ensures.disk.0.0.1) crashes in
    let same = c.sync_all.ensures.image tells_then in
    settled g.D.Disk.moment g.D.Disk.crash_states_since g.D.Disk.image g.D.Disk.crash_states c.args.staged.now.total c.args.staged.now.pages marks home
    c.args.disk.now c.sync_all.new.disk c.write_and_keep.new.disk c.write_all_home.ensures.homes holds stands
    (settled_so_far g.D.Disk.moment g.D.Disk.crash_states_since g.D.Disk.image g.D.Disk.crash_states c.args.staged.now.total c.args.staged.now.pages marks home
    c.args.disk.now c.write_all_home.new.disk c.sync_all.new.disk c.write_all_home.ensures.homes holds stands (c.write_all_home.ensures.any_moment tells only)
    (c.write_all_home.ensures.crash tells only)
    c.sync_all.ensures.time c.sync_all.ensures.crash)
    (subst (AreInPlace c.args.staged.now.pages) (sym same) (c.in_ok-write_all_home.ensures.placed tells))
    (subst (DiffersWithin c.args.staged.now.total (keys_of c.args.staged.now.pages) (g.D.Disk.image c.args.disk.now)) (sym same)
    (c.in_ok-write_all_home.ensures.differs tells))
    (c.write_and_keep.ensures.any_moment (c.in_ok-sync_all.ensures.kept tells_then crashes_then))

pub returns-clause-settles : goal.returns-clause-settles
returns-clause-settles g c = λ tells holds.
    let tells_then : IsTrue (g.D.Disk.is_known c.write_all_home.new.disk) = subst IsTrue (sym c.write_all_home.ensures.disk.0.0.0) tells in
    let tells_now : IsTrue (g.D.Disk.is_known c.sync_all.new.disk) = subst IsTrue (sym c.sync_all.ensures.disk.0.0.0) tells_then in
    let same = c.sync_all.ensures.image tells_then in
    let long = sym (g.met.D.Disk.length_is c.sync_all.new.disk tells_now) ∙ c.sync_all.ensures.disk.0.1 ∙ c.write_all_home.ensures.disk.0.1 ∙ c.requires.size in
    let gate = gate_laid c.args.staged.now.total 0 (g.D.Disk.image c.sync_all.new.disk) (g.D.Disk.image c.write_and_keep.new.disk) c.requires.least long
    (c.in_ok-write_and_keep.ensures.image tells_now) in
    gate_redone c.args.staged.now.total c.args.staged.now.pages (g.D.Disk.image c.args.disk.now) (g.D.Disk.image c.sync_all.new.disk)
    c.requires.least c.write_all_home.ensures.homes holds
    (subst (DiffersWithin c.args.staged.now.total (keys_of c.args.staged.now.pages) (g.D.Disk.image c.args.disk.now)) (sym same)
    (c.in_ok-write_all_home.ensures.differs tells))
    (g.D.Disk.image c.write_and_keep.new.disk)
    (subst (AreInPlace c.args.staged.now.pages) (sym same) (c.in_ok-write_all_home.ensures.placed tells)) gate.0 gate.1

pub returns-clause-closed : goal.returns-clause-closed
returns-clause-closed g c = λ tells.
    let tells_then : IsTrue (g.D.Disk.is_known c.write_all_home.new.disk) = subst IsTrue (sym c.write_all_home.ensures.disk.0.0.0) tells in
    let tells_now : IsTrue (g.D.Disk.is_known c.sync_all.new.disk) = subst IsTrue (sym c.sync_all.ensures.disk.0.0.0) tells_then in
    let long = sym (g.met.D.Disk.length_is c.sync_all.new.disk tells_now) ∙ c.sync_all.ensures.disk.0.1 ∙ c.write_all_home.ensures.disk.0.1 ∙ c.requires.size in
    (gate_laid c.args.staged.now.total 0 (g.D.Disk.image c.sync_all.new.disk) (g.D.Disk.image c.write_and_keep.new.disk) c.requires.least long
    (c.in_ok-write_and_keep.ensures.image tells_now)).1

pub returns-in_err-write_and_keep-clause-others : goal.returns-in_err-write_and_keep-clause-others
returns-in_err-write_and_keep-clause-others g c = λ tells n home free.
    let tells_then : IsTrue (g.D.Disk.is_known c.write_all_home.new.disk) = subst IsTrue (sym c.write_all_home.ensures.disk.0.0.0) tells in
    let tells_now : IsTrue (g.D.Disk.is_known c.sync_all.new.disk) = subst IsTrue (sym c.sync_all.ensures.disk.0.0.0) tells_then in
    let same = c.sync_all.ensures.image tells_then in
    others_stay c.args.staged.now.total (keys_of c.args.staged.now.pages) (g.D.Disk.image c.args.disk.now) (g.D.Disk.image c.sync_all.new.disk)
    (g.D.Disk.image c.write_and_keep.new.disk) c.requires.least (sym (g.met.D.Disk.length_is c.args.disk.now tells) ∙ c.requires.size)
    (subst (DiffersWithin c.args.staged.now.total (keys_of c.args.staged.now.pages) (g.D.Disk.image c.args.disk.now)) (sym same)
    (c.write_all_home.ensures.differs tells))
    (c.write_and_keep.ensures.torn tells_now) n home free

pub returns-clause-others : goal.returns-clause-others
returns-clause-others g c = λ tells n home free.
    let tells_then : IsTrue (g.D.Disk.is_known c.write_all_home.new.disk) = subst IsTrue (sym c.write_all_home.ensures.disk.0.0.0) tells in
    let tells_now : IsTrue (g.D.Disk.is_known c.sync_all.new.disk) = subst IsTrue (sym c.sync_all.ensures.disk.0.0.0) tells_then in
    let same = c.sync_all.ensures.image tells_then in
    others_stay c.args.staged.now.total (keys_of c.args.staged.now.pages) (g.D.Disk.image c.args.disk.now) (g.D.Disk.image c.sync_all.new.disk)
    (g.D.Disk.image c.write_and_keep.new.disk) c.requires.least (sym (g.met.D.Disk.length_is c.args.disk.now tells) ∙ c.requires.size)
    (subst (DiffersWithin c.args.staged.now.total (keys_of c.args.staged.now.pages) (g.D.Disk.image c.args.disk.now)) (sym same)
    (c.write_all_home.ensures.differs tells))
    (c.write_and_keep.ensures.torn tells_now) n home free
