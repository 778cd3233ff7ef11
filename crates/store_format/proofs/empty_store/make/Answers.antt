use Rattle.std.proofs.Common.{IsTrue, subst, sym, ◌∙◌}
use Rattle.store_format.proofs.Filled.{signed}
use Rattle.store_format.proofs.Pieces.{first_page}
use Rattle.store_format.proofs.Runs.{first_unsigned, filling, signing}
use Rattle.store_format.proofs.empty_store.make.Goals as goal

pub returns-in_err-fill-clause-any_moment : goal.returns-in_err-fill-clause-any_moment
returns-in_err-fill-clause-any_moment g c = λ tells crashes only.
    let first = first_page (g.D.Disk.image c.args.disk.now) (g.D.Disk.image c.make_room.new.disk)
    (sym (g.met.D.Disk.length_is c.args.disk.now tells) ∙ c.requires.size) (c.in_ok-make_room.ensures.image tells) in
    let unsigned = first_unsigned (g.D.Disk.image c.make_room.new.disk) (g.D.Disk.crash_states c.make_room.new.disk)
    (c.in_ok-make_room.ensures.kept tells crashes) first in
    filling g.D.Disk.moment g.D.Disk.crash_states_since c.args.file.now c.args.disk.now c.make_room.new.disk c.fill.new.disk
    (c.make_room.ensures.any_moment tells only) (c.fill.ensures.any_moment unsigned)

pub returns-in_err-sign-clause-any_moment : goal.returns-in_err-sign-clause-any_moment
returns-in_err-sign-clause-any_moment g c = λ tells crashes only.
    let first = first_page (g.D.Disk.image c.args.disk.now) (g.D.Disk.image c.make_room.new.disk)
    (sym (g.met.D.Disk.length_is c.args.disk.now tells) ∙ c.requires.size) (c.in_ok-make_room.ensures.image tells) in
    let unsigned = first_unsigned (g.D.Disk.image c.make_room.new.disk) (g.D.Disk.crash_states c.make_room.new.disk)
    (c.in_ok-make_room.ensures.kept tells crashes) first in
    let tells_room : IsTrue (g.D.Disk.is_known c.make_room.new.disk) = subst IsTrue (sym c.make_room.ensures.told.0) tells in
    let tells_now : IsTrue (g.D.Disk.is_known c.fill.new.disk) = subst IsTrue (sym c.fill.ensures.told.0) tells_room in
    let crashes_now : IsTrue (g.D.Disk.knows_crashes c.fill.new.disk) =
    subst IsTrue (sym (c.fill.ensures.told.1 ∙ c.make_room.ensures.told.1)) crashes in
    signing g.D.Disk.moment g.D.Disk.crash_states_since c.args.file.now c.args.disk.now c.fill.new.disk c.sign.new.disk (g.D.Disk.image c.fill.new.disk)
    c.requires.total.0 (c.in_ok-fill.ensures.pages tells_room first)
    (filling g.D.Disk.moment g.D.Disk.crash_states_since c.args.file.now c.args.disk.now c.make_room.new.disk c.fill.new.disk
    (c.make_room.ensures.any_moment tells only) (c.fill.ensures.any_moment unsigned))
    (c.sign.ensures.any_moment tells_now crashes_now (c.fill.ensures.crash unsigned))

pub returns-clause-any_moment : goal.returns-clause-any_moment
returns-clause-any_moment g c = λ tells crashes only.
    let first = first_page (g.D.Disk.image c.args.disk.now) (g.D.Disk.image c.make_room.new.disk)
    (sym (g.met.D.Disk.length_is c.args.disk.now tells) ∙ c.requires.size) (c.in_ok-make_room.ensures.image tells) in
    let unsigned = first_unsigned (g.D.Disk.image c.make_room.new.disk) (g.D.Disk.crash_states c.make_room.new.disk)
    (c.in_ok-make_room.ensures.kept tells crashes) first in
    let tells_room : IsTrue (g.D.Disk.is_known c.make_room.new.disk) = subst IsTrue (sym c.make_room.ensures.told.0) tells in
    let tells_now : IsTrue (g.D.Disk.is_known c.fill.new.disk) = subst IsTrue (sym c.fill.ensures.told.0) tells_room in
    let crashes_now : IsTrue (g.D.Disk.knows_crashes c.fill.new.disk) =
    subst IsTrue (sym (c.fill.ensures.told.1 ∙ c.make_room.ensures.told.1)) crashes in
    signing g.D.Disk.moment g.D.Disk.crash_states_since c.args.file.now c.args.disk.now c.fill.new.disk c.sign.new.disk (g.D.Disk.image c.fill.new.disk)
    c.requires.total.0 (c.in_ok-fill.ensures.pages tells_room first)
    (filling g.D.Disk.moment g.D.Disk.crash_states_since c.args.file.now c.args.disk.now c.make_room.new.disk c.fill.new.disk
    (c.make_room.ensures.any_moment tells only) (c.fill.ensures.any_moment unsigned))
    (c.sign.ensures.any_moment tells_now crashes_now (c.fill.ensures.crash unsigned))

pub returns-clause-fills : goal.returns-clause-fills
returns-clause-fills g c = λ tells.
    let first = first_page (g.D.Disk.image c.args.disk.now) (g.D.Disk.image c.make_room.new.disk)
    (sym (g.met.D.Disk.length_is c.args.disk.now tells) ∙ c.requires.size) (c.in_ok-make_room.ensures.image tells) in
    let tells_room : IsTrue (g.D.Disk.is_known c.make_room.new.disk) = subst IsTrue (sym c.make_room.ensures.told.0) tells in
    let tells_now : IsTrue (g.D.Disk.is_known c.fill.new.disk) = subst IsTrue (sym c.fill.ensures.told.0) tells_room in
    signed c.args.file.now (g.D.Disk.image c.fill.new.disk) (g.D.Disk.image c.sign.new.disk) c.requires.total.0
    (c.in_ok-fill.ensures.pages tells_room first) (c.in_ok-sign.ensures.image tells_now)
