use Rattle.std.proofs.Common.{◌≡◌, ◌+◌, ◌*◌, ◌<◌, IsTrue, length, take, subst, sym, ◌∙◌, arith}
use Rattle.std.specs.Map.{keys_of}
use Rattle.spb_edge.specs.Moments.{goes_on}
use Rattle.redo_journal.specs.Redo.{DiffersWithin}
use Rattle.redo_journal.specs.Change.{AreInPlace}
use Rattle.redo_journal.proofs.Home.{home_within}
use Rattle.redo_journal.proofs.Settle.{among, goes_home}
use Rattle.redo_journal.proofs.moves.write_all_home.Goals as goal

pub write_home-requires-clause-within : goal.write_home-requires-clause-within
write_home-requires-clause-within g c =
    omega (arith, c.loop-place.invariant.0, home_within _ _ c.requires.least c.entry-n.ensures.home)

pub returns-in_err-write_home-clause-any_moment : goal.returns-in_err-write_home-clause-any_moment
returns-in_err-write_home-clause-any_moment g c = λ tells only.
    let so_far = c.loop-place.invariant in
    let long = sym (g.met.D.Disk.length_is c.args.disk.now tells) ∙ c.requires.size in
    goes_on g.D.Disk.moment g.D.Disk.crash_states_since c.args.disk.now c.loop-place.disk c.write_home.new.disk _ _ (so_far.5 tells only)
    c.write_home.ensures.time
    (c.write_home.ensures.crash _ _ _ long (home_within _ _ c.requires.least c.entry-n.ensures.home) (among _ _ _ _ _ c.entry-n.ensures.entry)
    (so_far.6 tells only))

pub returns-in_err-write_home-clause-crash : goal.returns-in_err-write_home-clause-crash
returns-in_err-write_home-clause-crash g c = λ tells only.
    let so_far = c.loop-place.invariant in
    let long = sym (g.met.D.Disk.length_is c.args.disk.now tells) ∙ c.requires.size in
    c.write_home.ensures.crash _ _ _ long (home_within _ _ c.requires.least c.entry-n.ensures.home) (among _ _ _ _ _ c.entry-n.ensures.entry)
    (so_far.6 tells only)

pub returns-in_err-write_home-clause-differs : goal.returns-in_err-write_home-clause-differs
returns-in_err-write_home-clause-differs g c = λ tells.
    let so_far = c.loop-place.invariant in
    let long = sym (g.met.D.Disk.length_is c.args.disk.now tells) ∙ c.requires.size in
    c.write_home.ensures.differs (subst IsTrue (sym so_far.1) tells) _ _ _ long (home_within _ _ c.requires.least c.entry-n.ensures.home)
    (among _ _ _ _ _ c.entry-n.ensures.entry) (so_far.4 tells)

pub loop-place-preserved : goal.loop-place-preserved
loop-place-preserved g c =
    let so_far = c.loop-place.invariant in
    let within = home_within _ _ c.requires.least c.entry-n.ensures.home in
    let long : IsTrue (g.D.Disk.is_known c.args.disk.now) → length (g.D.Disk.image c.args.disk.now) ≡ 512 * c.args.staged.now.total =
    λ tells. sym (g.met.D.Disk.length_is c.args.disk.now tells) ∙ c.requires.size in
    let more : c.loop-place.place < length c.args.staged.now.pages = omega (arith, c.loop-place-test.true, c.count-place-end.ensures.count) in
    let home : (tells : IsTrue (g.D.Disk.is_known c.args.disk.now))
    → AreInPlace (take (c.loop-place.place + 1) c.args.staged.now.pages) (g.D.Disk.image c.write_home.new.disk)
    × DiffersWithin c.args.staged.now.total (keys_of c.args.staged.now.pages) (g.D.Disk.image c.args.disk.now) (g.D.Disk.image c.write_home.new.disk) =
    λ tells. goes_home c.args.staged.now.total _ c.loop-place.place _ _ (g.D.Disk.image c.loop-place.disk)
    _ c.args.staged.now.pages c.entry-n.ensures.entry more
    c.count-place-end.ensures.sound.homes within (long tells) c.entry-n.ensures.page
    (c.in_ok-write_home.ensures.image (subst IsTrue (sym so_far.1) tells)) (so_far.3 tells) (so_far.4 tells) in (
      c.write_home.ensures.disk.0.1 ∙ so_far.0,
      c.write_home.ensures.disk.0.0.0 ∙ so_far.1,
      c.write_home.ensures.disk.0.0.1 ∙ so_far.2,
      (λ tells. (home tells).0),
      (λ tells. (home tells).1),
      (λ tells only. goes_on g.D.Disk.moment g.D.Disk.crash_states_since c.args.disk.now c.loop-place.disk c.write_home.new.disk _ _ (so_far.5 tells only)
          c.write_home.ensures.time
          (c.write_home.ensures.crash _ _ _ (long tells) within (among _ _ _ _ _ c.entry-n.ensures.entry) (so_far.6 tells only))),
      (λ tells only. c.write_home.ensures.crash _ _ _ (long tells) within (among _ _ _ _ _ c.entry-n.ensures.entry) (so_far.6 tells only)),
      (λ tells. c.write_home.ensures.reads (subst IsTrue (sym so_far.1) tells) ∙ so_far.7 tells),
      omega (arith, so_far.8, c.in_ok-write_home.ensures.disk.1),
    )
