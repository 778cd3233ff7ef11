use Rattle.std.proofs.Common.{◌≡◌, ◌+◌, ◌*◌, ◌<◌, ◌≤◌, IsTrue, List, ℕ, length, take, refl, subst, sym, ◌∙◌, arith}
use Rattle.std.proofs.lemmas.List.{length-take-le}
use Rattle.spb_edge.specs.Moments.{started, goes_on}
use Rattle.store_format.specs.NewFile.{HasPages, IsUnsigned}
use Rattle.store_format.proofs.Pieces.{begun, grown, unsigned_still}
use Rattle.store_format.proofs.steps.fill.Goals as goal

pub loop-next-init : goal.loop-next-init
loop-next-init g c = record {
  some = omega arith;
  within = c.requires.total.0;
  room = refl;
  told = (refl, refl);
  size = c.requires.size;
  pages = λ tells is. subst (HasPages 1 c.args.file.now) (sym is) (begun c.args.file.now);
  crash = λ first. first;
  any_moment = λ first. started g.D.Disk.moment g.D.Disk.crash_states_since c.args.disk.now IsUnsigned
      (λ image left. first image (g.met.D.Disk.only_now c.args.disk.now image left));
  counted = omega arith;
}

pub loop-next-preserved : goal.loop-next-preserved
loop-next-preserved g c =
    let so_far = c.loop-next.invariant in
    let next = c.loop-next.next in
    let count = c.min-count.result in
    let more : next < c.args.file.now.total = omega (arith, c.loop-next-test.true, c.total.ensures) in
    let some : 1 ≤ count = omega (arith, more, c.min-count.ensures, c.total-in-loop-next.ensures) in
    let few : next + count ≤ c.args.file.now.total = omega (arith, more, c.min-count.ensures, c.total-in-loop-next.ensures) in
    let room : 512 * count ≤ length c.lay_pages.new.bytes =
    omega (arith, c.min-count.ensures, c.lay_pages.ensures.len, so_far.room, c.requires.piece) in
    let long : length (take (512 * count) c.lay_pages.new.bytes) ≡ 512 * count = length-take-le (512 * count) c.lay_pages.new.bytes room in
    let still : ((image : List ℕ) → g.D.Disk.crash_states c.args.disk.now image → IsUnsigned image)
    → (image : List ℕ) → g.D.Disk.crash_states c.grow_piece.new.disk image → IsUnsigned image =
    λ first image left.
    let torn = c.grow_piece.ensures.crash image left in
    unsigned_still (512 * next) _ torn.0 image (omega (arith, so_far.some)) torn.2 (so_far.crash first torn.0 torn.1) in
    record {
      some = omega (arith, some);
      within = few;
      room = c.lay_pages.ensures.len ∙ so_far.room;
      told = (c.grow_piece.ensures.told.0 ∙ so_far.told.0, c.grow_piece.ensures.told.1 ∙ so_far.told.1);
      size = omega (arith, c.in_ok-grow_piece.ensures.size, so_far.size, long);
      pages = λ tells is. grown c.args.file.now next count (g.D.Disk.image c.loop-next.disk) (g.D.Disk.image c.grow_piece.new.disk) c.lay_pages.new.bytes
          (so_far.pages tells is) room c.lay_pages.ensures.pages
          (c.in_ok-grow_piece.ensures.image (subst IsTrue (sym so_far.told.0) tells));
      crash = still;
      any_moment = λ first. goes_on g.D.Disk.moment g.D.Disk.crash_states_since c.args.disk.now c.loop-next.disk c.grow_piece.new.disk IsUnsigned _
          (so_far.any_moment first) c.grow_piece.ensures.time (still first);
      counted = omega (arith, so_far.counted, c.in_ok-grow_piece.ensures.fault);
    }
