use Rattle.std.proofs.Common.{◌≤◌, length, ap, arith}
use Rattle.spb_edge.proofs.Ranges.{join-more}
use Rattle.spb_edge.proofs.contents.Contents.tear.Goals as goal

pub invariant_of-self : goal.invariant_of-self
invariant_of-self c =
    let inside = c.self.inside in
    let within : c.args.at ≤ length inside.image.items = omega (arith, c.requires.within, ap (λ v. length v.image) c.self.view_is) in (
      c.self.invariant.0,
      c.self.invariant.1,
      omega (arith, c.self.invariant.2, c.in-Ok.ensures.capacity),
      rw c.in-Ok.ensures.items (join-more (length inside.kept.items) inside.unsynced.items (length inside.image.items) c.args.at c.args.len
          (length inside.image.items) c.self.invariant.3 within (omega arith)),
    )
