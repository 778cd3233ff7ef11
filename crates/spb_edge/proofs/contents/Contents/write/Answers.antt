use Rattle.std.proofs.Common.{◌≡◌, ◌≤◌, length, ◌∙◌, ap, arith}
use Rattle.spb_edge.specs.Disk.{overwritten_at}
use Rattle.spb_edge.specs.Tears.{length-overwritten_at}
use Rattle.spb_edge.proofs.Ranges.{join-more}
use Rattle.spb_edge.proofs.contents.Contents.write.Goals as goal

pub invariant_of-self-2 : goal.invariant_of-self-2
invariant_of-self-2 c =
    let inside = c.self.inside in
    let old = inside.image.items in
    let within : c.args.at ≤ length old = omega (arith, c.requires.within, ap (λ v. length v.image) c.self.view_is) in
    let images = ap length c.in_ok-reserve.ensures.image in
    let sizes : length c.lay.new.image.items ≡ length (overwritten_at old c.args.at c.args.bytes.now) = ap length c.in-Ok-Ok.ensures.laid
    ∙ ap (λ i. length (overwritten_at i c.args.at c.args.bytes.now)) c.in_ok-reserve.ensures.image in
    let sized = sizes ∙ length-overwritten_at old c.args.at c.args.bytes.now within in
    let kept : length c.reserve.new.kept.items ≡ length inside.kept.items = ap length c.in_ok-reserve.ensures.kept in (
      omega (arith, c.self.invariant.0, sized, kept),
      omega (arith, sized, c.in_ok-reserve.ensures.ok.1, c.min-over.ensures, c.len.ensures, within),
      omega (arith, c.self.invariant.2, c.in-Ok-Ok.ensures'.capacity),
      rw (c.in-Ok-Ok.ensures'.items, kept) (join-more _ _ (length old) _ _ _ c.self.invariant.3 within (omega (arith, sized))),
    )
