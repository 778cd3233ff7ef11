use Rattle.std.proofs.Common.{◌≡◌, ◌≤◌, ◌-◌, Some, length, take, drop, sym, ap, ◌∙◌, arith}
use Rattle.std.proofs.lemmas.List.{length-take}
use Rattle.std.proofs.lemmas.Slice.{between_to_end}
use Rattle.spb_edge.proofs.Pieces.{front_copied}
use Rattle.spb_edge.proofs.mem_source.MemSourceSource.take.Goals as goal

pub returns-clause-gives : goal.returns-clause-gives
returns-clause-gives c =
    let bytes = c.self.inside.bytes in
    let at = c.self.inside.at in
    let count = c.min-count.result in
    let slice : c.as_slice.result.now ≡ bytes = c.as_slice.ensures in
    let rest : take (length c.as_slice.result.now - at) (drop at c.as_slice.result.now) ≡ drop at c.as_slice.result.now =
    between_to_end c.as_slice.result.now at (length c.as_slice.result.now) (omega arith) in
    let left = ap (λ s. s.left) c.self.view_is in
    let room : count ≤ length c.args.into.now = omega (arith, c.min-count.ensures) in
    ap Some (front_copied c.args.self.now.left bytes c.copy_from_slice.new.self _ at count (sym left)
    (c.copy_from_slice.ensures.after ∙ ap (take count) (rest ∙ ap (drop at) slice ∙ left))
    (c.copy_from_slice.ensures.len ∙ length-take count c.args.into.now ∙ omega (arith, room)))
