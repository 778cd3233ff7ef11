use Rattle.std.proofs.Common.{◌≡◌, length, rules, arith, ap, refl, ◌∙◌, ◌<◌}
use Rattle.std.specs.Ordering.{is_lt}
use Rattle.std.specs.BinaryHeap.{heap_items, heap_len}
use Rattle.near_search.proofs.Counting.{open-few, open-many}
use Rattle.near_search.proofs.best.Best.shuts_out.Goals as goal

pub returns-then-len-self : goal.returns-then-len-self
returns-then-len-self c =
    let long : length (heap_items c.args.self.now.heap) ≡ heap_len c.args.self.now.heap = search rules in
    open-few c.args.self.now.most c.args.rank (heap_items c.args.self.now.heap) (omega (arith, long, c.if-len-self.true, c.len.ensures))

pub returns-in-Some : goal.returns-in-Some
returns-in-Some c =
    let now = c.args.self.now in
    let long : length (heap_items now.heap) ≡ heap_len now.heap = search rules in
    let some : 0 < heap_len now.heap = c.in-Some.ensures.variant.0 refl in
    c.is_lt.ensures ∙ ap is_lt c.cmp.ensures ∙ open-many now.most c.in-Some.greatest.now c.args.rank (heap_items now.heap)
    (omega (arith, long, now.few, c.if-len-self.false, c.len.ensures)) (omega (arith, now.few, some, c.if-len-self.false, c.len.ensures))
    c.in-Some.ensures.lookup (c.in-Some.ensures.greatest now.ordered)
