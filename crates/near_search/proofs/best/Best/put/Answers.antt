use Rattle.std.proofs.Common.{◌≡◌, length, rules, arith, sym, ◌∙◌}
use Rattle.std.specs.BinaryHeap.{heap_items, heap_len}
use Rattle.near_search.proofs.Counting.{shut-is, put-shut, put-few, popped, none_left}
use Rattle.near_search.proofs.best.Best.put.Goals as goal

pub returns-then-shuts_out-clause-ranks : goal.returns-then-shuts_out-clause-ranks
returns-then-shuts_out-clause-ranks c =
    let now = c.args.self.now in
    let long : length (heap_items now.heap) ≡ heap_len now.heap = search rules in
    put-shut now.most c.args.rank (heap_items now.heap) (omega (arith, long, now.few)) (shut-is now.most _ (sym c.if-shuts_out.true ∙ c.shuts_out.ensures))

pub returns-then-self-len-clause-ranks : goal.returns-then-self-len-clause-ranks
returns-then-self-len-clause-ranks c =
    let now = c.args.self.now in
    let before : length (heap_items now.heap) ≡ heap_len now.heap = search rules in
    let long : length (heap_items c.push.new.self) ≡ heap_len c.push.new.self = search rules in
    popped now.most c.args.rank (heap_items now.heap) (heap_items c.push.new.self) (heap_items c.pop.new.self) c.pop.result _
    c.in_ok-push.ensures.permutation c.pop.ensures.permutation (c.in_ok-push.ensures.heap_order now.ordered) c.pop.ensures.below_top
    (none_left _ _ _ long c.pop.ensures.none) (omega (arith, before, now.few)) (omega (arith, long, c.if-self-len.true, c.len.ensures))

pub returns-else-self-len-clause-ranks : goal.returns-else-self-len-clause-ranks
returns-else-self-len-clause-ranks c =
    let long : length (heap_items c.push.new.self) ≡ heap_len c.push.new.self = search rules in
    put-few _ _ _ _ c.in_ok-push.ensures.permutation (omega (arith, long, c.if-self-len.false, c.len.ensures))
