use Rattle.std.proofs.Common.{◌+◌, [], ◌∷◌, List, length, ap, ◌∙◌, arith}
use Rattle.std.specs.List.{replace_range}
use Rattle.bptree_node.specs.declared.rows.Branch.{Branch}
use Rattle.bptree_edit.proofs.Lists.{item_written}
use Rattle.bptree_rebalance.proofs.Places.{two-for-two, one-for-one}
use Rattle.bptree_rebalance.proofs.neighbours.put_two.Goals as goal

pub returns-clause-rows : goal.returns-clause-rows
returns-clause-rows c =
    let left = c.args.left in
    let xs = c.args.branches.now.items in
    let first = item_written xs c.deref_mut.result.now left c.args.first c.deref_mut.ensures.value (omega (arith, c.requires.place)) in
    let long = ap (λ (bs : List Branch). length bs) first ∙ one-for-one xs left c.args.first (omega (arith, c.requires.place)) in
    item_written _ c.deref_mut-2.result.now (left + 1) c.args.second c.deref_mut-2.ensures.value (omega (arith, long, c.requires.place))
    ∙ ap (λ (bs : List Branch). replace_range bs (left + 1) (left + 1 + 1) (c.args.second ∷ [])) first
    ∙ two-for-two xs left c.args.first c.args.second c.requires.place
