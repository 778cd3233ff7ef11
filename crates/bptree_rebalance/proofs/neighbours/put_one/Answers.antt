use Rattle.std.proofs.Common.{◌+◌, [], ◌∷◌, List, ap, ◌∙◌, arith}
use Rattle.std.specs.List.{replace_range}
use Rattle.bptree_node.specs.declared.rows.Branch.{Branch}
use Rattle.bptree_edit.proofs.Lists.{item_written}
use Rattle.bptree_rebalance.proofs.Places.{one-for-two}
use Rattle.bptree_rebalance.proofs.neighbours.put_one.Goals as goal

pub returns-clause-rows : goal.returns-clause-rows
returns-clause-rows c =
    let left = c.args.left in
    item_written c.remove.new.self.items c.deref_mut.result.now left c.args.branch c.deref_mut.ensures.value (omega (arith, c.remove.ensures.len, c.requires.place))
    ∙ ap (λ (bs : List Branch). replace_range bs left (left + 1) (c.args.branch ∷ [])) c.remove.ensures.items
    ∙ one-for-two c.args.branches.now.items left c.args.branch c.requires.place
