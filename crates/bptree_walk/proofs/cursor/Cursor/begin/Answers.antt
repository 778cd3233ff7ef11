use Rattle.std.proofs.Common.{◌≡◌, List, reverse, option_to_list, sym, ap, subst, arith}
use Rattle.bptree_walk.specs.declared.ahead.Ahead.{Ahead}
use Rattle.bptree_walk.specs.Courses.{IsPartOf, begun, first_ahead, most_left, most_nodes_left}
use Rattle.bptree_walk.specs.Cursors.{IsStacked}
use Rattle.bptree_walk.proofs.Stacks.{first_stacked, first_few, begins, begun_most, begun_part}
use Rattle.bptree_walk.proofs.Visiting.{course}
use Rattle.bptree_walk.proofs.cursor.Cursor.begin.Goals as goal

pub invariant_of-self : goal.invariant_of-self
invariant_of-self c = record {
  room = c.put_first.ensures.capacity;
  stacked = subst (IsStacked 0) (sym c.put_first.ensures.items) (first_stacked c.args.root.height c.args.root.page c.requires);
  few =
      let same : most_nodes_left (reverse c.put_first.new.ahead.items) ≡ most_nodes_left (reverse (option_to_list (first_ahead c.args.root.height c.args.root.page))) =
      ap (λ (nodes : List Ahead). most_nodes_left (reverse nodes)) c.put_first.ensures.items
      in
      let few = first_few c.args.root.height c.args.root.page c.requires in
      omega (arith, same, few);
}

pub returns-clause-limit : goal.returns-clause-limit
returns-clause-limit c =
    let most = begun_most c.args.root c.requires in
    let same : most_left (course c.clear.new.self (reverse c.put_first.new.ahead.items) 0) ≡ most_left (begun c.args.root) =
    ap most_left (begins c.args.root c.clear.new.self c.put_first.new.ahead.items c.clear.ensures c.put_first.ensures.items)
    in omega (arith, same, most)

pub returns-clause-part : goal.returns-clause-part
returns-clause-part c = λ pages.
    subst (IsPartOf pages c.args.root) (sym (begins c.args.root c.clear.new.self c.put_first.new.ahead.items c.clear.ensures c.put_first.ensures.items)) (begun_part pages c.args.root)
