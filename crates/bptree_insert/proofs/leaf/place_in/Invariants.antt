use Rattle.std.proofs.Common.{◌≡◌, ℕ, ◌<◌, false, get_or}
use Rattle.bptree_node.specs.declared.rows.Entry.{Entry}
use Rattle.bptree_node.specs.Nodes.{entries_of}
use Rattle.bptree_insert.specs.Rows.{entry_before}
use Rattle.bptree_insert.proofs.leaf.place_in.Given as goal

abbrev pub invariant-loop-i : goal.invariant-loop-i
invariant-loop-i l = (k : ℕ) (d : Entry) → k < l.i → entry_before l.e (get_or (entries_of l.node) k d) ≡ false
