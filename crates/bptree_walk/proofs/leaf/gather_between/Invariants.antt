use Rattle.std.proofs.Common.{◌≡◌, ◌++◌, drop, take}
use Rattle.std.specs.Prelude.{filter}
use Rattle.bptree_node.specs.declared.rows.Entry.{Entry}
use Rattle.bptree_node.specs.Nodes.{node_in}
use Rattle.bptree_node.specs.Trees.{node_entries}
use Rattle.bptree_walk.proofs.leaf.gather_between.Given as goal

abbrev pub invariant-loop-i : goal.invariant-loop-i
invariant-loop-i g l =
    l.found ++ filter (λ (e : Entry). g.G.Region.has_key l.region e.key) (drop l.i (take l.end (node_entries (node_in l.page))))
    ≡ l.fn.found ++ filter (λ (e : Entry). g.G.Region.has_key l.region e.key) (drop l.at (take l.end (node_entries (node_in l.page))))
