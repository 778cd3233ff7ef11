use Rattle.std.proofs.Common.{◌≡◌, length, take}
use Rattle.std.specs.Prelude.{All}
use Rattle.std.specs.List.{flat_map}
use Rattle.bptree_node.specs.Nodes.{entry_bytes, spelled, FitsEntry}
use Rattle.bptree_node.proofs.writers.write_leaf.Given as goal

abbrev pub invariant-loop-i : goal.invariant-loop-i
invariant-loop-i l = record {
  written : l.page ≡ spelled 1 (length l.entries) (flat_map entry_bytes (take l.i l.entries));
  fit : All FitsEntry (take l.i l.entries);
}
