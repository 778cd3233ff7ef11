use Rattle.std.proofs.Common.{◌≡◌, length, take}
use Rattle.std.specs.Prelude.{All}
use Rattle.std.specs.List.{flat_map}
use Rattle.bptree_node.specs.Nodes.{branch_bytes, spelled, FitsBranch}
use Rattle.bptree_node.proofs.writers.write_inner.Given as goal

abbrev pub invariant-loop-i : goal.invariant-loop-i
invariant-loop-i l = record {
  written : l.page ≡ spelled 2 (length l.branches) (flat_map branch_bytes (take l.i l.branches));
  fit : All FitsBranch (take l.i l.branches);
}
