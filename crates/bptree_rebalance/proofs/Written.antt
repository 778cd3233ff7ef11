-- A node given by its rows, once a page has them: what is under the page is what is under the rows.
use Rattle.std.proofs.Common.{◌≡◌, ℕ, zero, suc, ◌+◌, List, [], ap, ◌∙◌, arith}
use Rattle.std.specs.Prelude.{Some}
use Rattle.bptree_node.specs.declared.rows.Entry.{Entry}
use Rattle.bptree_node.specs.Nodes.{Node, Leaf, Inner, node_in}
use Rattle.bptree_edit.specs.NodesAt.{times, list_under, pages_under, pages_under_all, AreNodesUnder}
use Rattle.bptree_edit.proofs.Counts.{one_if, times-cons, times-none}
use Rattle.bptree_edit.proofs.Under.{AreKept, list-leaf, pages-leaf, of-leaf, list-inner, pages-inner, list_all-kept, times_all-kept, all-kept, nodes-of, children-of}
use Rattle.bptree_rebalance.specs.Rows.{list_in, pages_in, IsNodeIn}

module _ (are_corners : List Entry → ℕ → ℕ → Type 0) (old new : ℕ → List ℕ) (n : ℕ) where
  pub list-written : (l : ℕ) (node : Node) → node_in (new n) ≡ Some node → IsNodeIn are_corners old l node → AreKept old new (pages_in old l node) → list_under new l n ≡ list_in old l node
  unfolding list_in pages_in IsNodeIn
  list-written zero (Leaf es) is rows kept = list-leaf new n es is
  list-written zero (Inner bs) is rows kept = absurd rows
  list-written (suc l) (Leaf es) is rows kept = absurd rows
  list-written (suc l) (Inner bs) is rows kept = list-inner new l n bs is ∙ list_all-kept old new l bs kept

  pub times-written : (m l : ℕ) (node : Node) → node_in (new n) ≡ Some node → IsNodeIn are_corners old l node → AreKept old new (pages_in old l node)
      → times m (pages_under new l n) ≡ one_if n m + times m (pages_in old l node)
  unfolding pages_in IsNodeIn
  times-written m zero (Leaf es) is rows kept = omega (arith, ap (times m) (pages-leaf new n), times-cons m n [])
  times-written m zero (Inner bs) is rows kept = absurd rows
  times-written m (suc l) (Leaf es) is rows kept = absurd rows
  times-written m (suc l) (Inner bs) is rows kept = omega (arith, ap (times m) (pages-inner new l n bs is), times-cons m n (pages_under_all new l bs), times_all-kept m old new l bs kept)

  pub nodes-written : (l : ℕ) (node : Node) → node_in (new n) ≡ Some node → IsNodeIn are_corners old l node → AreKept old new (pages_in old l node) → AreNodesUnder are_corners new l n
  unfolding pages_in IsNodeIn
  nodes-written zero (Leaf es) is rows kept = of-leaf are_corners new n es is
  nodes-written zero (Inner bs) is rows kept = absurd rows
  nodes-written (suc l) (Leaf es) is rows kept = absurd rows
  nodes-written (suc l) (Inner bs) is rows kept = nodes-of are_corners new l n bs is (all-kept are_corners old new l bs kept rows)
