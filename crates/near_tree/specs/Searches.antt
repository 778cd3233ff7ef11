-- What a search from the root finds, and why it ends without.
use Rattle.std.specs.Prelude.{ℕ, zero, suc, ◌≤◌, ◌⊎◌, List, [], ◌∷◌, nat_lt, map, count_by, IsTrue}
use Rattle.std.specs.List.{AllByRecursion}
use Rattle.metric_laws.specs.Objects.{Object, Distance}
use Rattle.page_laws.specs.declared.errors.TreeError.{TreeError}
use Rattle.bptree_node.specs.declared.rows.Entry.{Entry}
use Rattle.bptree_node.specs.Trees.{tree_at, list_at, HaveCornersAt}
use Rattle.spb_defs.specs.Pivots.{lower_bound}
use Rattle.spb_defs.specs.Scans.{ranks_of}
use Rattle.answer_lists.specs.Order.{sorted_by}
use Rattle.box_corner.specs.CurveBoxes.{ReadBack}
use Rattle.near_search.specs.Queue.{Candidate, candidate_is_before, count_before}
use Rattle.near_search.specs.Visits.{entries_at}
use Rattle.shelf_tree.specs.Contents.{TreeContent, candidate_of, bound_by, bounds_below, object_at_slot}
use Rattle.shelf_tree.specs.Breaches.{TellsOfNode, TellsOfObject}
use Rattle.near_tree.specs.Roots.{IsRootCause}

-- the objects of the tree, by the lower bounds of their cells, and of equal bounds the lesser id first
abbrev pub tree_candidates : TreeContent → List Candidate
tree_candidates s = sorted_by candidate_is_before (map (candidate_of s.cell_of s.asked) (list_at s.page_at s.root))

-- the bounds of the boxes of its nodes, with 0 for the root
abbrev pub bounds_from : TreeContent → (height : ℕ) → List ℕ
bounds_from s zero = []
bounds_from s (suc l) = 0 ∷ bounds_below (bound_by s) l (tree_at s.page_at l s.root.page)

abbrev pub node_bounds : TreeContent → List ℕ
node_bounds s = bounds_from s s.root.height

-- how many nodes are in reach of the k-th of all objects: before the bound fewer than k ranks go
abbrev pub opened_nodes : Distance → List ℕ → TreeContent → ℕ → ℕ
opened_nodes dist query s k =
    count_by (λ b. nat_lt (count_before (b, 0) (ranks_of dist (entries_at (object_at_slot s) (tree_candidates s)) query)) k) (node_bounds s)

-- What the pages hold is known, no entry's cell has a lower bound above the distance of its object, and the branches keep
-- the corners of the exact boxes around what is under them.
pub record HasBounds (dist : Distance) (query : List ℕ) (s : TreeContent) : Type 0 where
  pub known : IsTrue s.is_known
  pub lower : AllByRecursion (λ (e : Entry). lower_bound s.asked (s.cell_of e.key) ≤ dist query (object_at_slot s e.slot)) (list_at s.page_at s.root)
  pub corners : HaveCornersAt (ReadBack s.axes s.bits s.cell_of) s.page_at s.root.height s.root.page

-- what is said to be damaged is the root, another node or an object
abbrev pub TellsOfSearch : TreeContent → (Object → Type 0) → TreeError → Type 0
TellsOfSearch s admitted e = IsRootCause s e ⊎ (TellsOfNode s e ⊎ TellsOfObject s admitted e)
