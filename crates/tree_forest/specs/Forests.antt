-- Several trees on the pages of one pool.
use Rattle.std.specs.Prelude.{◌≡◌, ℕ, ◌+◌, ◌<◌, nat_lt, Bool, true, false, if◌then◌else◌, List, length, slice_index_or}
use Rattle.page_laws.specs.declared.root.Root.{Root}
use Rattle.bptree_node.specs.declared.rows.Entry.{Entry}
use Rattle.bptree_node.specs.Trees.{IsTree, pages_at}
use Rattle.bptree_edit.specs.Changes.{StaysOutside, AreFreeAfter}
use Rattle.bptree_edit.specs.NodesAt.{times}
use Rattle.store_check.specs.declared.profile.Profile.{Profile}
use Rattle.store_check.specs.Profile.{no_root}
use Rattle.tree_state.specs.StoreCurves.{AreCurveCorners, AreIdCorners}
use Rattle.tree_state.specs.StoreTrees.{tree_pages}

-- the corners of the branches of a store's trees, those of the curve trees first
abbrev pub CornersIf : Bool → Profile → List Entry → ℕ → ℕ → Type 0
CornersIf true profile = AreCurveCorners profile
CornersIf false profile = AreIdCorners

abbrev pub corners_of : Profile → ℕ → List Entry → ℕ → ℕ → Type 0
corners_of profile k = CornersIf (nat_lt k 4) profile

-- the root of the tree at a place
abbrev pub root_at : List Root → ℕ → Root
root_at roots k = slice_index_or roots k no_root

-- each page of the pool is once among the free ones or the used ones, and no other page is
abbrev pub FillPool : (ℕ → Bool) → List ℕ → List ℕ → Type 0
FillPool in_pool free used = (n : ℕ) → times n free + times n used ≡ (if in_pool n then 1 else 0)

-- The roots are those of trees, each with corners of its own kind, and each page of the pool is free or of one tree.
pub record IsForest (are_corners : ℕ → List Entry → ℕ → ℕ → Type 0) (home : ℕ → List ℕ) (in_pool : ℕ → Bool) (free : List ℕ) (roots : List Root) : Type 0 where
  pub trees : (k : ℕ) → k < length roots → IsTree (are_corners k) home in_pool (root_at roots k)
  pub pages : FillPool in_pool free (tree_pages home roots)

-- in place of one tree the pages hold another one, made of its pages and free ones
pub record ReplacesTree (are_corners : List Entry → ℕ → ℕ → Type 0) (is_live : ℕ → Bool) (old new : ℕ → List ℕ) (old_free new_free : List ℕ) (root above : Root) : Type 0 where
  pub tree : IsTree are_corners new is_live above
  pub outside : StaysOutside (pages_at old root) (pages_at new above) old new
  pub free : AreFreeAfter (pages_at old root) (pages_at new above) old_free new_free
