-- A node whose child has fewer rows: what its branches become, and what that does to the pages.
use Rattle.std.specs.Prelude.{◌≡◌, ℕ, ◌+◌, ◌≤◌, Bool, IsSome, List, [], ◌∷◌, ◌++◌, length, Option, Result, Ok, Err, slice_index_or}
use Rattle.std.specs.List.{AllByRecursion, replace_range}
use Rattle.page_laws.specs.declared.errors.TreeError.{TreeError}
use Rattle.bptree_node.specs.declared.rows.Entry.{Entry}
use Rattle.bptree_node.specs.declared.rows.Branch.{Branch}
use Rattle.bptree_node.specs.Nodes.{Node, row_count}
use Rattle.bptree_edit.specs.declared.part.Part.{Part}
use Rattle.bptree_edit.specs.Changes.{Changes}
use Rattle.bptree_edit.specs.Parts.{branch_of}
use Rattle.bptree_edit.specs.Steps.{IsWritten}
use Rattle.bptree_edit.specs.NodesAt.{least_rows, list_under_all, pages_under_all, AreChildren, AreOwn}
use Rattle.bptree_mend.specs.Mending.{Mends}
use Rattle.bptree_mend.specs.declared.mended.Mended.{Mended}
use Rattle.bptree_mend.specs.declared.mended.Mended.TheVariants.{Joined, Evened}
use Rattle.bptree_rebalance.specs.Rows.{list_in, pages_in, IsNodeIn}

-- the page under a branch
abbrev pub child_at : List Branch → ℕ → ℕ
child_at branches at = (slice_index_or branches at (record { key = 0; id = 0; child = 0; low = 0; high = 0 })).child

-- the branches of what two neighbours became
abbrev pub branches_of_mended : {S : Type 0} → (S → ℕ × ℕ) → Mended S → List Branch
branches_of_mended keys (Joined part) = branch_of keys part ∷ []
branches_of_mended keys (Evened one two) = branch_of keys one ∷ branch_of keys two ∷ []

-- the entries and the pages under some branches, a node between them and further branches
abbrev pub list_among : (ℕ → List ℕ) → ℕ → List Branch → Node → List Branch → List Entry
list_among pages l front node back = list_under_all pages l front ++ (list_in pages l node ++ list_under_all pages l back)

abbrev pub pages_among : (ℕ → List ℕ) → ℕ → List Branch → ℕ → Node → List Branch → List ℕ
pages_among pages l front page node back = pages_under_all pages l front ++ (page ∷ (pages_in pages l node ++ pages_under_all pages l back))

-- A child has lost at most one row, and no page has the rows that are left yet. It and the nodes under the other branches
-- are those of a tree, and the entries have summaries.
pub record HasLostRow {S : Type 0} (are_corners : List Entry → ℕ → ℕ → Type 0) (entry_box : Entry → Option S) (in_pool : ℕ → Bool) (pages : ℕ → List ℕ) (free : List ℕ) (l : ℕ)
    (front : List Branch) (page : ℕ) (node : Node) (back : List Branch) : Type 0 where
  pub before : AreChildren are_corners pages l front
  pub behind : AreChildren are_corners pages l back
  pub rows : IsNodeIn are_corners pages l node
  pub near : least_rows l ≤ row_count node + 1
  pub own : AreOwn in_pool free (pages_among pages l front page node back)
  pub boxes : AllByRecursion (λ (e : Entry). IsSome (entry_box e)) (list_among pages l front node back)

-- The branches have the same entries under them, in the same order. Each child is on its page and has enough rows, and its
-- branch says what is under it. Pages were moved between the tree and the free ones alone.
pub record IsSettled (are_corners : List Entry → ℕ → ℕ → Type 0) (old new : ℕ → List ℕ) (old_free new_free : List ℕ) (l : ℕ)
    (front : List Branch) (page : ℕ) (node : Node) (back branches : List Branch) : Type 0 where
  pub changes : Changes (λ (were are : List Entry). are ≡ were) old new old_free new_free (pages_among old l front page node back) (pages_under_all new l branches)
      (list_among old l front node back) (list_under_all new l branches)
  pub children : AreChildren are_corners new l branches
  pub count : length front + length back ≤ length branches

abbrev pub Settles : (List Entry → ℕ → ℕ → Type 0) → (old new : ℕ → List ℕ) → (old_free new_free : List ℕ) → ℕ → List Branch → ℕ → Node → List Branch → List Branch
    → Result Unit TreeError → Type 0
Settles are_corners old new old_free new_free l front page node back branches (Ok _) = IsSettled are_corners old new old_free new_free l front page node back branches
Settles are_corners old new old_free new_free l front page node back branches (Err _) = Unit {0}

-- two neighbours at a place and behind it, with these rows, became what stands for their branches
pub record HasMended {A S : Type 0} (node_of : List A → Node) (is_part : ℕ → List A → Part S → Type 0) (least most : ℕ) (keys : S → ℕ × ℕ) (left : ℕ) (were are : List Branch) (rows : List A)
    (old new : ℕ → List ℕ) (old_free new_free : List ℕ) : Type 0 where
  pub mended : Mended S
  pub mends : Mends node_of is_part least most (child_at were left) (child_at were (left + 1)) rows old new old_free new_free (Ok mended)
  pub branches : are ≡ replace_range were left (left + 2) (branches_of_mended keys mended)

-- the rows are on the page of the branch at a place, whose branch was renewed
pub record HasStored {A S : Type 0} (node_of : List A → Node) (is_part : ℕ → List A → Part S → Type 0) (keys : S → ℕ × ℕ) (at : ℕ) (were are : List Branch) (rows : List A)
    (old new : ℕ → List ℕ) (old_free new_free : List ℕ) : Type 0 where
  pub part : Part S
  pub is : is_part (child_at were at) rows part
  pub written : IsWritten (child_at were at) (node_of rows) old new
  pub free : new_free ≡ old_free
  pub branches : are ≡ replace_range were at (at + 1) (branch_of keys part ∷ [])
