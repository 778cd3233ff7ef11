-- The way to an entry.
use Rattle.std.specs.Prelude.{◌≡◌, ℕ, suc, ◌-◌, ◌<◌, Bool, not, List, length, Option, Some, None, slice_index_or}
use Rattle.std.specs.List.{prefix_len}
use Rattle.bptree_node.specs.declared.rows.Branch.{Branch}
use Rattle.bptree_node.specs.Trees.{goes_before}
use Rattle.bptree_walk.specs.declared.ahead.Ahead.{Ahead}
use Rattle.bptree_walk.specs.Visits.{child_ahead}

-- whether a branch isn't after a key and an id
abbrev pub reaches : ℕ → ℕ → Branch → Bool
reaches key id b = not (goes_before key id b.key b.id)

-- the child is that of the last branch, of those from the first one on, that isn't after a key and an id
pub record IsLastReached (key id : ℕ) (a : Ahead) (branches : List Branch) (child : Ahead) : Type 0 where
  pub branch : Branch
  pub place : ℕ
  pub reach : prefix_len (reaches key id) branches ≡ suc place
  pub below : place < length branches
  pub is : slice_index_or branches place branch ≡ branch
  pub leads : child ≡ child_ahead (a.level - 1) a.page branch

-- and if there is no such branch, there is no child
abbrev pub LeadsTo : ℕ → ℕ → Ahead → List Branch → Option Ahead → Type 0
LeadsTo key id a branches (Some child) = IsLastReached key id a branches child
LeadsTo key id a branches None = prefix_len (reaches key id) branches ≡ 0
