-- What branches are made from.
use Rattle.std.specs.Prelude.{◌≡◌, ℕ, ◌≤◌, Bool, List, [], ◌∷◌, Option, Some}
use Rattle.bptree_node.specs.declared.rows.Entry.{Entry}
use Rattle.bptree_node.specs.declared.rows.Branch.{Branch}
use Rattle.bptree_node.specs.Nodes.{node_in}
use Rattle.bptree_node.specs.Summaries.{summary_of, HasCorners}
use Rattle.bptree_node.specs.Trees.{goes_before, HasFirst}
use Rattle.bptree_edit.specs.declared.part.Part.{Part}
use Rattle.bptree_edit.specs.NodesAt.{list_under, rows_in, least_rows, AreNodesUnder}

-- whether a key and an id go before the first entry under a branch
abbrev pub before_branch : ℕ → ℕ → Branch → Bool
before_branch key id b = goes_before key id b.key b.id

-- the first branch has this key and this id
abbrev pub HasFirstBranch : ℕ → ℕ → List Branch → Type 0
HasFirstBranch key id [] = ⊥
HasFirstBranch key id (b ∷ bs) = (b.key ≡ key) × (b.id ≡ id)

-- the part has the page, and the first key and id and the summary of the entries
pub record IsLeafPart {S : Type 0} (joined : S → S → S) (entry_box : Entry → Option S) (page : ℕ) (entries : List Entry) (part : Part S) : Type 0 where
  pub place : part.page ≡ page
  pub first : HasFirst part.key part.id entries
  pub is : summary_of joined entry_box entries ≡ Some part.summary

-- the same of branches
pub record IsInnerPart {S : Type 0} (joined : S → S → S) (branch_box : ℕ → ℕ → Option S) (page : ℕ) (branches : List Branch) (part : Part S) : Type 0 where
  pub place : part.page ≡ page
  pub first : HasFirstBranch part.key part.id branches
  pub is : summary_of joined (λ (b : Branch). branch_box b.low b.high) branches ≡ Some part.summary

-- the branch of a node
abbrev pub branch_of : {S : Type 0} → (S → ℕ × ℕ) → Part S → Branch
branch_of keys part = record { key = part.key; id = part.id; child = part.page; low = (keys part.summary).0; high = (keys part.summary).1 }

-- the part is of a node with enough rows: it has the first key and id and the summary of what is under it
pub record IsPartOf {S : Type 0} (joined : S → S → S) (entry_box : Entry → Option S) (keys : S → ℕ × ℕ) (pages : ℕ → List ℕ) (l : ℕ) (part : Part S) : Type 0 where
  pub nodes : AreNodesUnder (HasCorners joined entry_box keys) pages l part.page
  pub filled : least_rows l ≤ rows_in (node_in (pages part.page))
  pub first : HasFirst part.key part.id (list_under pages l part.page)
  pub is : summary_of joined entry_box (list_under pages l part.page) ≡ Some part.summary
