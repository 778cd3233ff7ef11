-- What an insertion makes of a node, of its branches and of the pages.
use Rattle.std.specs.List.{AllByRecursion, replace_range}
use Rattle.std.specs.Prelude.{◌≡◌, ℕ, ◌+◌, ◌≤◌, ◌<◌, Bool, false, IsSome, List, [], ◌∷◌, ◌++◌, length, take, drop, Option, Some, Result, Ok, Err, if◌then◌else◌}
use Rattle.page_laws.specs.declared.errors.TreeError.{TreeError}
use Rattle.page_laws.specs.declared.root.Root.{Root}
use Rattle.bptree_node.specs.declared.layout.TheConstants.{HEIGHT_LIMIT, LEAST_ENTRIES, LEAST_BRANCHES}
use Rattle.bptree_node.specs.declared.rows.Entry.{Entry}
use Rattle.bptree_node.specs.declared.rows.Branch.{Branch}
use Rattle.bptree_node.specs.Nodes.{Node, Leaf, Inner, node_in}
use Rattle.bptree_node.specs.Summaries.{summary_of, HasCorners}
use Rattle.bptree_node.specs.Trees.{is_entry, IsRising, HasFirst}
use Rattle.bptree_insert.specs.declared.grown.Boxed.{Boxed}
use Rattle.bptree_edit.specs.declared.part.Part.{Part}
use Rattle.bptree_insert.specs.declared.grown.Grown.{Grown}
use Rattle.bptree_insert.specs.declared.grown.Grown.TheVariants.{Same, Whole, Split}
use Rattle.bptree_edit.specs.Changes.{Changes}
use Rattle.bptree_edit.specs.Steps.{IsWritten}
use Rattle.bptree_edit.specs.Parts.{before_branch, IsLeafPart, IsInnerPart, IsPartOf, branch_of}
use Rattle.bptree_insert.specs.Rows.{IsPlaced}
use Rattle.bptree_insert.specs.declared.way.Way.{Way}
use Rattle.bptree_insert.specs.Ways.{branches_on}
use Rattle.bptree_edit.specs.NodesAt.{times, list_under, pages_under, rows_in, AreNodesUnder, AreOwn}

-- ---- the pages

-- the page and a free one that was taken are the two nodes, and the others are as they were
pub record AreWritten (n : ℕ) (node : Node) (taken : ℕ) (other : Node) (old new : ℕ → List ℕ) (old_free new_free : List ℕ) : Type 0 where
  pub here : node_in (new n) ≡ Some node
  pub there : node_in (new taken) ≡ Some other
  pub others : (m : ℕ) → (m ≡ n → ⊥) → (m ≡ taken → ⊥) → new m ≡ old m
  pub was_free : (m : ℕ) → times m old_free ≡ times m (taken ∷ new_free)

-- a free page was taken and is the node, and the others are as they were
pub record IsJoined (taken : ℕ) (node : Node) (old new : ℕ → List ℕ) (old_free new_free : List ℕ) : Type 0 where
  pub written : IsWritten taken node old new
  pub was_free : (m : ℕ) → times m old_free ≡ times m (taken ∷ new_free)

-- ---- parts

-- the summaries are made of entries, of branches or by joining
abbrev pub AreMade : {S : Type 0} → (S → Type 0) → Grown S → Type 0
AreMade is_made Same = Unit {0}
AreMade is_made Whole = Unit {0}
AreMade is_made (Split left right) = is_made left.summary × is_made right.summary

-- the entries are stored on the page, or the first ones there and the others on a page that was taken
pub record IsLeafStored (n : ℕ) (entries : List Entry) (old new : ℕ → List ℕ) (old_free new_free : List ℕ) : Type 0 where
  pub written : IsWritten n (Leaf entries) old new
  pub free : new_free ≡ old_free

pub record IsLeafSplit {S : Type 0} (joined : S → S → S) (entry_box : Entry → Option S) (n : ℕ) (entries : List Entry) (old new : ℕ → List ℕ) (old_free new_free : List ℕ)
    (left right : Part S) : Type 0 where
  pub enough : LEAST_ENTRIES + LEAST_ENTRIES ≤ length entries
  pub first : IsLeafPart joined entry_box n (take LEAST_ENTRIES entries) left
  pub second : IsLeafPart joined entry_box right.page (drop LEAST_ENTRIES entries) right
  pub written : AreWritten n (Leaf (take LEAST_ENTRIES entries)) right.page (Leaf (drop LEAST_ENTRIES entries)) old new old_free new_free

abbrev pub StoresLeaf : {S : Type 0} → (joined : S → S → S) → (entry_box : Entry → Option S) → ℕ → List Entry → (old new : ℕ → List ℕ) → (old_free new_free : List ℕ)
    → Result (Grown S) TreeError → Type 0
StoresLeaf joined entry_box n entries old new old_free new_free (Ok Same) = ⊥
StoresLeaf joined entry_box n entries old new old_free new_free (Ok Whole) = IsLeafStored n entries old new old_free new_free
StoresLeaf joined entry_box n entries old new old_free new_free (Ok (Split left right)) = IsLeafSplit joined entry_box n entries old new old_free new_free left right
StoresLeaf joined entry_box n entries old new old_free new_free (Err _) = Unit {0}

-- the same of branches
pub record IsInnerStored (n : ℕ) (branches : List Branch) (old new : ℕ → List ℕ) (old_free new_free : List ℕ) : Type 0 where
  pub written : IsWritten n (Inner branches) old new
  pub free : new_free ≡ old_free

pub record IsInnerSplit {S : Type 0} (joined : S → S → S) (branch_box : ℕ → ℕ → Option S) (n : ℕ) (branches : List Branch) (old new : ℕ → List ℕ) (old_free new_free : List ℕ)
    (left right : Part S) : Type 0 where
  pub enough : LEAST_BRANCHES + LEAST_BRANCHES ≤ length branches
  pub first : IsInnerPart joined branch_box n (take LEAST_BRANCHES branches) left
  pub second : IsInnerPart joined branch_box right.page (drop LEAST_BRANCHES branches) right
  pub written : AreWritten n (Inner (take LEAST_BRANCHES branches)) right.page (Inner (drop LEAST_BRANCHES branches)) old new old_free new_free

abbrev pub StoresInner : {S : Type 0} → (joined : S → S → S) → (branch_box : ℕ → ℕ → Option S) → ℕ → List Branch → (old new : ℕ → List ℕ) → (old_free new_free : List ℕ)
    → Result (Grown S) TreeError → Type 0
StoresInner joined branch_box n branches old new old_free new_free (Ok Same) = ⊥
StoresInner joined branch_box n branches old new old_free new_free (Ok Whole) = IsInnerStored n branches old new old_free new_free
StoresInner joined branch_box n branches old new old_free new_free (Ok (Split left right)) = IsInnerSplit joined branch_box n branches old new old_free new_free left right
StoresInner joined branch_box n branches old new old_free new_free (Err _) = Unit {0}

-- ---- branches

-- the key and the id of the branch or of the entry, whichever come first
abbrev pub earlier : Branch → Entry → ℕ × ℕ
earlier b e = if before_branch e.key e.id b then (e.key, e.id) else (b.key, b.id)

-- the branch with an entry more under it
abbrev pub widened_by : {S : Type 0} → (S → S → S) → (S → ℕ × ℕ) → Boxed S → Branch → S → Branch
widened_by joined keys e b box = record {
  key = (earlier b e.entry).0;
  id = (earlier b e.entry).1;
  child = b.child;
  low = (keys (joined box e.summary)).0;
  high = (keys (joined box e.summary)).1;
}

-- the new branch is the old one with an entry more under it
pub record IsWidened {S : Type 0} (joined : S → S → S) (branch_box : ℕ → ℕ → Option S) (keys : S → ℕ × ℕ) (e : Boxed S) (old new : Branch) : Type 0 where
  pub box : S
  pub is_box : branch_box old.low old.high ≡ Some box
  pub is : new ≡ widened_by joined keys e old box

-- what stands for the branch after its node has grown
abbrev pub Regrows : {S : Type 0} → (joined : S → S → S) → (branch_box : ℕ → ℕ → Option S) → (keys : S → ℕ × ℕ) → Boxed S → Branch → Grown S → List Branch → Type 0
Regrows joined branch_box keys e b Same branches = branches ≡ b ∷ []
Regrows joined branch_box keys e b Whole branches = (wide : Branch) × (IsWidened joined branch_box keys e b wide × (branches ≡ wide ∷ []))
Regrows joined branch_box keys e b (Split left right) branches = branches ≡ branch_of keys left ∷ branch_of keys right ∷ []

-- what is written of an inner node once its branches have changed: nothing if they are the same
abbrev pub StoresChanged : {S : Type 0} → (joined : S → S → S) → (branch_box : ℕ → ℕ → Option S) → ℕ → (were are : List Branch) → (old new : ℕ → List ℕ) → (old_free new_free : List ℕ)
    → Grown S → Type 0
StoresChanged joined branch_box n were are old new old_free new_free Same = (are ≡ were) × (new ≡ old) × (new_free ≡ old_free)
StoresChanged joined branch_box n were are old new old_free new_free Whole = IsInnerStored n are old new old_free new_free
StoresChanged joined branch_box n were are old new old_free new_free (Split left right) = IsInnerSplit joined branch_box n are old new old_free new_free left right

-- an inner node has what stands for the branch that the way leads to, and was written if that changed it
pub record IsRestored {S : Type 0} (joined : S → S → S) (branch_box : ℕ → ℕ → Option S) (keys : S → ℕ × ℕ) (e : Boxed S) (n : ℕ) (page : List ℕ) (way : Way) (below : Grown S)
    (old new : ℕ → List ℕ) (old_free new_free : List ℕ) (grown : Grown S) : Type 0 where
  pub mid : List Branch
  pub regrows : Regrows joined branch_box keys e way.branch below mid
  pub stores : StoresChanged joined branch_box n (branches_on page) (replace_range (branches_on page) way.at (way.at + 1) mid) old new old_free new_free grown

abbrev pub Restores : {S : Type 0} → (joined : S → S → S) → (branch_box : ℕ → ℕ → Option S) → (keys : S → ℕ × ℕ) → Boxed S → ℕ → List ℕ → Way → Grown S
    → (old new : ℕ → List ℕ) → (old_free new_free : List ℕ) → Result (Grown S) TreeError → Type 0
Restores joined branch_box keys e n page way below old new old_free new_free (Ok grown) = IsRestored joined branch_box keys e n page way below old new old_free new_free grown
Restores joined branch_box keys e n page way below old new old_free new_free (Err _) = Unit {0}

-- whatever stands for the branch, each of the node's branches has a box
abbrev pub HaveBranchBoxes : {S : Type 0} → (joined : S → S → S) → (branch_box : ℕ → ℕ → Option S) → (keys : S → ℕ × ℕ) → Boxed S → List ℕ → Way → Grown S → Type 0
HaveBranchBoxes joined branch_box keys e page way below =
    IsSome (branch_box way.branch.low way.branch.high)
    × ((mid : List Branch) → Regrows joined branch_box keys e way.branch below mid
    → AllByRecursion (λ (b : Branch). IsSome (branch_box b.low b.high)) (replace_range (branches_on page) way.at (way.at + 1) mid))

-- a page that was taken is the root above two nodes
pub record IsRaised {S : Type 0} (keys : S → ℕ × ℕ) (root : Root) (left right : Part S) (old new : ℕ → List ℕ) (old_free new_free : List ℕ) (above : Root) : Type 0 where
  pub low : root.height < HEIGHT_LIMIT
  pub height : above.height ≡ root.height + 1
  pub joined : IsJoined above.page (Inner (branch_of keys left ∷ branch_of keys right ∷ [])) old new old_free new_free

-- ---- trees

-- the entries rise and have summaries, and the entry isn't one of them
pub record HaveNot {S : Type 0} (entry_box : Entry → Option S) (e : Entry) (entries : List Entry) : Type 0 where
  pub rising : IsRising entries
  pub absent : AllByRecursion (λ (f : Entry). is_entry e.key e.id f ≡ false) entries
  pub boxes : AllByRecursion (λ (f : Entry). IsSome (entry_box f)) entries

-- the page and those under it are the nodes of a tree into which the entry may be put
pub record CanTake {S : Type 0} (are_corners : List Entry → ℕ → ℕ → Type 0) (entry_box : Entry → Option S) (in_pool : ℕ → Bool) (e : Entry) (pages : ℕ → List ℕ) (free : List ℕ) (l n : ℕ) : Type 0 where
  pub nodes : AreNodesUnder are_corners pages l n
  pub own : AreOwn in_pool free (pages_under pages l n)
  pub entries : HaveNot entry_box e (list_under pages l n)

-- the node has the entry under it
pub record IsGrown {S : Type 0} (joined : S → S → S) (entry_box : Entry → Option S) (keys : S → ℕ × ℕ) (e : Entry) (old new : ℕ → List ℕ) (old_free new_free : List ℕ) (l n : ℕ) : Type 0 where
  pub grows : Changes (IsPlaced e) old new old_free new_free (pages_under old l n) (pages_under new l n) (list_under old l n) (list_under new l n)
  pub nodes : AreNodesUnder (HasCorners joined entry_box keys) new l n
  pub rows : rows_in (node_in (old n)) ≤ rows_in (node_in (new n))

-- the node has the entry under it, and begins with the same key and id and has the same summary as before
pub record IsSameAbove {S : Type 0} (joined : S → S → S) (entry_box : Entry → Option S) (keys : S → ℕ × ℕ) (e : Entry) (old new : ℕ → List ℕ) (old_free new_free : List ℕ) (l n : ℕ) : Type 0 where
  pub grown : IsGrown joined entry_box keys e old new old_free new_free l n
  pub first : (key id : ℕ) → HasFirst key id (list_under old l n) → HasFirst key id (list_under new l n)
  pub summary : summary_of joined entry_box (list_under new l n) ≡ summary_of joined entry_box (list_under old l n)

-- two nodes have the entries of the node and the new one
pub record IsSplit {S : Type 0} (joined : S → S → S) (entry_box : Entry → Option S) (keys : S → ℕ × ℕ) (e : Entry) (old new : ℕ → List ℕ) (old_free new_free : List ℕ) (l n : ℕ)
    (left right : Part S) : Type 0 where
  pub grows : Changes (IsPlaced e) old new old_free new_free (pages_under old l n) (pages_under new l left.page ++ pages_under new l right.page)
      (list_under old l n) (list_under new l left.page ++ list_under new l right.page)
  pub first : IsPartOf joined entry_box keys new l left
  pub second : IsPartOf joined entry_box keys new l right

abbrev pub Grows : {S : Type 0} → (joined : S → S → S) → (entry_box : Entry → Option S) → (keys : S → ℕ × ℕ) → Entry → (old new : ℕ → List ℕ) → (old_free new_free : List ℕ)
    → (l n : ℕ) → Result (Grown S) TreeError → Type 0
Grows joined entry_box keys e old new old_free new_free l n (Ok Same) = IsSameAbove joined entry_box keys e old new old_free new_free l n
Grows joined entry_box keys e old new old_free new_free l n (Ok Whole) = IsGrown joined entry_box keys e old new old_free new_free l n
Grows joined entry_box keys e old new old_free new_free l n (Ok (Split left right)) = IsSplit joined entry_box keys e old new old_free new_free l n left right
Grows joined entry_box keys e old new old_free new_free l n (Err _) = Unit {0}
