-- Trees of four collections, one after another: their pages, and the slots that their entries name.
use Rattle.std.specs.Prelude.{◌≡◌, ℕ, zero, suc, ◌+◌, ◌<◌, nat_lt, Bool, false, IsTrue, ◌&&◌, ◌||◌, All, List, map, slice_index_or, Option}
use Rattle.page_laws.specs.declared.errors.TreeError.{TreeError}
use Rattle.page_laws.specs.declared.root.Root.{Root}
use Rattle.page_laws.specs.Pages.{is_among}
use Rattle.bptree_node.specs.declared.rows.Entry.{Entry}
use Rattle.bptree_node.specs.Summaries.{HasCorners}
use Rattle.bptree_node.specs.Trees.{IsTree, list_at, pages_at}
use Rattle.bptree_edit.specs.Changes.{HaveBoxes}
use Rattle.bptree_edit.specs.NodesAt.{times}
use Rattle.store_check.specs.Profile.{no_root}
use Rattle.tree_check.specs.PageSets.{Marks, has, uses}
use Rattle.slot_notes.specs.declared.notes.SlotNote.{SlotNote}
use Rattle.entry_match.specs.Matching.{is_match}
use Rattle.entry_match.specs.Mismatches.{TellsMismatch}

-- the slots that entries name
abbrev pub slots_of : List Entry → List ℕ
slots_of entries = map (λ (e : Entry). e.slot) entries

-- the root of a place
abbrev pub root_at : List Root → ℕ → Root
root_at roots i = slice_index_or roots i no_root

-- how often a page is among those of the trees of so many roots from a place on
abbrev pub times_before : (ℕ → List ℕ) → List Root → (first count m : ℕ) → ℕ
times_before pages roots first zero m = 0
times_before pages roots first (suc c) m = times_before pages roots first c m + times m (pages_at pages (root_at roots (first + c)))

-- whether an entry of these trees names the slot
abbrev pub named_before : (ℕ → List ℕ) → List Root → (first count m : ℕ) → Bool
named_before pages roots first zero m = false
named_before pages roots first (suc c) m = named_before pages roots first c m || is_among m (slots_of (list_at pages (root_at roots (first + c))))

-- the trees of so many roots from a place on, each that of the next collection, have exact boxes, and entries that have
-- keys of the tree and match their slots; their pages join those used, and the slots that they name join those named
pub record AreMatched {S : Type 0} (joined : S → S → S) (entry_box : Entry → Option S) (keys : S → ℕ × ℕ) (notes : List SlotNote) (by_key : Bool) (pages : ℕ → List ℕ)
    (live : ℕ → Bool) (roots : List Root) (first cap count : ℕ) (old_used new_used old_named new_named : Marks) : Type 0 where
  pub trees : (c : ℕ) → c < count → IsTree (HasCorners joined entry_box keys) pages live (root_at roots (first + c))
  pub boxed : (c : ℕ) → c < count → HaveBoxes entry_box (list_at pages (root_at roots (first + c)))
  pub matched : (c : ℕ) → c < count → All (λ (e : Entry). IsTrue (is_match notes c by_key e)) (list_at pages (root_at roots (first + c)))
  pub used : (m : ℕ) → uses new_used m ≡ uses old_used m + times_before pages roots first count m
  pub named : (m : ℕ) → has new_named m ≡ (has old_named m || (nat_lt m cap && named_before pages roots first count m))

-- in the tree of a collection the page named breaks the rule named, where the pages of those before it were used
pub record HasMismatch {S : Type 0} (joined : S → S → S) (entry_box : Entry → Option S) (keys : S → ℕ × ℕ) (notes : List SlotNote) (by_key : Bool) (pages : ℕ → List ℕ)
    (live : ℕ → Bool) (roots : List Root) (first : ℕ) (used : Marks) (why : TreeError) : Type 0 where
  pub collection : ℕ
  pub below : collection < 4
  pub before : Marks
  pub reached : (m : ℕ) → uses before m ≡ uses used m + times_before pages roots first collection m
  pub tells : TellsMismatch joined entry_box keys notes collection by_key pages live before (root_at roots (first + collection)) why
