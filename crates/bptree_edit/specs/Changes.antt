-- What an edit does to a tree's entries, pages and free pages.
use Rattle.std.specs.Prelude.{◌≡◌, ℕ, ◌+◌, IsTrue, not, ◌&&◌, ◌||◌, IsSome, All, List, ◌∷◌, ◌++◌, Option}
use Rattle.page_laws.specs.Pages.{is_among}
use Rattle.bptree_node.specs.declared.rows.Entry.{Entry}
use Rattle.bptree_node.specs.declared.rows.Branch.{Branch}
use Rattle.bptree_edit.specs.NodesAt.{times, list_under_all, pages_under_all, AreChildren}

-- the new list is the old one with the entry somewhere; where the new one rises, that is at its place
pub record IsWith (e : Entry) (old new : List Entry) : Type 0 where
  pub before : List Entry
  pub after : List Entry
  pub were : old ≡ before ++ after
  pub are : new ≡ before ++ e ∷ after

-- each entry has a summary
abbrev pub HaveBoxes : {S : Type 0} → (Entry → Option S) → List Entry → Type 0
HaveBoxes entry_box entries = All (λ (e : Entry). IsSome (entry_box e)) entries

-- pages in neither tree are as they were
abbrev pub StaysOutside : List ℕ → List ℕ → (ℕ → List ℕ) → (ℕ → List ℕ) → Type 0
StaysOutside old_pages new_pages old new = (n : ℕ) → IsTrue (not (is_among n old_pages)) → IsTrue (not (is_among n new_pages)) → new n ≡ old n

-- the free pages are the old ones and the old tree's, without the new tree's: pages are moved between the tree and the
-- free ones alone
pub record AreFreeAfter (old_pages new_pages old_free new_free : List ℕ) : Type 0 where
  pub free_are : (n : ℕ) → is_among n new_free ≡ ((is_among n old_free || is_among n old_pages) && not (is_among n new_pages))
  pub moved : (n : ℕ) → times n old_free + times n old_pages ≡ times n new_free + times n new_pages

-- ---- a part of a tree, by the counts of its pages

-- the entries are changed in this way, pages are moved between the tree and the free ones alone, and no page outside of
-- the new tree is another one
pub record Changes (are_changed : List Entry → List Entry → Type 0) (old new : ℕ → List ℕ) (old_free new_free old_pages new_pages : List ℕ) (old_list new_list : List Entry) : Type 0 where
  pub placed : are_changed old_list new_list
  pub moved : (m : ℕ) → times m old_free + times m old_pages ≡ times m new_free + times m new_pages
  pub outside : (m : ℕ) → times m new_pages ≡ 0 → new m ≡ old m

-- some branches stand for others: what is under them is changed in this way
pub record HaveChanged (are_changed : List Entry → List Entry → Type 0) (are_corners : List Entry → ℕ → ℕ → Type 0) (old new : ℕ → List ℕ) (old_free new_free : List ℕ) (l : ℕ)
    (were are : List Branch) : Type 0 where
  pub changes : Changes are_changed old new old_free new_free (pages_under_all old l were) (pages_under_all new l are) (list_under_all old l were) (list_under_all new l are)
  pub children : AreChildren are_corners new l are
