-- An inner node with the way to an entry's place: the child there, and what the node becomes.
use Rattle.std.proofs.Common.{◌≡◌, ℕ, ◌+◌, ◌-◌, ◌<◌, Bool, false, List, get_or, refl, sym, ap, subst, ◌∙◌}
use Rattle.std.specs.Prelude.{IsTrue, IsSome, Option, Some, None, Result, Ok, Err}
use Rattle.std.specs.List.{replace_range}
use Rattle.page_laws.specs.declared.errors.TreeError.{TreeError}
use Rattle.page_laws.specs.Pages.{is_live}
use Rattle.bptree_node.specs.declared.rows.Entry.{Entry}
use Rattle.bptree_node.specs.declared.rows.Branch.{Branch}
use Rattle.bptree_node.specs.Summaries.{HasCorners}
use Rattle.bptree_edit.specs.Parts.{before_branch}
use Rattle.bptree_edit.proofs.Summing.{AreJoined}
use Rattle.bptree_insert.specs.declared.grown.Boxed.{Boxed}
use Rattle.bptree_insert.specs.declared.grown.Grown.{Grown}
use Rattle.bptree_insert.specs.declared.way.Way.{Way}
use Rattle.bptree_insert.specs.Ways.{branches_on, LeadsUnder}
use Rattle.bptree_insert.specs.Steps.{CanTake, Regrows, Restores, HaveBranchBoxes, Grows}
use Rattle.bptree_insert.proofs.InnerSteps.{child-can, child-live, child-box, rows-boxes, node-grows}

never-none : {A : Type 0} (o : Option A) → (o ≡ None → ⊥) → IsSome o
never-none (Some x) never = refl
never-none None never = absurd (never refl)

blank : Branch
blank = record { key = 0; id = 0; child = 0; low = 0; high = 0 }

module _ {S : Type 0} (joined : S → S → S) (entry_box : Entry → Option S) (branch_box : ℕ → ℕ → Option S) (keys : S → ℕ × ℕ) (is_made : S → Type 0)
    (entry_made : (e : Entry) (s : S) → entry_box e ≡ Some s → is_made s) (back_of : (s : S) (low high : ℕ) → is_made s → keys s ≡ (low, high) → branch_box low high ≡ Some s)
    (laws : AreJoined joined is_made) (in_pool : ℕ → Bool) (e : Boxed S) (pages : ℕ → List ℕ) (free : List ℕ) (level n : ℕ) (above : level ≡ 0 → ⊥)
    (can : CanTake (HasCorners joined entry_box keys) entry_box in_pool e.entry pages free level n) (page : List ℕ) (is_page : page ≡ pages n)
    (way : Way) (lead : LeadsUnder page e.entry.key e.entry.id way) where
  is : get_or (branches_on page) way.at blank ≡ way.branch
  is = lead.branch.is blank

  pub way-can : CanTake (HasCorners joined entry_box keys) entry_box in_pool e.entry pages free (level - 1) way.branch.child
  way-can =
      subst (λ (b : Branch). CanTake (HasCorners joined entry_box keys) entry_box in_pool e.entry pages free (level - 1) b.child) is
      (child-can joined entry_box branch_box keys is_made entry_made back_of laws in_pool e pages free level n above can page is_page (branches_on page) lead.branch.node way.at lead.branch.below blank)

  pub way-live : IsTrue (is_live in_pool free way.branch.child)
  way-live =
      subst (λ (b : Branch). IsTrue (is_live in_pool free b.child)) is
      (child-live joined entry_box branch_box keys is_made entry_made back_of laws in_pool e pages free level n above can page is_page (branches_on page) lead.branch.node way.at lead.branch.below blank)

  way-box : branch_box way.branch.low way.branch.high ≡ None → ⊥
  way-box none =
      child-box joined entry_box branch_box keys is_made entry_made back_of laws in_pool e pages free level n above can page is_page (branches_on page) lead.branch.node way.at lead.branch.below blank
      (ap (λ (b : Branch). branch_box b.low b.high) is ∙ none)

  module _ (own : entry_box e.entry ≡ Some e.summary) (mid_pages : ℕ → List ℕ) (mid_free : List ℕ) (grown : Grown S)
      (grows : Grows joined entry_box keys e.entry pages mid_pages free mid_free (level - 1) way.branch.child (Ok grown)) where
    grows_at : Grows joined entry_box keys e.entry pages mid_pages free mid_free (level - 1) (get_or (branches_on page) way.at blank).child (Ok grown)
    grows_at = subst (λ (b : Branch). Grows joined entry_box keys e.entry pages mid_pages free mid_free (level - 1) b.child (Ok grown)) (sym is) grows

    regrows_at : (mid : List Branch) → Regrows joined branch_box keys e way.branch grown mid → Regrows joined branch_box keys e (get_or (branches_on page) way.at blank) grown mid
    regrows_at mid regrows = subst (λ (b : Branch). Regrows joined branch_box keys e b grown mid) (sym is) regrows

    late : 0 < way.at → before_branch e.entry.key e.entry.id (get_or (branches_on page) way.at blank) ≡ false
    late some = ap (before_branch e.entry.key e.entry.id) is ∙ lead.late some

    -- each of the node's new branches has a box
    pub way-boxes : HaveBranchBoxes joined branch_box keys e page way grown
    way-boxes = (
      never-none (branch_box way.branch.low way.branch.high) way-box,
      λ mid regrows.
          rows-boxes joined entry_box branch_box keys is_made entry_made back_of laws in_pool e pages free level n above can page is_page (branches_on page) lead.branch.node way.at lead.branch.below
          blank late lead.early own mid_pages mid_free grown grows_at mid (replace_range (branches_on page) way.at (way.at + 1) mid) (regrows_at mid regrows) refl,
    )

    -- the node has the entry under it
    pub way-grows : (new : ℕ → List ℕ) (new_free : List ℕ) (result : Result (Grown S) TreeError)
        → Restores joined branch_box keys e n page way grown mid_pages new mid_free new_free result → Grows joined entry_box keys e.entry pages new free new_free level n result
    way-grows new new_free (Ok now) stores =
        node-grows joined entry_box branch_box keys is_made entry_made back_of laws in_pool e pages free level n above can page is_page (branches_on page) lead.branch.node way.at lead.branch.below
        blank late lead.early own mid_pages mid_free grown grows_at stores.mid (replace_range (branches_on page) way.at (way.at + 1) stores.mid) (regrows_at stores.mid stores.regrows) refl
        new new_free now stores.stores
    way-grows new new_free (Err why) stores = tt
