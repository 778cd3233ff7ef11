-- A leaf into which an entry is put.
use Rattle.std.proofs.Common.{◌≡◌, ℕ, ◌<◌, ◌≤◌, Bool, true, false, List, length, get_or, refl, sym, ap, subst, ◌∙◌, arith}
use Rattle.std.specs.Prelude.{IsSome, Option, Some, None, Result}
use Rattle.std.specs.List.{AllByRecursion, insert as inserted}
use Rattle.std.proofs.lemmas.List.Edits.{length-insert}
use Rattle.page_laws.specs.declared.errors.TreeError.{TreeError}
use Rattle.bptree_node.specs.declared.rows.Entry.{Entry}
use Rattle.bptree_node.specs.Nodes.{Leaf, node_in}
use Rattle.bptree_node.specs.Summaries.{HasCorners}
use Rattle.bptree_insert.specs.declared.grown.Grown.{Grown}
use Rattle.bptree_insert.specs.Rows.{entry_before, IsPlaced}
use Rattle.bptree_insert.specs.Steps.{HaveNot, CanTake, StoresLeaf, Grows}
use Rattle.bptree_edit.proofs.Under.{list-leaf, leaf-of}
use Rattle.bptree_insert.proofs.Placing.{placed-at, all-inserted}
use Rattle.bptree_insert.proofs.Storing.{leaf-grows}

module _ {S : Type 0} (joined : S → S → S) (entry_box : Entry → Option S) (keys : S → ℕ × ℕ) (in_pool : ℕ → Bool) (e : Entry) (pages : ℕ → List ℕ) (free : List ℕ) (n : ℕ)
    (can : CanTake (HasCorners joined entry_box keys) entry_box in_pool e pages free 0 n) (page : List ℕ) (is_page : page ≡ pages n) where
  -- the page is a leaf
  pub leaf-there : ((entries : List Entry) → node_in page ≡ Some (Leaf entries) → ⊥) → ⊥
  leaf-there never = let is = leaf-of (HasCorners joined entry_box keys) pages n can.nodes in never is.0 (ap node_in is_page ∙ is.1)

  module _ (entries : List Entry) (node : node_in page ≡ Some (Leaf entries)) where
    here : node_in (pages n) ≡ Some (Leaf entries)
    here = ap node_in (sym is_page) ∙ node

    have : HaveNot entry_box e entries
    have = subst (HaveNot entry_box e) (list-leaf pages n entries here) can.entries

    some_of : {A : Type 0} (o : Option A) (a : A) → o ≡ Some a → IsSome o
    some_of (Some x) a is = refl
    some_of None a is = cc

    -- all of the leaf's entries and the new one have summaries
    pub leaf-boxes : (at : ℕ) (s : S) (new : List Entry) → new ≡ inserted entries at e → entry_box e ≡ Some s → AllByRecursion (λ (f : Entry). IsSome (entry_box f)) new
    leaf-boxes at s new is own =
        subst (AllByRecursion (λ (f : Entry). IsSome (entry_box f))) (sym is)
        (all-inserted (λ (f : Entry). IsSome (entry_box f)) e entries at have.boxes (some_of (entry_box e) s own))

    pub leaf-grown : (at : ℕ) (seen new : List Entry) → seen ≡ entries → new ≡ inserted entries at e → at ≤ length seen
        → ((k : ℕ) (d : Entry) → k < at → entry_before e (get_or seen k d) ≡ false) → ((d : Entry) → at < length seen → entry_before e (get_or seen at d) ≡ true)
        → (after : ℕ → List ℕ) (new_free : List ℕ) (result : Result (Grown S) TreeError) → StoresLeaf joined entry_box n new pages after free new_free result
        → Grows joined entry_box keys e pages after free new_free 0 n result
    leaf-grown at seen new same is few late early after new_free result stores =
        let low : at ≤ length entries = subst (λ (es : List Entry). at ≤ length es) same few in
        let placed : IsPlaced e entries (inserted entries at e) =
        placed-at e entries at have.rising have.absent low
        (λ k d below. ap (λ (es : List Entry). entry_before e (get_or es k d)) (sym same) ∙ late k d below)
        (λ d below. ap (λ (es : List Entry). entry_before e (get_or es at d)) (sym same) ∙ early d (subst (λ (es : List Entry). at < length es) (sym same) below)) in
        leaf-grows joined entry_box keys e pages after free new_free n entries new here (subst (IsPlaced e entries) (sym is) placed)
        (omega (arith, ap length is, length-insert entries at e low)) result stores
