-- Trees from their roots, before and after an insertion.
use Rattle.std.proofs.Common.{◌≡◌, ℕ, suc, Bool, true, false, List, [], ◌∷◌, refl, sym, ap, subst, ◌∙◌}
use Rattle.std.specs.Prelude.{IsSome, Option, Some, None, if◌then◌else◌}
use Rattle.std.specs.List.{AllByRecursion}
use Rattle.page_laws.specs.declared.root.Root.{Root}
use Rattle.page_laws.specs.Pages.{is_live, AreFree}
use Rattle.bptree_node.specs.declared.rows.Entry.{Entry}
use Rattle.bptree_node.specs.Trees.{is_entry, slot_of, IsTree, list_at, pages_at}
use Rattle.bptree_edit.specs.Changes.{HaveBoxes}
use Rattle.bptree_edit.specs.NodesAt.{AreOwn}
use Rattle.bptree_edit.proofs.Rooted.{by-recursion, own-of, list_at-under, pages_at-under, tree-nodes}
use Rattle.bptree_insert.specs.Steps.{HaveNot, CanTake}

absent-of : (key id : ℕ) (es : List Entry) → slot_of key id es ≡ None → AllByRecursion (λ (f : Entry). is_entry key id f ≡ false) es
absent-of key id [] none = tt
absent-of key id (f ∷ fs) none = found (is_entry key id f) refl (absent-of key id fs)
  where
    found : (b : Bool) → is_entry key id f ≡ b → (slot_of key id fs ≡ None → AllByRecursion (λ (f : Entry). is_entry key id f ≡ false) fs)
        → AllByRecursion (λ (f : Entry). is_entry key id f ≡ false) (f ∷ fs)
    found true is rest = absurd (let here = ap (λ (b : Bool). if b then Some f.slot else slot_of key id fs) is in cc)
    found false is rest = (is, rest (sym (ap (λ (b : Bool). if b then Some f.slot else slot_of key id fs) is) ∙ none))

-- an entry may be put into a tree
pub tree-can : {S : Type 0} (are_corners : List Entry → ℕ → ℕ → Type 0) (entry_box : Entry → Option S) (in_pool : ℕ → Bool) (e : Entry) (pages : ℕ → List ℕ) (free : List ℕ) (root : Root) (l : ℕ)
    → root.height ≡ suc l → AreFree in_pool free → IsTree are_corners pages (is_live in_pool free) root → HaveBoxes entry_box (list_at pages root) → slot_of e.key e.id (list_at pages root) ≡ None
    → CanTake are_corners entry_box in_pool e pages free l root.page
tree-can are_corners entry_box in_pool e pages free root l is are tree boxes absent =
    let all : HaveNot entry_box e (list_at pages root) = record {
      rising = tree.tree.rising;
      absent = absent-of e.key e.id (list_at pages root) absent;
      boxes = by-recursion (λ (f : Entry). IsSome (entry_box f)) (list_at pages root) boxes;
    } in
    record {
      nodes = tree-nodes are_corners pages (is_live in_pool free) root l is tree;
      own = subst (AreOwn in_pool free) (pages_at-under pages root l is) (own-of in_pool free (pages_at pages root) are tree.tree.distinct tree.tree.live);
      entries = subst (HaveNot entry_box e) (list_at-under pages root l is) all;
    }
