-- Trees that tests grow: what they have after so many insertions.
use Rattle.std.proofs.Common.{◌≡◌, inl, inr, ℕ, ◌+◌, ◌*◌, ◌<◌, ◌≤◌, ◌==◌, Bool, true, false, List, [], ◌∷◌, ◌++◌, length, set, get_or, refl, sym, ap, subst, ◌∙◌, arith, length-append, length-set, get_or-set_same, get_or-set_other}
use Rattle.std.specs.Prelude.{Option, Some, None, IsSome, if◌then◌else◌}
use Rattle.std.specs.List.{AllByRecursion, IsDistinct}
use Rattle.std.proofs.lemmas.Bool.{cases_eq, false≢true}
use Rattle.std.proofs.lemmas.Bool.Decides.{nat_tests}
use Rattle.std.proofs.lemmas.List.Elements.{All-nil, All-cons}
use Rattle.page_laws.specs.declared.root.Root.{Root}
use Rattle.page_laws.specs.Pages.{is_live}
use Rattle.bptree_node.specs.declared.rows.Entry.{Entry}
use Rattle.bptree_node.specs.Lists.{all-front, all-back, all-append, all-weaker}
use Rattle.bptree_node.specs.Trees.{is_entry, slot_of, list_at, IsTree}
use Rattle.bptree_edit.specs.Changes.{IsWith, HaveBoxes}
use Rattle.bptree_insert.specs.Growth.{TakesAtMost}

-- the entry has a box, and its id is among those seen
abbrev pub IsGrown : {S : Type 0} → (Entry → Option S) → List Bool → Entry → Type 0
IsGrown entry_box seen f = IsSome (entry_box f) × (get_or seen f.id false ≡ true)

-- after so many turns the entries have boxes, their ids were seen, and few pages were taken
pub record IsGrowing {S : Type 0} (are_corners : List Entry → ℕ → ℕ → Type 0) (entry_box : Entry → Option S) (pages : ℕ → List ℕ) (in_pool : ℕ → Bool) (free : List ℕ)
    (seen : List Bool) (turns : ℕ) (root : Root) : Type 0 where
  pub tree : IsTree are_corners pages (is_live in_pool free) root
  pub ids : AllByRecursion (IsGrown entry_box seen) (list_at pages root)
  pub long : length seen ≡ 240
  pub few : length (list_at pages root) ≤ turns
  pub left : 1499 ≤ length free + 6 * turns

-- and the pages are of the pool that was there
pub record IsGrowingIn {S : Type 0} (are_corners : List Entry → ℕ → ℕ → Type 0) (entry_box : Entry → Option S) (pages : ℕ → List ℕ) (in_pool old_pool : ℕ → Bool) (free : List ℕ)
    (seen : List Bool) (next turns : ℕ) (root : Root) : Type 0 where
  pub grown : IsGrowing are_corners entry_box pages in_pool free seen turns root
  pub pool : in_pool ≡ old_pool
  pub id : next < 240

pub none-grown : {S : Type 0} (are_corners : List Entry → ℕ → ℕ → Type 0) (entry_box : Entry → Option S) (pages : ℕ → List ℕ) (in_pool : ℕ → Bool) (free : List ℕ) (seen : List Bool)
    → 1499 ≤ length free → length seen ≡ 240 → IsGrowing are_corners entry_box pages in_pool free seen 0 (record { page = 0; height = 0 })
unfolding IsDistinct
none-grown are_corners entry_box pages in_pool free seen many long = record {
  tree = record { tree = record { height = omega arith; sound = refl; rising = tt; distinct = tt; live = tt }; corners = tt };
  ids = tt;
  long = long;
  few = omega arith;
  left = omega (arith, many);
}

-- a turn that adds nothing
pub same-grown : {S : Type 0} (are_corners : List Entry → ℕ → ℕ → Type 0) (entry_box : Entry → Option S) (pages : ℕ → List ℕ) (in_pool : ℕ → Bool) (free : List ℕ) (seen : List Bool) (turns : ℕ) (root : Root)
    → IsGrowing are_corners entry_box pages in_pool free seen turns root → IsGrowing are_corners entry_box pages in_pool free seen (turns + 1) root
same-grown are_corners entry_box pages in_pool free seen turns root was = record {
  tree = was.tree;
  ids = was.ids;
  long = was.long;
  few = omega (arith, was.few);
  left = omega (arith, was.left);
}

pub boxed : {S : Type 0} (entry_box : Entry → Option S) (seen : List Bool) (es : List Entry) → AllByRecursion (IsGrown entry_box seen) es → HaveBoxes entry_box es
boxed entry_box seen [] all = All-nil (λ (e : Entry). IsSome (entry_box e))
boxed entry_box seen (f ∷ fs) all = All-cons (λ (e : Entry). IsSome (entry_box e)) f fs all.0.0 (boxed entry_box seen fs all.1)

pub absent : {S : Type 0} (entry_box : Entry → Option S) (key id : ℕ) (seen : List Bool) (es : List Entry) → AllByRecursion (IsGrown entry_box seen) es → get_or seen id false ≡ false → slot_of key id es ≡ None
absent entry_box key id seen [] all new = refl
absent entry_box key id seen (f ∷ fs) all new = found (f.id == id) refl (absent entry_box key id seen fs all.1 new)
  where
    found : (b : Bool) → (f.id == id) ≡ b → slot_of key id fs ≡ None → slot_of key id (f ∷ fs) ≡ None
    found true is rest =
        let same : f.id ≡ id = grind (arith, nat_tests, is) in
        absurd (false≢true (sym new ∙ ap (λ (k : ℕ). get_or seen k false) (sym same) ∙ all.0.1))
    found false is rest =
        let other : is_entry key id f ≡ false = grind (arith, nat_tests, is) in
        ap (λ (b : Bool). if b then Some f.slot else slot_of key id fs) other ∙ rest

still : (seen : List Bool) (i k : ℕ) → i < length seen → get_or seen k false ≡ true → get_or (set seen i true) k false ≡ true
still seen i k below is = elim (cases_eq k i) [
  | inl same ↦ ap (λ (j : ℕ). get_or (set seen i true) j false) same ∙ get_or-set_same seen i true false below
  | inr other ↦ get_or-set_other seen i k true false other ∙ is
]

-- one more
pub more-grown : {S : Type 0} (are_corners : List Entry → ℕ → ℕ → Type 0) (entry_box : Entry → Option S) (old new : ℕ → List ℕ) (in_pool new_pool : ℕ → Bool) (free new_free : List ℕ) (seen : List Bool)
    (turns : ℕ) (root above : Root) (e : Entry) → IsGrowing are_corners entry_box old in_pool free seen turns root → e.id < 240 → IsSome (entry_box e)
    → IsWith e (list_at old root) (list_at new above) → IsTree are_corners new (is_live new_pool new_free) above → TakesAtMost 6 free new_free
    → IsGrowing are_corners entry_box new new_pool new_free (set seen e.id true) (turns + 1) above
more-grown are_corners entry_box old new in_pool new_pool free new_free seen turns root above e was low box list tree takes =
    let P : Entry → Type 0 = IsGrown entry_box (set seen e.id true) in
    let kept : AllByRecursion P (list.before ++ list.after) =
    subst (AllByRecursion P) list.were
    (all-weaker (IsGrown entry_box seen) P (λ f is. (is.0, still seen e.id f.id (omega (arith, low, was.long)) is.1)) (list_at old root) was.ids) in
    record {
      tree = tree;
      ids = subst (AllByRecursion P) (sym list.are)
          (all-append P list.before (e ∷ list.after) (all-front P list.before list.after kept)
          ((box, get_or-set_same seen e.id true false (omega (arith, low, was.long))), all-back P list.before list.after kept));
      long = length-set seen e.id true ∙ was.long;
      few = omega (arith, was.few, ap length list.were, ap length list.are, length-append list.before list.after, length-append list.before (e ∷ list.after));
      left = omega (arith, was.left, takes.count);
    }
