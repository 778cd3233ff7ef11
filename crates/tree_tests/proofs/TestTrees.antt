-- Trees that tests grow: what they have after so many insertions.
use Rattle.std.proofs.Common.{◌≡◌, inl, inr, ℕ, ◌+◌, ◌*◌, ◌<◌, ◌≤◌, ◌==◌, Bool, true, false, List, [], ◌∷◌, ◌++◌, length, set, get_or, refl, sym, ap, subst, ◌∙◌, arith, length-append, length-set, get_or-set_same, get_or-set_other}
use Rattle.std.specs.Prelude.{Some, None, if◌then◌else◌}
use Rattle.std.specs.List.{AllByRecursion, IsDistinct}
use Rattle.std.proofs.lemmas.Bool.{cases_eq, false≢true}
use Rattle.std.proofs.lemmas.Bool.Decides.{nat_tests}
use Rattle.page_laws.specs.declared.root.Root.{Root}
use Rattle.page_laws.specs.Pages.{is_live}
use Rattle.bptree_node.specs.declared.rows.Entry.{Entry}
use Rattle.bptree_node.specs.declared.summary.NoBox.{NoBox}
use Rattle.bptree_node.specs.Lists.{all-front, all-back, all-append, all-weaker}
use Rattle.bptree_node.specs.Summaries.{HasCorners}
use Rattle.bptree_node.specs.Trees.{is_entry, slot_of, list_at, IsTree}
use Rattle.bptree_edit.specs.Changes.{IsWith}
use Rattle.bptree_insert.specs.Growth.{TakesAtMost}
use Rattle.bptree_insert.specs.NoBoxLaws.{kept_box}

abbrev pub no_corners : List Entry → ℕ → ℕ → Type 0
no_corners = HasCorners {S = NoBox} (λ a _. a) (λ _. Some kept_box) (λ _. (0, 0))

-- the id is among those seen
abbrev pub is_seen : List Bool → Entry → Type 0
is_seen seen f = get_or seen f.id false ≡ true

-- after so many turns the ids of the entries were seen, and few pages were taken
pub record IsGrowing (pages : ℕ → List ℕ) (in_pool : ℕ → Bool) (free : List ℕ) (seen : List Bool) (turns : ℕ) (root : Root) : Type 0 where
  pub tree : IsTree no_corners pages (is_live in_pool free) root
  pub ids : AllByRecursion (is_seen seen) (list_at pages root)
  pub long : length seen ≡ 40
  pub few : length (list_at pages root) ≤ turns
  pub left : 300 ≤ length free + 6 * turns

pub none-grown : (pages : ℕ → List ℕ) (in_pool : ℕ → Bool) (free : List ℕ) (seen : List Bool) → 300 ≤ length free → length seen ≡ 40
    → IsGrowing pages in_pool free seen 0 (record { page = 0; height = 0 })
unfolding IsDistinct
none-grown pages in_pool free seen many long = record {
  tree = record { tree = record { height = omega arith; sound = refl; rising = tt; distinct = tt; live = tt }; corners = tt };
  ids = tt;
  long = long;
  few = omega arith;
  left = omega (arith, many);
}

pub absent : (key id : ℕ) (seen : List Bool) (es : List Entry) → AllByRecursion (is_seen seen) es → get_or seen id false ≡ false → slot_of key id es ≡ None
absent key id seen [] all new = refl
absent key id seen (f ∷ fs) all new = found (f.id == id) refl (absent key id seen fs all.1 new)
  where
    found : (b : Bool) → (f.id == id) ≡ b → slot_of key id fs ≡ None → slot_of key id (f ∷ fs) ≡ None
    found true is rest =
        let same : f.id ≡ id = grind (arith, nat_tests, is) in
        absurd (false≢true (sym new ∙ ap (λ (k : ℕ). get_or seen k false) (sym same) ∙ all.0))
    found false is rest =
        let other : is_entry key id f ≡ false = grind (arith, nat_tests, is) in
        ap (λ (b : Bool). if b then Some f.slot else slot_of key id fs) other ∙ rest

still : (seen : List Bool) (i k : ℕ) → i < length seen → get_or seen k false ≡ true → get_or (set seen i true) k false ≡ true
still seen i k below is = elim (cases_eq k i) [
  | inl same ↦ ap (λ (j : ℕ). get_or (set seen i true) j false) same ∙ get_or-set_same seen i true false below
  | inr other ↦ get_or-set_other seen i k true false other ∙ is
]

-- one more
pub more-grown : (old new : ℕ → List ℕ) (in_pool new_pool : ℕ → Bool) (free new_free : List ℕ) (seen : List Bool) (turns : ℕ) (root above : Root) (e : Entry)
    → IsGrowing old in_pool free seen turns root → e.id < 40 → IsWith e (list_at old root) (list_at new above) → IsTree no_corners new (is_live new_pool new_free) above
    → TakesAtMost 6 free new_free → IsGrowing new new_pool new_free (set seen e.id true) (turns + 1) above
more-grown old new in_pool new_pool free new_free seen turns root above e was low list tree takes =
    let kept : AllByRecursion (is_seen (set seen e.id true)) (list.before ++ list.after) =
    subst (AllByRecursion (is_seen (set seen e.id true))) list.were
    (all-weaker (is_seen seen) (is_seen (set seen e.id true)) (λ f is. still seen e.id f.id (omega (arith, low, was.long)) is) (list_at old root) was.ids) in
    record {
      tree = tree;
      ids = subst (AllByRecursion (is_seen (set seen e.id true))) (sym list.are)
          (all-append (is_seen (set seen e.id true)) list.before (e ∷ list.after) (all-front (is_seen (set seen e.id true)) list.before list.after kept)
          (get_or-set_same seen e.id true false (omega (arith, low, was.long)), all-back (is_seen (set seen e.id true)) list.before list.after kept));
      long = length-set seen e.id true ∙ was.long;
      few = omega (arith, was.few, ap length list.were, ap length list.are, length-append list.before list.after, length-append list.before (e ∷ list.after));
      left = omega (arith, was.left, takes.count);
    }
