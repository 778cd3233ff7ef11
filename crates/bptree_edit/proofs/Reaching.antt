-- The branch under which a key and an id have their place, among the others.
use Rattle.std.proofs.Common.{◌≡◌, ℕ, zero, suc, ◌+◌, ◌<◌, Bool, true, false, List, [], ◌∷◌, ◌++◌, length, take, drop, get_or, refl, sym, ap, ap₂, subst, ◌∙◌, arith}
use Rattle.std.specs.Prelude.{Option, Some}
use Rattle.bptree_node.specs.declared.rows.Entry.{Entry}
use Rattle.bptree_node.specs.declared.rows.Branch.{Branch}
use Rattle.bptree_node.specs.Summaries.{HasCorners}
use Rattle.bptree_node.specs.Trees.{goes_before, IsRising, HasFirst}
use Rattle.bptree_node.specs.EntryLaws.{AreBefore, AreBehind, StartsBehind, starts-behind, before-first, rising-back}
use Rattle.bptree_edit.specs.NodesAt.{times, list_under, pages_under, list_under_all, pages_under_all, IsBranchOf, AreNodesUnder, AreChildren}
use Rattle.bptree_edit.specs.Parts.{before_branch}
use Rattle.bptree_edit.proofs.Summing.{AreJoined}
use Rattle.bptree_edit.proofs.Under.{list_all-cons, list_all-append, list_all-none, times_all-cons, times_all-append, children-front, children-back, children-first, children-others}
use Rattle.bptree_edit.proofs.Branches.{first-under}

-- a list around one item
pub around : {A : Type 0} (xs : List A) (i : ℕ) (d : A) → i < length xs → xs ≡ take i xs ++ (get_or xs i d ∷ [] ++ drop (i + 1) xs)
around [] i d below = absurd (omega (arith, below))
around (x ∷ xs) zero d below = refl
around (x ∷ xs) (suc i) d below =
    let next : suc (i + 1) ≡ suc i + 1 = omega arith in
    ap (λ zs. x ∷ zs) (around xs i d (omega (arith, below))) ∙ ap (λ (k : ℕ). x ∷ (take i xs ++ (get_or xs i d ∷ [] ++ drop k (x ∷ xs)))) next

-- the first of the branches goes behind, if there is one
abbrev HeadBehind : ℕ → ℕ → List Branch → Type 0
HeadBehind key id [] = Unit {0}
HeadBehind key id (b ∷ bs) = before_branch key id b ≡ true

head-drop : (key id : ℕ) (bs : List Branch) (k : ℕ) → ((d : Branch) → k < length bs → before_branch key id (get_or bs k d) ≡ true) → HeadBehind key id (drop k bs)
head-drop key id [] zero early = tt
head-drop key id [] (suc k) early = tt
head-drop key id (b ∷ bs) zero early = early b (omega arith)
head-drop key id (b ∷ bs) (suc k) early = head-drop key id bs k (λ d below. early d (omega (arith, below)))

starts : (key id first_key first_id : ℕ) (es : List Entry) → HasFirst first_key first_id es → goes_before key id first_key first_id ≡ true → StartsBehind key id es
starts key id first_key first_id [] first early = absurd first
starts key id first_key first_id (f ∷ fs) first early = ap₂ (λ (k i : ℕ). goes_before key id k i) first.0 first.1 ∙ early

-- ---- a branch among the others

module _ (pages : ℕ → List ℕ) (l : ℕ) (bs : List Branch) (at : ℕ) (d : Branch) (below : at < length bs) where
  pub list_around : list_under_all pages l bs ≡ list_under_all pages l (take at bs) ++ (list_under pages l (get_or bs at d).child ++ list_under_all pages l (drop (at + 1) bs))
  list_around =
      ap (list_under_all pages l) (around bs at d below)
      ∙ list_all-append pages l (take at bs) (get_or bs at d ∷ [] ++ drop (at + 1) bs)
      ∙ ap (λ (xs : List Entry). list_under_all pages l (take at bs) ++ xs) (list_all-cons pages l (get_or bs at d) (drop (at + 1) bs))

  pub times_around : (m : ℕ) → times m (pages_under_all pages l bs)
      ≡ times m (pages_under_all pages l (take at bs)) + (times m (pages_under pages l (get_or bs at d).child) + times m (pages_under_all pages l (drop (at + 1) bs)))
  times_around m =
      ap (λ (cs : List Branch). times m (pages_under_all pages l cs)) (around bs at d below)
      ∙ times_all-append m pages l (take at bs) (get_or bs at d ∷ [] ++ drop (at + 1) bs)
      ∙ ap (λ (k : ℕ). times m (pages_under_all pages l (take at bs)) + k) (times_all-cons m pages l (get_or bs at d) (drop (at + 1) bs))

  module _ (are_corners : List Entry → ℕ → ℕ → Type 0) (children : AreChildren are_corners pages l bs) where
    parts : AreChildren are_corners pages l (take at bs ++ (get_or bs at d ∷ [] ++ drop (at + 1) bs))
    parts = subst (AreChildren are_corners pages l) (around bs at d below) children

    pub children-from : AreChildren are_corners pages l (get_or bs at d ∷ [] ++ drop (at + 1) bs)
    children-from = children-back are_corners pages l (take at bs) (get_or bs at d ∷ [] ++ drop (at + 1) bs) parts

    pub children-till : AreChildren are_corners pages l (take at bs)
    children-till = children-front are_corners pages l (take at bs) (get_or bs at d ∷ [] ++ drop (at + 1) bs) parts

    pub child-at : IsBranchOf are_corners pages l (get_or bs at d) × AreNodesUnder are_corners pages l (get_or bs at d).child
    child-at = children-first are_corners pages l (get_or bs at d) (drop (at + 1) bs) children-from

    pub children-after : AreChildren are_corners pages l (drop (at + 1) bs)
    children-after = children-others are_corners pages l (get_or bs at d) (drop (at + 1) bs) children-from

module _ {S : Type 0} (joined : S → S → S) (entry_box : Entry → Option S) (branch_box : ℕ → ℕ → Option S) (keys : S → ℕ × ℕ) (is_made : S → Type 0)
    (entry_made : (e : Entry) (s : S) → entry_box e ≡ Some s → is_made s) (back_of : (s : S) (low high : ℕ) → is_made s → keys s ≡ (low, high) → branch_box low high ≡ Some s)
    (laws : AreJoined joined is_made) (key id : ℕ) (pages : ℕ → List ℕ) (l : ℕ) (bs : List Branch) (at : ℕ) (d : Branch) (below : at < length bs)
    (children : AreChildren (HasCorners joined entry_box keys) pages l bs) (rising : IsRising (list_under_all pages l bs)) where
  parts_rise : IsRising (list_under_all pages l (take at bs) ++ (list_under pages l (get_or bs at d).child ++ list_under_all pages l (drop (at + 1) bs)))
  parts_rise = subst IsRising (list_around pages l bs at d below) rising

  lower_of : (late : 0 < at → before_branch key id (get_or bs at d) ≡ false) (k : ℕ) → at ≡ k → AreBefore key id (list_under_all pages l (take at bs))
  lower_of late zero same = subst (AreBefore key id) (sym (ap (λ (i : ℕ). list_under_all pages l (take i bs)) same ∙ list_all-none pages l)) tt
  lower_of late (suc k) same =
      let b = get_or bs at d in
      let rest = list_under pages l b.child ++ list_under_all pages l (drop (at + 1) bs) in
      let first : HasFirst b.key b.id rest =
      subst (HasFirst b.key b.id) (list_all-cons pages l b (drop (at + 1) bs))
      (first-under joined entry_box branch_box keys is_made entry_made back_of laws pages l b.key b.id (b ∷ drop (at + 1) bs) (children-from pages l bs at d below (HasCorners joined entry_box keys) children) (refl, refl)) in
      before-first key id b.key b.id (list_under_all pages l (take at bs)) rest parts_rise first (late (omega (arith, same)))

  -- the entries under the branches before it go before
  pub front-before : (0 < at → before_branch key id (get_or bs at d) ≡ false) → AreBefore key id (list_under_all pages l (take at bs))
  front-before late = lower_of late at refl

  -- those under the branches behind it go behind
  pub back-behind : ((d : Branch) → at + 1 < length bs → before_branch key id (get_or bs (at + 1) d) ≡ true) → AreBehind key id (list_under_all pages l (drop (at + 1) bs))
  back-behind early =
      let b = get_or bs at d in
      starts-behind key id (list_under_all pages l (drop (at + 1) bs))
      (rising-back (list_under pages l b.child) (list_under_all pages l (drop (at + 1) bs))
      (rising-back (list_under_all pages l (take at bs)) (list_under pages l b.child ++ list_under_all pages l (drop (at + 1) bs)) parts_rise))
      (starts_of (drop (at + 1) bs) (children-after pages l bs at d below (HasCorners joined entry_box keys) children) (head-drop key id bs (at + 1) early))
    where
      starts_of : (cs : List Branch) → AreChildren (HasCorners joined entry_box keys) pages l cs → HeadBehind key id cs → StartsBehind key id (list_under_all pages l cs)
      starts_of [] are head = subst (StartsBehind key id) (sym (list_all-none pages l)) tt
      starts_of (c ∷ cs) are head =
          starts key id c.key c.id (list_under_all pages l (c ∷ cs))
          (first-under joined entry_box branch_box keys is_made entry_made back_of laws pages l c.key c.id (c ∷ cs) are (refl, refl)) head
