-- A range visits each branch under which there is a key that it may have.
use Rattle.std.proofs.Common.{◌≡◌, ℕ, zero, suc, Bool, true, false, List, [], ◌∷◌, ◌++◌, refl, sym, ap, ◌∙◌}
use Rattle.std.specs.Prelude.{IsTrue, if◌then◌else◌, ◌||◌, map, Some, All}
use Rattle.std.specs.List.{flat_map, list_any, AllByRecursion}
use Rattle.std.proofs.lemmas.Bool.{false≢true}
use Rattle.std.proofs.lemmas.List.Elements.{All-nil, All-cons, All-head, All-tail}
use Rattle.curve_laws.specs.Grid.{IsKey}
use Rattle.page_laws.specs.declared.root.Root.{Root}
use Rattle.bptree_node.specs.declared.rows.Entry.{Entry}
use Rattle.bptree_node.specs.Trees.{Tree, Limb, tree_at, list_of, list_at, HaveCorners, HaveCornersAt, IsCovered, IsCoveredAt, IsTree}
use Rattle.spb_defs.specs.Pivots.{meets}
use Rattle.box_corner.specs.Boxes.{Box, box_meets, IsInBox}
use Rattle.box_corner.specs.CurveBoxes.{is_key, AreKeys, ReadBack}
use Rattle.box_corner.specs.CurveBoxLaws.{Decides-is_key}
use Rattle.query_shelf.specs.Regions.{meets_found, meets_box, has_key}

-- what holds of each item of two lists, one after the other
all_front : {A : Type 0} (Q : A → Type 0) (xs ys : List A) → All Q (xs ++ ys) → All Q xs
all_front Q [] ys all = All-nil Q
all_front Q (x ∷ xs) ys all = All-cons Q x xs (All-head Q x (xs ++ ys) all) (all_front Q xs ys (All-tail Q x (xs ++ ys) all))

all_back : {A : Type 0} (Q : A → Type 0) (xs ys : List A) → All Q (xs ++ ys) → All Q ys
all_back Q [] ys all = all
all_back Q (x ∷ xs) ys all = all_back Q xs ys (All-tail Q x (xs ++ ys) all)

one_of : (p q : Bool) (A : Type 0) → (p || q) ≡ true → (p ≡ true → A) → (q ≡ true → A) → A
one_of true q A any here rest = here refl
one_of false q A any here rest = rest any

chosen : (test met : Bool) → test ≡ true → (if test then met else true) ≡ true → met ≡ true
chosen true met is has = has
chosen false met is has = absurd (false≢true is)

module _ (n b : ℕ) (cell_of : ℕ → List ℕ) (asked : List ℕ) (radius : ℕ) (met : (v : List ℕ) (box : Box) → IsInBox v box → IsTrue (meets asked radius v) → IsTrue (box_meets asked radius box)) where
  abbrev has : ℕ → Bool
  has = has_key n b cell_of asked radius

  abbrev follows : ℕ → ℕ → Bool
  follows = meets_box n b cell_of asked radius

  box_met : (box : Box) (es : List Entry) → All (λ v. IsInBox v box) (map (λ (e : Entry). cell_of e.key) es) → AreKeys n b es → list_any (λ (e : Entry). has e.key) es ≡ true
      → box_meets asked radius box ≡ true
  box_met box [] inside keys any = absurd (false≢true any)
  box_met box (e ∷ es) inside keys any =
      let cells = map (λ (f : Entry). cell_of f.key) es in
      let key = All-head (λ (f : Entry). IsKey n b f.key) e es keys in
      one_of (has e.key) (list_any (λ (f : Entry). has f.key) es) (box_meets asked radius box ≡ true) any
      (λ here. met (cell_of e.key) box (All-head (λ v. IsInBox v box) (cell_of e.key) cells inside)
      (chosen (is_key n b e.key) (meets asked radius (cell_of e.key)) ((Decides-is_key n b e.key).1 key) here))
      (λ rest. box_met box es (All-tail (λ v. IsInBox v box) (cell_of e.key) cells inside) (All-tail (λ (f : Entry). IsKey n b f.key) e es keys) rest)

  branch_met : (es : List Entry) (low high : ℕ) → ReadBack n b cell_of es low high → AreKeys n b es → list_any (λ (e : Entry). has e.key) es ≡ true → follows low high ≡ true
  branch_met es low high back keys any = ap (meets_found asked radius) back.read ∙ box_met back.box es back.is.holds keys any

  module _ (are_corners : List Entry → ℕ → ℕ → Type 0) (back : (es : List Entry) (low high : ℕ) → are_corners es low high → ReadBack n b cell_of es low high) where
    limbs_covered : (l : ℕ) → ((t : Tree l) → HaveCorners are_corners l t → AreKeys n b (list_of l t) → IsCovered follows has l t) → (limbs : List (Limb (Tree l)))
        → AllByRecursion (λ (limb : Limb (Tree l)). are_corners (list_of l limb.below) limb.branch.low limb.branch.high × HaveCorners are_corners l limb.below) limbs
        → AreKeys n b (flat_map (λ (limb : Limb (Tree l)). list_of l limb.below) limbs)
        → AllByRecursion (λ (limb : Limb (Tree l)).
        (IsTrue (list_any (λ (e : Entry). has e.key) (list_of l limb.below)) → IsTrue (follows limb.branch.low limb.branch.high)) × IsCovered follows has l limb.below) limbs
    limbs_covered l each [] corners keys = tt
    limbs_covered l each (limb ∷ limbs) corners keys =
        let here = list_of l limb.below in
        let there = flat_map (λ (other : Limb (Tree l)). list_of l other.below) limbs in
        let own = all_front (λ (e : Entry). IsKey n b e.key) here there keys in (
          (
            λ any. branch_met here limb.branch.low limb.branch.high (back here limb.branch.low limb.branch.high corners.0.0) own any,
            each limb.below corners.0.1 own,
          ),
          limbs_covered l each limbs corners.1 (all_back (λ (e : Entry). IsKey n b e.key) here there keys),
        )

    tree_covered : (l : ℕ) (t : Tree l) → HaveCorners are_corners l t → AreKeys n b (list_of l t) → IsCovered follows has l t
    tree_covered zero t corners keys = tt
    tree_covered (suc l) t corners keys = limbs_covered l (tree_covered l) t.limbs corners keys

    pub root_covered : (pages : ℕ → List ℕ) (height page : ℕ) → HaveCornersAt are_corners pages height page → AreKeys n b (list_at pages (record { page = page; height = height }))
        → IsCoveredAt follows has pages height page
    root_covered pages zero page corners keys = tt
    root_covered pages (suc l) page corners keys = tree_covered l (tree_at pages l page) corners keys
