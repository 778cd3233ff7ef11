-- The bound of a box is at most those of all boxes and cells in it.
use Rattle.std.proofs.Common.{◌≡◌, ℕ, zero, suc, ◌≤◌, max, List, [], ◌∷◌, map, sym, ap, subst, arith}
use Rattle.std.specs.Prelude.{All}
use Rattle.std.specs.List.{flat_map, AllByRecursion}
use Rattle.std.proofs.lemmas.List.Elements.{All-nil, All-cons, All-head, All-tail}
use Rattle.curve_laws.specs.Vectors.{IsUpTo}
use Rattle.bptree_node.specs.declared.rows.Entry.{Entry}
use Rattle.bptree_node.specs.Lists.{all-front, all-back, all-append}
use Rattle.bptree_node.specs.Trees.{Tree, Limb, list_of, HaveCorners}
use Rattle.box_corner.specs.Boxes.{Box, span_gap, box_bound, IsInBox}
use Rattle.box_corner.specs.CurveBoxes.{branch_box, ReadBack}
use Rattle.box_corner.proofs.Bounds.{bound-in_box}
use Rattle.near_search.specs.Queue.{Candidate}
use Rattle.shelf_tree.specs.Contents.{bound_of_found, branch_bound, bounds_below, candidate_of}

-- ---- a box in a box

span-narrow : (q low high x y least most : ℕ) → low ≤ x → y ≤ high → least ≤ most → max (span_gap q (low, high)) least ≤ max (span_gap q (x, y)) most
span-narrow q low high x y least most above below rest = grind (arith)

narrow : (asked low high inner_low inner_high : List ℕ) → IsUpTo low inner_low → IsUpTo inner_high high
    → box_bound asked (record { low = low; high = high }) ≤ box_bound asked (record { low = inner_low; high = inner_high })
narrow [] low high inner_low inner_high above below = omega arith
narrow (q ∷ qs) [] high inner_low inner_high above below = omega arith
narrow (q ∷ qs) (l ∷ ls) [] inner_low inner_high above below = omega arith
narrow (q ∷ qs) (l ∷ ls) (h ∷ hs) [] inner_high above below = absurd above
narrow (q ∷ qs) (l ∷ ls) (h ∷ hs) (x ∷ xs) [] above below = absurd below
narrow (q ∷ qs) (l ∷ ls) (h ∷ hs) (x ∷ xs) (y ∷ ys) above below =
    span-narrow q l h x y (box_bound qs (record { low = ls; high = hs })) (box_bound qs (record { low = xs; high = ys })) above.0 below.0
    (narrow qs ls hs xs ys above.1 below.1)

pub bound-narrow : (asked : List ℕ) (outer inner : Box) → IsUpTo outer.low inner.low × IsUpTo inner.high outer.high → box_bound asked outer ≤ box_bound asked inner
bound-narrow asked outer inner within = narrow asked outer.low outer.high inner.low inner.high within.0 within.1

-- ---- what is under a node

module _ (n b : ℕ) (cell_of : ℕ → List ℕ) (asked : List ℕ) where
  abbrev pub AreInBox : Box → List Entry → Type 0
  AreInBox box es = AllByRecursion (λ (e : Entry). IsInBox (cell_of e.key) box) es

  pub each_in : (box : Box) (es : List Entry) → All (λ v. IsInBox v box) (map (λ (e : Entry). cell_of e.key) es) → AreInBox box es
  each_in box [] all = tt
  each_in box (e ∷ es) all =
      let cells = map (λ (f : Entry). cell_of f.key) es in
      (All-head (λ v. IsInBox v box) (cell_of e.key) cells all, each_in box es (All-tail (λ v. IsInBox v box) (cell_of e.key) cells all))

  all_in : (box : Box) (es : List Entry) → AreInBox box es → All (λ v. IsInBox v box) (map (λ (e : Entry). cell_of e.key) es)
  all_in box [] all = All-nil (λ v. IsInBox v box)
  all_in box (e ∷ es) all = All-cons (λ v. IsInBox v box) (cell_of e.key) (map (λ (f : Entry). cell_of f.key) es) all.0 (all_in box es all.1)

  pub candidates-bounded : (box : Box) (es : List Entry) → AreInBox box es
      → AllByRecursion (λ (c : Candidate). box_bound asked box ≤ c.bound) (map (candidate_of cell_of asked) es)
  candidates-bounded box [] all = tt
  candidates-bounded box (e ∷ es) all = (bound-in_box asked (cell_of e.key) box all.0, candidates-bounded box es all.1)

  -- the bound of a branch is that of its box
  pub branch-bound : (es : List Entry) (low high : ℕ) (back : ReadBack n b cell_of es low high)
      → bound_of_found asked (branch_box n b cell_of low high) ≡ box_bound asked back.box
  branch-bound es low high back = ap (bound_of_found asked) back.read

  limbs-bounded : (l : ℕ) (box : Box)
      → ((t : Tree l) → AreInBox box (list_of l t) → HaveCorners (ReadBack n b cell_of) l t
      → AllByRecursion (λ (m : ℕ). box_bound asked box ≤ m) (bounds_below (branch_bound n b cell_of asked) l t))
      → (limbs : List (Limb (Tree l))) → AreInBox box (flat_map (λ (limb : Limb (Tree l)). list_of l limb.below) limbs)
      → AllByRecursion (λ (limb : Limb (Tree l)).
      ReadBack n b cell_of (list_of l limb.below) limb.branch.low limb.branch.high × HaveCorners (ReadBack n b cell_of) l limb.below) limbs
      → AllByRecursion (λ (m : ℕ). box_bound asked box ≤ m)
      (flat_map (λ (limb : Limb (Tree l)). branch_bound n b cell_of asked limb.branch ∷ bounds_below (branch_bound n b cell_of asked) l limb.below) limbs)
  limbs-bounded l box each [] inside corners = tt
  limbs-bounded l box each (limb ∷ limbs) inside corners =
      let here = list_of l limb.below in
      let there = flat_map (λ (other : Limb (Tree l)). list_of l other.below) limbs in
      let own : AreInBox box here = all-front (λ (e : Entry). IsInBox (cell_of e.key) box) here there inside in
      let back = corners.0.0 in
      let first : box_bound asked box ≤ branch_bound n b cell_of asked limb.branch =
      subst (λ (m : ℕ). box_bound asked box ≤ m) (sym (branch-bound here limb.branch.low limb.branch.high back))
      (bound-narrow asked box back.box (back.is.least box (all_in box here own))) in (
        first,
        all-append (λ (m : ℕ). box_bound asked box ≤ m) (bounds_below (branch_bound n b cell_of asked) l limb.below)
            (flat_map (λ (other : Limb (Tree l)). branch_bound n b cell_of asked other.branch ∷ bounds_below (branch_bound n b cell_of asked) l other.below) limbs)
            (each limb.below own corners.0.1)
            (limbs-bounded l box each limbs (all-back (λ (e : Entry). IsInBox (cell_of e.key) box) here there inside) corners.1),
      )

  pub bounds-bounded : (l : ℕ) (box : Box) (t : Tree l) → AreInBox box (list_of l t) → HaveCorners (ReadBack n b cell_of) l t
      → AllByRecursion (λ (m : ℕ). box_bound asked box ≤ m) (bounds_below (branch_bound n b cell_of asked) l t)
  bounds-bounded zero box t inside corners = tt
  bounds-bounded (suc l) box t inside corners = limbs-bounded l box (bounds-bounded l box) t.limbs inside corners
