-- What a query's bound on a box says of the cells in it.
use Rattle.std.specs.Prelude.{◌≡◌, ℕ, ◌≤◌, ◌+◌, ◌&&◌, nat_le, max, Bool, true, List, [], ◌∷◌}
use Rattle.std.proofs.Common.{refl, sym, ap, ap₂, ◌∙◌, arith}
use Rattle.std.proofs.lemmas.Bool.Decides.{nat_tests}
use Rattle.spb_defs.specs.Pivots.{meets, gap, lower_bound}
use Rattle.curve_laws.specs.Vectors.{IsUpTo}
use Rattle.box_corner.specs.Boxes.{Box, point, box_meets, span_gap, box_bound, IsInBox}

-- ---- one coordinate

gap-in_span : (asked low x high least most : ℕ) → low ≤ x → x ≤ high → least ≤ most → max (span_gap asked (low, high)) least ≤ max (gap asked x) most
gap-in_span asked low x high least most above below rest = grind (arith)

gap-of_point : (asked x : ℕ) → span_gap asked (x, x) ≡ gap asked x
gap-of_point asked x = grind (arith)

near-by_gap : (asked low high radius most : ℕ) (met : Bool) → met ≡ nat_le most radius
    → (nat_le low (asked + radius) && nat_le asked (high + radius) && met) ≡ nat_le (max (span_gap asked (low, high)) most) radius
near-by_gap asked low high radius most met h = grind (arith, nat_tests)

zero-within : (radius : ℕ) → true ≡ nat_le 0 radius
zero-within radius = grind (arith, nat_tests)

within-less : (least most radius : ℕ) → least ≤ most → nat_le most radius ≡ true → nat_le least radius ≡ true
within-less least most radius h k = grind (arith, nat_tests)

-- ---- all coordinates

bound-between : (asked low v high : List ℕ) → IsUpTo low v → IsUpTo v high → box_bound asked (record { low = low; high = high }) ≤ lower_bound asked v
bound-between [] low v high above below = omega arith
bound-between (q ∷ qs) [] [] [] above below = omega arith
bound-between (q ∷ qs) [] (x ∷ xs) high above below = absurd above
bound-between (q ∷ qs) (l ∷ ls) [] high above below = absurd above
bound-between (q ∷ qs) [] [] (h ∷ hs) above below = absurd below
bound-between (q ∷ qs) (l ∷ ls) (x ∷ xs) [] above below = absurd below
bound-between (q ∷ qs) (l ∷ ls) (x ∷ xs) (h ∷ hs) above below =
    gap-in_span q l x h (box_bound qs (record { low = ls; high = hs })) (lower_bound qs xs) above.0 below.0 (bound-between qs ls xs hs above.1 below.1)

-- the bound of a box is at most that of each cell in it
pub bound-in_box : (asked v : List ℕ) (box : Box) → IsInBox v box → box_bound asked box ≤ lower_bound asked v
bound-in_box asked v box is = bound-between asked box.low v box.high is.above is.below

-- the box of one cell has the cell's bound
pub bound-of_point : (asked v : List ℕ) → box_bound asked (point v) ≡ lower_bound asked v
bound-of_point [] v = refl
bound-of_point (q ∷ qs) [] = refl
bound-of_point (q ∷ qs) (x ∷ xs) = ap₂ (λ (m n : ℕ). max m n) (gap-of_point q x) (bound-of_point qs xs)

-- and is met exactly if the cell is
pub met-of_point : (asked v : List ℕ) (radius : ℕ) → box_meets asked radius (point v) ≡ meets asked radius v
met-of_point [] v radius = refl
met-of_point (q ∷ qs) [] radius = refl
met-of_point (q ∷ qs) (x ∷ xs) radius = ap (λ (met : Bool). nat_le x (q + radius) && nat_le q (x + radius) && met) (met-of_point qs xs radius)

met-between : (asked low high : List ℕ) (radius : ℕ)
    → box_meets asked radius (record { low = low; high = high }) ≡ nat_le (box_bound asked (record { low = low; high = high })) radius
met-between [] low high radius = zero-within radius
met-between (q ∷ qs) [] high radius = zero-within radius
met-between (q ∷ qs) (l ∷ ls) [] radius = zero-within radius
met-between (q ∷ qs) (l ∷ ls) (h ∷ hs) radius =
    near-by_gap q l h radius (box_bound qs (record { low = ls; high = hs })) (box_meets qs radius (record { low = ls; high = hs })) (met-between qs ls hs radius)

-- a box is met exactly if its bound is within the radius
pub met-by_bound : (asked : List ℕ) (radius : ℕ) (box : Box) → box_meets asked radius box ≡ nat_le (box_bound asked box) radius
met-by_bound asked radius box = met-between asked box.low box.high radius

-- a box that holds a cell which is met is met
pub met-in_box : (asked v : List ℕ) (radius : ℕ) (box : Box) → IsInBox v box → meets asked radius v ≡ true → box_meets asked radius box ≡ true
met-in_box asked v radius box is met =
    let near : nat_le (lower_bound asked v) radius ≡ true =
    ap (λ (bound : ℕ). nat_le bound radius) (sym (bound-of_point asked v)) ∙ sym (met-by_bound asked radius (point v)) ∙ met-of_point asked v radius ∙ met in
    met-by_bound asked radius box ∙ within-less (box_bound asked box) (lower_bound asked v) radius (bound-in_box asked v box is) near
