-- The bounds that the cells of an object set to a distance follow from the laws of a distance, pivot by pivot.
use Rattle.std.proofs.Common.{◌≡◌, ℕ, ◌+◌, ◌≤◌, max, Bool, true, false, ◌&&◌, ◌||◌, List, [], ◌∷◌, ◌++◌, length, refl, sym, ap, ◌∙◌, arith}
use Rattle.std.specs.Prelude.{nat_le, All}
use Rattle.std.specs.Int.{abs_diff}
use Rattle.std.proofs.lemmas.Bool.Decides.{nat_tests}
use Rattle.std.proofs.lemmas.List.{length-map}
use Rattle.std.proofs.lemmas.List.Elements.{All-head, All-tail}
use Rattle.metric_laws.specs.Objects.{Object, Distance}
use Rattle.metric_laws.specs.Laws.{IsDistance}
use Rattle.metric_laws.specs.Pivots.{BoundByPivots}
use Rattle.metric_laws.specs.PivotLaws.{bound_by_distance}
use Rattle.spb_defs.specs.Pivots.{vector_of, cells_of, meets, is_sure, lower_bound, gap, pair_meets, pair_is_sure}
use Rattle.pivot_map.specs.Bounds.{BoundsHold}

-- ---- one coordinate

-- the two distances to a pivot, apart by no more than the radius
abbrev near : ℕ → ℕ → ℕ → Bool
near x radius y = nat_le y (x + radius) && nat_le x (y + radius)

near-from : (x y radius : ℕ) → abs_diff x y ≤ radius → near x radius y ≡ true
near-from x y radius h = grind (arith, nat_tests)

near-apart : (x y radius : ℕ) → near x radius y ≡ true → abs_diff x y ≤ radius
near-apart x y radius h = grind (arith, nat_tests)

sum-within : (x y radius : ℕ) → nat_le (x + y) radius ≡ true → x + y ≤ radius
sum-within x y radius h = grind (arith, nat_tests)

both : (p q : Bool) → p ≡ true → q ≡ true → (p && q) ≡ true
both p q h k = grind (arith, nat_tests)

greater-within : (x y most : ℕ) → x ≤ most → y ≤ most → max x y ≤ most
greater-within x y most h k = grind (arith, nat_tests)

-- ---- all coordinates

within_meets : (admitted : Object → Type 0) (dist : Distance) → BoundByPivots admitted dist → (pivots : List Object) → All admitted pivots
    → (a b : Object) (radius : ℕ) → admitted a → admitted b → dist a b ≤ radius → meets (vector_of dist pivots a) radius (cells_of dist pivots b) ≡ true
within_meets admitted dist m [] all a b radius f g h = refl
within_meets admitted dist m (p ∷ ps) all a b radius f g h =
    let apart : abs_diff (dist a p) (dist b p) ≤ dist a b = m.lower a b p f g (All-head admitted p ps all) in
    both _ _
    (near-from (dist a p) (dist b p) radius (omega (arith, apart, h)))
    (within_meets admitted dist m ps (All-tail admitted p ps all) a b radius f g h)

-- the first coordinate shows it, or one of the others
one-of : (first rest : Bool) (P : Type 0) → (first || rest) ≡ true → (first ≡ true → P) → (rest ≡ true → P) → P
one-of true rest P h f g = f refl
one-of false rest P h f g = g h

sure_within : (admitted : Object → Type 0) (dist : Distance) → BoundByPivots admitted dist → (pivots : List Object) → All admitted pivots
    → (a b : Object) (radius : ℕ) → admitted a → admitted b → is_sure (vector_of dist pivots a) radius (cells_of dist pivots b) ≡ true → dist a b ≤ radius
sure_within admitted dist m [] all a b radius f g h = absurd (let none : false ≡ true = h in cc)
sure_within admitted dist m (p ∷ ps) all a b radius f g h =
    let round : dist a b ≤ dist a p + dist b p = m.upper a b p f g (All-head admitted p ps all) in
    one-of (nat_le (dist a p + dist b p) radius) (is_sure (vector_of dist ps a) radius (cells_of dist ps b)) (dist a b ≤ radius) h
    (λ first. omega (arith, round, sum-within (dist a p) (dist b p) radius first))
    (λ rest. sure_within admitted dist m ps (All-tail admitted p ps all) a b radius f g rest)

bound_below : (admitted : Object → Type 0) (dist : Distance) → BoundByPivots admitted dist → (pivots : List Object) → All admitted pivots → (a b : Object)
    → admitted a → admitted b → lower_bound (vector_of dist pivots a) (cells_of dist pivots b) ≤ dist a b
bound_below admitted dist m [] all a b f g = omega arith
bound_below admitted dist m (p ∷ ps) all a b f g =
    greater-within (gap (dist a p) (dist b p)) (lower_bound (vector_of dist ps a) (cells_of dist ps b)) (dist a b)
    (m.lower a b p f g (All-head admitted p ps all))
    (bound_below admitted dist m ps (All-tail admitted p ps all) a b f g)

pub bounds_hold : (admitted : Object → Type 0) (dist : Distance) → IsDistance admitted dist → (pivots : List Object) → All admitted pivots
    → BoundsHold admitted dist pivots
bounds_hold admitted dist laws pivots all =
    let m = bound_by_distance admitted dist laws in
    record {
      within_meets = within_meets admitted dist m pivots all;
      sure_within = sure_within admitted dist m pivots all;
      bound_below = bound_below admitted dist m pivots all;
      within_pair_meets = within_meets admitted dist m pivots all;
      pair_sure_within = sure_within admitted dist m pivots all;
    }

-- ---- vectors and cells

-- a vector has a coordinate for each pivot
pub length-vector_of : (dist : Distance) (pivots : List Object) (object : List ℕ) → length (vector_of dist pivots object) ≡ length pivots
length-vector_of dist pivots object = length-map pivots (λ pivot. dist object pivot)

-- and so have the cells of an object
pub length-cells_of : (dist : Distance) (pivots : List Object) (object : List ℕ) → length (cells_of dist pivots object) ≡ length pivots
length-cells_of dist pivots object = length-map pivots (λ pivot. dist object pivot)

-- ---- bounds and tests

within-step : (x y radius most : ℕ) (met : Bool) → met ≡ nat_le most radius → (near x radius y && met) ≡ nat_le (max (gap x y) most) radius
within-step x y radius most met h = grind (arith, nat_tests)

zero-within : (radius : ℕ) → true ≡ nat_le 0 radius
zero-within radius = grind (arith, nat_tests)

-- a query and an object meet exactly if the lower bound is within the radius
pub meets-by-bound : (asked cells : List ℕ) (radius : ℕ) → meets asked radius cells ≡ nat_le (lower_bound asked cells) radius
meets-by-bound [] cells radius = zero-within radius
meets-by-bound (x ∷ xs) [] radius = zero-within radius
meets-by-bound (x ∷ xs) (y ∷ ys) radius = within-step x y radius (lower_bound xs ys) (meets xs radius ys) (meets-by-bound xs ys radius)

near-symmetric : (x y radius : ℕ) → near x radius y ≡ near y radius x
near-symmetric x y radius = grind (arith, nat_tests)

-- two objects meet both ways
pub pair_meets-symmetric : (a b : Object) (radius : ℕ) → pair_meets a radius b ≡ pair_meets b radius a
pair_meets-symmetric [] [] radius = refl
pair_meets-symmetric [] (y ∷ ys) radius = refl
pair_meets-symmetric (x ∷ xs) [] radius = refl
pair_meets-symmetric (x ∷ xs) (y ∷ ys) radius =
    ap (λ met. met && pair_meets xs radius ys) (near-symmetric x y radius) ∙ ap (λ rest. near y radius x && rest) (pair_meets-symmetric xs ys radius)

-- and that is sure both ways
pub pair_is_sure-symmetric : (a b : Object) (radius : ℕ) → pair_is_sure a radius b ≡ pair_is_sure b radius a
pair_is_sure-symmetric [] [] radius = refl
pair_is_sure-symmetric [] (y ∷ ys) radius = refl
pair_is_sure-symmetric (x ∷ xs) [] radius = refl
pair_is_sure-symmetric (x ∷ xs) (y ∷ ys) radius =
    let swapped : x + y ≡ y + x = omega arith in
    ap (λ n. nat_le n radius || pair_is_sure xs radius ys) swapped
    ∙ ap (λ rest. nat_le (y + x) radius || rest) (pair_is_sure-symmetric xs ys radius)
