-- Corners by their first coordinates and what is left.
use Rattle.std.specs.Prelude.{◌≡◌, ℕ, ◌+◌, ◌<◌, List, [], ◌∷◌, ◌++◌, length, min, max, take, slice_set}
use Rattle.std.proofs.Common.{sym, ap, subst, ◌∙◌, arith, append_assoc, append-nil}
use Rattle.std.proofs.lemmas.List.{take_more_set}
use Rattle.curve_laws.specs.Vectors.{IsUpTo, low_corner, high_corner}
use Rattle.box_corner.specs.Boxes.{Box}
use Rattle.box_corner.specs.BoxLaws.{joined-ordered}

-- one coordinate more, written after those so far
one_more : (at : List ℕ) (count n : ℕ) (rest : List ℕ) → count < length at → take count at ++ n ∷ rest ≡ take (count + 1) (slice_set at count n) ++ rest
one_more at count n rest within =
    sym (append_assoc (take count at) (n ∷ []) rest) ∙ ap (λ (front : List ℕ). front ++ rest) (sym (take_more_set at count n within))

pub low_corner_more : (at : List ℕ) (count x y : ℕ) (xs ys : List ℕ) → count < length at
    → take count at ++ low_corner (x ∷ xs) (y ∷ ys) ≡ take (count + 1) (slice_set at count (min x y)) ++ low_corner xs ys
unfolding low_corner
low_corner_more at count x y xs ys within = one_more at count (min x y) (low_corner xs ys) within

pub high_corner_more : (at : List ℕ) (count x y : ℕ) (xs ys : List ℕ) → count < length at
    → take count at ++ high_corner (x ∷ xs) (y ∷ ys) ≡ take (count + 1) (slice_set at count (max x y)) ++ high_corner xs ys
unfolding high_corner
high_corner_more at count x y xs ys within = one_more at count (max x y) (high_corner xs ys) within

-- nothing is left
pub low_corner_end : (front xs ys : List ℕ) → length xs ≡ 0 → front ++ low_corner xs ys ≡ front
unfolding low_corner
low_corner_end front [] ys none = append-nil front
low_corner_end front (x ∷ xs) ys none = absurd (omega (arith, none))

pub high_corner_end : (front xs ys : List ℕ) → length xs ≡ 0 → front ++ high_corner xs ys ≡ front
unfolding high_corner
high_corner_end front [] ys none = append-nil front
high_corner_end front (x ∷ xs) ys none = absurd (omega (arith, none))

pub ruleset joining = (low_corner_more, high_corner_more, low_corner_end, high_corner_end)

-- the corners of joined boxes are in order
pub corners_ordered : (a b : Box) (low high : List ℕ) → low ≡ low_corner a.low b.low → high ≡ high_corner a.high b.high → length a.low ≡ length b.low
    → IsUpTo a.low a.high → IsUpTo b.low b.high → IsUpTo low high
corners_ordered a b low high low_is high_is same first second =
    subst (λ (l : List ℕ). IsUpTo l high) (sym low_is)
    (subst (λ (h : List ℕ). IsUpTo (low_corner a.low b.low) h) (sym high_is) (joined-ordered a b same first second))
