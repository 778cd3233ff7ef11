-- The order of vectors, coordinate by coordinate, and the corners of the box around two of them.
use Rattle.std.specs.Prelude.{◌≡◌, ℕ, ◌≤◌, ◌↔◌, min, max, List, [], ◌∷◌, length}
use Rattle.std.specs.List.{AllZip}
use Rattle.std.proofs.Common.{refl, suc, ap, ◌∙◌, arith}
use Rattle.std.proofs.lemmas.List.Elements.{length_all_zip}

-- as many coordinates, and none of the first vector exceeds that of the second
abbrev pub IsUpTo : List ℕ → List ℕ → Type 0
IsUpTo v w = AllZip (λ x y. x ≤ y) v w

-- the least value of each coordinate of two vectors
unfoldable pub low_corner : List ℕ → List ℕ → List ℕ
low_corner [] ys = []
low_corner (x ∷ xs) [] = []
low_corner (x ∷ xs) (y ∷ ys) = min x y ∷ low_corner xs ys

-- the greatest value of each coordinate of two vectors
unfoldable pub high_corner : List ℕ → List ℕ → List ℕ
high_corner [] ys = []
high_corner (x ∷ xs) [] = []
high_corner (x ∷ xs) (y ∷ ys) = max x y ∷ high_corner xs ys

-- ---- the order

pub length-IsUpTo : (v w : List ℕ) → IsUpTo v w → length v ≡ length w
length-IsUpTo v w h = length_all_zip (λ x y. x ≤ y) v w h

pub up_to_itself : (v : List ℕ) → IsUpTo v v
up_to_itself [] = tt
up_to_itself (x ∷ xs) = (omega arith, up_to_itself xs)

pub up_to_through : (u v w : List ℕ) → IsUpTo u v → IsUpTo v w → IsUpTo u w
up_to_through [] [] w h k = k
up_to_through [] (y ∷ ys) w h k = absurd h
up_to_through (x ∷ xs) [] w h k = absurd h
up_to_through (x ∷ xs) (y ∷ ys) [] h k = absurd k
up_to_through (x ∷ xs) (y ∷ ys) (z ∷ zs) h k = (omega (arith, h.0, k.0), up_to_through xs ys zs h.1 k.1)

pub up_to_both_ways : (v w : List ℕ) → IsUpTo v w → IsUpTo w v → v ≡ w
up_to_both_ways [] [] h k = refl
up_to_both_ways [] (y ∷ ys) h k = absurd h
up_to_both_ways (x ∷ xs) [] h k = absurd h
up_to_both_ways (x ∷ xs) (y ∷ ys) h k =
    let first : x ≡ y = omega (arith, h.0, k.0) in
    ap (λ z. z ∷ xs) first ∙ ap (λ zs. y ∷ zs) (up_to_both_ways xs ys h.1 k.1)

-- ---- the corners

pub length-low_corner : (v w : List ℕ) → length v ≡ length w → length (low_corner v w) ≡ length v
unfolding low_corner
length-low_corner [] w h = refl
length-low_corner (x ∷ xs) [] h = absurd (omega (arith, h))
length-low_corner (x ∷ xs) (y ∷ ys) h = ap suc (length-low_corner xs ys (omega (arith, h)))

pub length-high_corner : (v w : List ℕ) → length v ≡ length w → length (high_corner v w) ≡ length v
unfolding high_corner
length-high_corner [] w h = refl
length-high_corner (x ∷ xs) [] h = absurd (omega (arith, h))
length-high_corner (x ∷ xs) (y ∷ ys) h = ap suc (length-high_corner xs ys (omega (arith, h)))

-- what is up to the low corner is what is up to both
pub up_to-low_corner : (u v w : List ℕ) → length v ≡ length w → IsUpTo u (low_corner v w) ↔ (IsUpTo u v × IsUpTo u w)
unfolding low_corner
up_to-low_corner [] [] [] h = (λ _. (tt, tt), λ _. tt)
up_to-low_corner (u ∷ us) [] [] h = (λ below. absurd below, λ below. absurd below.0)
up_to-low_corner u [] (y ∷ ys) h = absurd (omega (arith, h))
up_to-low_corner u (x ∷ xs) [] h = absurd (omega (arith, h))
up_to-low_corner [] (x ∷ xs) (y ∷ ys) h = (λ below. absurd below, λ below. absurd below.0)
up_to-low_corner (u ∷ us) (x ∷ xs) (y ∷ ys) h =
    let rest = up_to-low_corner us xs ys (omega (arith, h)) in (
      λ below. ((omega (arith, below.0), (rest.0 below.1).0), (omega (arith, below.0), (rest.0 below.1).1)),
      λ below. (omega (arith, below.0.0, below.1.0), rest.1 (below.0.1, below.1.1)),
    )

-- what the high corner is up to is what both are up to
pub high_corner-up_to : (u v w : List ℕ) → length v ≡ length w → IsUpTo (high_corner v w) u ↔ (IsUpTo v u × IsUpTo w u)
unfolding high_corner
high_corner-up_to [] [] [] h = (λ _. (tt, tt), λ _. tt)
high_corner-up_to (u ∷ us) [] [] h = (λ above. absurd above, λ above. absurd above.0)
high_corner-up_to u [] (y ∷ ys) h = absurd (omega (arith, h))
high_corner-up_to u (x ∷ xs) [] h = absurd (omega (arith, h))
high_corner-up_to [] (x ∷ xs) (y ∷ ys) h = (λ above. absurd above, λ above. absurd above.0)
high_corner-up_to (u ∷ us) (x ∷ xs) (y ∷ ys) h =
    let rest = high_corner-up_to us xs ys (omega (arith, h)) in (
      λ above. ((omega (arith, above.0), (rest.0 above.1).0), (omega (arith, above.0), (rest.0 above.1).1)),
      λ above. (omega (arith, above.0.0, above.1.0), rest.1 (above.0.1, above.1.1)),
    )
