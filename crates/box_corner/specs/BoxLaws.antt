-- The laws of joining boxes, and of their corners' order.
use Rattle.std.specs.Prelude.{◌≡◌, ℕ, ◌≤◌, ◌&&◌, nat_le, Bool, true, if◌then◌else◌, List, [], ◌∷◌, length, min, max, Some, None}
use Rattle.std.proofs.Common.{refl, sym, ap, ap₂, ◌∙◌, arith}
use Rattle.std.proofs.lemmas.Bool.Decides.{nat_tests}
use Rattle.curve_laws.specs.Vectors.{IsUpTo, low_corner, high_corner, length-IsUpTo, up_to_itself, up_to_through, length-low_corner, up_to-low_corner, high_corner-up_to}
use Rattle.bptree_node.specs.Summaries.{IsJoin}
use Rattle.box_corner.specs.Boxes.{Box, joined, is_up_to, between}

-- ---- the least and the greatest values of each coordinate

low_corner-symmetric : (u v : List ℕ) → low_corner u v ≡ low_corner v u
unfolding low_corner
low_corner-symmetric [] [] = refl
low_corner-symmetric [] (y ∷ ys) = refl
low_corner-symmetric (x ∷ xs) [] = refl
low_corner-symmetric (x ∷ xs) (y ∷ ys) =
    let first : min x y ≡ min y x = grind (arith) in
    ap₂ (λ (n : ℕ) (ns : List ℕ). n ∷ ns) first (low_corner-symmetric xs ys)

high_corner-symmetric : (u v : List ℕ) → high_corner u v ≡ high_corner v u
unfolding high_corner
high_corner-symmetric [] [] = refl
high_corner-symmetric [] (y ∷ ys) = refl
high_corner-symmetric (x ∷ xs) [] = refl
high_corner-symmetric (x ∷ xs) (y ∷ ys) =
    let first : max x y ≡ max y x = grind (arith) in
    ap₂ (λ (n : ℕ) (ns : List ℕ). n ∷ ns) first (high_corner-symmetric xs ys)

low_corner-associative : (u v w : List ℕ) → low_corner (low_corner u v) w ≡ low_corner u (low_corner v w)
unfolding low_corner
low_corner-associative [] v w = refl
low_corner-associative (x ∷ xs) [] w = refl
low_corner-associative (x ∷ xs) (y ∷ ys) [] = refl
low_corner-associative (x ∷ xs) (y ∷ ys) (z ∷ zs) =
    let first : min (min x y) z ≡ min x (min y z) = grind (arith) in
    ap₂ (λ (n : ℕ) (ns : List ℕ). n ∷ ns) first (low_corner-associative xs ys zs)

high_corner-associative : (u v w : List ℕ) → high_corner (high_corner u v) w ≡ high_corner u (high_corner v w)
unfolding high_corner
high_corner-associative [] v w = refl
high_corner-associative (x ∷ xs) [] w = refl
high_corner-associative (x ∷ xs) (y ∷ ys) [] = refl
high_corner-associative (x ∷ xs) (y ∷ ys) (z ∷ zs) =
    let first : max (max x y) z ≡ max x (max y z) = grind (arith) in
    ap₂ (λ (n : ℕ) (ns : List ℕ). n ∷ ns) first (high_corner-associative xs ys zs)

low_corner-itself : (v : List ℕ) → low_corner v v ≡ v
unfolding low_corner
low_corner-itself [] = refl
low_corner-itself (x ∷ xs) =
    let first : min x x ≡ x = grind (arith) in
    ap₂ (λ (n : ℕ) (ns : List ℕ). n ∷ ns) first (low_corner-itself xs)

high_corner-itself : (v : List ℕ) → high_corner v v ≡ v
unfolding high_corner
high_corner-itself [] = refl
high_corner-itself (x ∷ xs) =
    let first : max x x ≡ x = grind (arith) in
    ap₂ (λ (n : ℕ) (ns : List ℕ). n ∷ ns) first (high_corner-itself xs)

-- ---- joining

-- boxes with the same corners are one
pub same_box : (a b : Box) → a.low ≡ b.low → a.high ≡ b.high → a ≡ b
same_box a b low high = ap₂ (λ (l h : List ℕ). record { low = l; high = h }) low high

pub box_join_laws : IsJoin (λ (b : Box). length b.low) joined
box_join_laws = record {
  one_size = λ a b same. length-low_corner a.low b.low same;
  associative = λ a b c same next.
      same_box (joined (joined a b) c) (joined a (joined b c)) (low_corner-associative a.low b.low c.low) (high_corner-associative a.high b.high c.high);
  commutative = λ a b same. same_box (joined a b) (joined b a) (low_corner-symmetric a.low b.low) (high_corner-symmetric a.high b.high);
  idempotent = λ a. same_box (joined a a) a (low_corner-itself a.low) (high_corner-itself a.high);
}

-- ---- the corners' order

-- each of two vectors is between the least values of each coordinate and the greatest
pub low_corner-up_to_first : (v w : List ℕ) → length v ≡ length w → IsUpTo (low_corner v w) v
low_corner-up_to_first v w same = ((up_to-low_corner (low_corner v w) v w same).0 (up_to_itself (low_corner v w))).0

pub low_corner-up_to_second : (v w : List ℕ) → length v ≡ length w → IsUpTo (low_corner v w) w
low_corner-up_to_second v w same = ((up_to-low_corner (low_corner v w) v w same).0 (up_to_itself (low_corner v w))).1

pub first-up_to_high_corner : (v w : List ℕ) → length v ≡ length w → IsUpTo v (high_corner v w)
first-up_to_high_corner v w same = ((high_corner-up_to (high_corner v w) v w same).0 (up_to_itself (high_corner v w))).0

pub second-up_to_high_corner : (v w : List ℕ) → length v ≡ length w → IsUpTo w (high_corner v w)
second-up_to_high_corner v w same = ((high_corner-up_to (high_corner v w) v w same).0 (up_to_itself (high_corner v w))).1

-- the corners of joined boxes are in order
pub joined-ordered : (a b : Box) → length a.low ≡ length b.low → IsUpTo a.low a.high → IsUpTo b.low b.high → IsUpTo (joined a b).low (joined a b).high
joined-ordered a b same first second =
    let tops : length a.high ≡ length b.high = sym (length-IsUpTo a.low a.high first) ∙ same ∙ length-IsUpTo b.low b.high second in
    up_to_through (low_corner a.low b.low) a.low (high_corner a.high b.high) (low_corner-up_to_first a.low b.low same)
    (up_to_through a.low a.high (high_corner a.high b.high) first (first-up_to_high_corner a.high b.high tops))

-- ---- the order as a test

passes : (x y : ℕ) (rest : Bool) → x ≤ y → rest ≡ true → (nat_le x y && rest) ≡ true
passes x y rest first others = grind (arith, nat_tests)

parts : (x y : ℕ) (rest : Bool) → (nat_le x y && rest) ≡ true → (x ≤ y) × (rest ≡ true)
parts x y rest both = grind (arith, nat_tests)

pub is_up_to-true : (v w : List ℕ) → IsUpTo v w → is_up_to v w ≡ true
is_up_to-true [] w h = refl
is_up_to-true (x ∷ xs) [] h = refl
is_up_to-true (x ∷ xs) (y ∷ ys) h = passes x y (is_up_to xs ys) h.0 (is_up_to-true xs ys h.1)

pub up_to_when_tested : (v w : List ℕ) → length v ≡ length w → is_up_to v w ≡ true → IsUpTo v w
up_to_when_tested [] [] same h = tt
up_to_when_tested [] (y ∷ ys) same h = absurd (omega (arith, same))
up_to_when_tested (x ∷ xs) [] same h = absurd (omega (arith, same))
up_to_when_tested (x ∷ xs) (y ∷ ys) same h =
    let both : (x ≤ y) × (is_up_to xs ys ≡ true) = parts x y (is_up_to xs ys) h in
    (both.0, up_to_when_tested xs ys (omega (arith, same)) both.1)

-- two cells in order have a box between them
pub between-some : (box : Box) → IsUpTo box.low box.high → between box.low box.high ≡ Some box
between-some box h = ap (λ (ordered : Bool). if ordered then Some box else None) (is_up_to-true box.low box.high h)
