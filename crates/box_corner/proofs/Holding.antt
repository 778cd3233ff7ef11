-- The box made of single cells by joining is the least one that holds them all.
use Rattle.std.specs.Prelude.{◌≡◌, ℕ, List, [], ◌∷◌, ◌++◌, length, All}
use Rattle.std.proofs.Common.{sym, ◌∙◌, arith}
use Rattle.std.proofs.lemmas.List.Elements.{All-nil, All-cons, All-head, All-tail, All-weaker, All-append}
use Rattle.curve_laws.specs.Vectors.{low_corner, high_corner, length-IsUpTo, up_to_itself, up_to_through, up_to_both_ways, up_to-low_corner, high_corner-up_to}
use Rattle.box_corner.specs.Boxes.{Box, point, joined, IsInBox, IsBoxOf}
use Rattle.box_corner.specs.BoxLaws.{same_box, low_corner-up_to_first, low_corner-up_to_second, first-up_to_high_corner, second-up_to_high_corner}

-- what holds of each element of two lists holds of those of each
parts_of_all : {X : Type 0} (P : X → Type 0) (xs ys : List X) → All P (xs ++ ys) → All P xs × All P ys
parts_of_all P [] ys all = (All-nil P, all)
parts_of_all P (x ∷ xs) ys all =
    let rest = parts_of_all P xs ys (All-tail P x (xs ++ ys) all) in
    (All-cons P x xs (All-head P x (xs ++ ys) all) rest.0, rest.1)

pub box_of_point : (v : List ℕ) → IsBoxOf (point v) (v ∷ [])
box_of_point v = record {
  holds = All-cons (λ (w : List ℕ). IsInBox w (point v)) v [] (record { above = up_to_itself v; below = up_to_itself v }) (All-nil (λ (w : List ℕ). IsInBox w (point v)));
  least = λ other all. let is = All-head (λ (w : List ℕ). IsInBox w other) v [] all in (is.above, is.below);
}

-- no cells have no least box: a box whose corner is longer holds them too
pub no_box_of_none : (box : Box) → IsBoxOf box [] → ⊥
no_box_of_none box is =
    let longer : Box = record { low = 0 ∷ box.low; high = box.high } in
    let same = length-IsUpTo longer.low box.low (is.least longer (All-nil (λ (v : List ℕ). IsInBox v longer))).0 in
    omega (arith, same)

-- the corners of the box have one length
length-box_of : (box : Box) (cells : List (List ℕ)) → IsBoxOf box cells → length box.low ≡ length box.high
length-box_of box [] is = absurd (no_box_of_none box is)
length-box_of box (v ∷ vs) is =
    let first = All-head (λ (w : List ℕ). IsInBox w box) v vs is.holds in
    length-IsUpTo box.low v first.above ∙ length-IsUpTo v box.high first.below

-- what is in either of two boxes is in the joined one
in_first : (a b : Box) → length a.low ≡ length b.low → length a.high ≡ length b.high → (v : List ℕ) → IsInBox v a → IsInBox v (joined a b)
in_first a b lows highs v is = record {
  above = up_to_through (low_corner a.low b.low) a.low v (low_corner-up_to_first a.low b.low lows) is.above;
  below = up_to_through v a.high (high_corner a.high b.high) is.below (first-up_to_high_corner a.high b.high highs);
}

in_second : (a b : Box) → length a.low ≡ length b.low → length a.high ≡ length b.high → (v : List ℕ) → IsInBox v b → IsInBox v (joined a b)
in_second a b lows highs v is = record {
  above = up_to_through (low_corner a.low b.low) b.low v (low_corner-up_to_second a.low b.low lows) is.above;
  below = up_to_through v b.high (high_corner a.high b.high) is.below (second-up_to_high_corner a.high b.high highs);
}

pub box_of_joined : (a b : Box) (xs ys : List (List ℕ)) → length a.low ≡ length b.low → IsBoxOf a xs → IsBoxOf b ys → IsBoxOf (joined a b) (xs ++ ys)
box_of_joined a b xs ys lows first second =
    let highs : length a.high ≡ length b.high = sym (length-box_of a xs first) ∙ lows ∙ length-box_of b ys second in
    record {
      holds = All-append (λ (v : List ℕ). IsInBox v (joined a b)) xs ys
          (All-weaker (λ (v : List ℕ). IsInBox v a) (λ (v : List ℕ). IsInBox v (joined a b)) (in_first a b lows highs) xs first.holds)
          (All-weaker (λ (v : List ℕ). IsInBox v b) (λ (v : List ℕ). IsInBox v (joined a b)) (in_second a b lows highs) ys second.holds);
      least = λ other all.
          let parts = parts_of_all (λ (v : List ℕ). IsInBox v other) xs ys all in
          let one = first.least other parts.0 in
          let two = second.least other parts.1 in
          ((up_to-low_corner other.low a.low b.low lows).1 (one.0, two.0), (high_corner-up_to other.high a.high b.high highs).1 (one.1, two.1));
    }

pub one_box : (a b : Box) (cells : List (List ℕ)) → IsBoxOf a cells → IsBoxOf b cells → a ≡ b
one_box a b cells first second =
    let inner = first.least b second.holds in
    let outer = second.least a first.holds in
    same_box a b (up_to_both_ways a.low b.low outer.0 inner.0) (up_to_both_ways a.high b.high inner.1 outer.1)
