-- What the cells of a grid have in common.
use Rattle.std.specs.Prelude.{ℕ, ◌^◌, ◌<◌, List, [], ◌∷◌, All, zero, suc}
use Rattle.std.proofs.Common.{◌∙◌, sym, arith}
use Rattle.std.proofs.lemmas.List.Elements.{All-tail}
use Rattle.curve_laws.specs.Grid.{IsCell}
use Rattle.curve_laws.specs.Vectors.{IsUpTo, low_corner, high_corner, length-IsUpTo, length-low_corner, length-high_corner}

-- what is up to a vector of small coordinates has small ones
pub All-IsUpTo : (m : ℕ) (v w : List ℕ) → IsUpTo v w → All (λ x. x < m) w → All (λ x. x < m) v
All-IsUpTo m [] w h k i d within = absurd (omega arith)
All-IsUpTo m (x ∷ xs) [] h k i d within = absurd h
All-IsUpTo m (x ∷ xs) (y ∷ ys) h k zero d within =
    let here : y < m = k 0 0 (omega arith) in
    omega (arith, here, h.0)
All-IsUpTo m (x ∷ xs) (y ∷ ys) h k (suc i) d within = All-IsUpTo m xs ys h.1 (All-tail (λ z. z < m) y ys k) i d (omega arith)

All-low_corner : (m : ℕ) (v w : List ℕ) → All (λ x. x < m) v → All (λ x. x < m) (low_corner v w)
unfolding low_corner
All-low_corner m [] w h i d within = absurd (omega arith)
All-low_corner m (x ∷ xs) [] h i d within = absurd (omega arith)
All-low_corner m (x ∷ xs) (y ∷ ys) h zero d within =
    let first : x < m = h 0 0 (omega arith) in
    omega (arith, first)
All-low_corner m (x ∷ xs) (y ∷ ys) h (suc i) d within = All-low_corner m xs ys (All-tail (λ z. z < m) x xs h) i d (omega arith)

All-high_corner : (m : ℕ) (v w : List ℕ) → All (λ x. x < m) v → All (λ x. x < m) w → All (λ x. x < m) (high_corner v w)
unfolding high_corner
All-high_corner m [] w h k i d within = absurd (omega arith)
All-high_corner m (x ∷ xs) [] h k i d within = absurd (omega arith)
All-high_corner m (x ∷ xs) (y ∷ ys) h k zero d within =
    let first : x < m = h 0 0 (omega arith) in
    let second : y < m = k 0 0 (omega arith) in
    omega (arith, first, second)
All-high_corner m (x ∷ xs) (y ∷ ys) h k (suc i) d within =
    All-high_corner m xs ys (All-tail (λ z. z < m) x xs h) (All-tail (λ z. z < m) y ys k) i d (omega arith)

-- what is up to a cell is a cell
pub cell_up_to : (n b : ℕ) (v w : List ℕ) → IsCell n b w → IsUpTo v w → IsCell n b v
cell_up_to n b v w cell up_to = record {
  grid = cell.grid;
  axes = length-IsUpTo v w up_to ∙ cell.axes;
  below = All-IsUpTo (2 ^ b) v w up_to cell.below;
}

-- the corners of two cells are cells
pub cell-low_corner : (n b : ℕ) (v w : List ℕ) → IsCell n b v → IsCell n b w → IsCell n b (low_corner v w)
cell-low_corner n b v w first second = record {
  grid = first.grid;
  axes = length-low_corner v w (first.axes ∙ sym second.axes) ∙ first.axes;
  below = All-low_corner (2 ^ b) v w first.below;
}

pub cell-high_corner : (n b : ℕ) (v w : List ℕ) → IsCell n b v → IsCell n b w → IsCell n b (high_corner v w)
cell-high_corner n b v w first second = record {
  grid = first.grid;
  axes = length-high_corner v w (first.axes ∙ sym second.axes) ∙ first.axes;
  below = All-high_corner (2 ^ b) v w first.below second.below;
}
