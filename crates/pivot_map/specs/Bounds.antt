-- How the cells of an object bound its distance from a query and from another object, for any metric.
use Rattle.std.specs.Prelude.{ℕ, ◌≤◌, IsTrue, List}
use Rattle.metric_laws.specs.Objects.{Object, Distance}
use Rattle.spb_defs.specs.Pivots.{vector_of, cells_of, meets, is_sure, lower_bound, pair_meets, pair_is_sure}

-- what is within the radius meets, what is sure is within it, and nothing is nearer than the lower bound
pub record BoundsHold (admitted : Object → Type 0) (dist : Distance) (pivots : List Object) : Type 0 where
  -- of a query and an object
  pub within_meets : (q o : Object) (radius : ℕ) → admitted q → admitted o → dist q o ≤ radius
      → IsTrue (meets (vector_of dist pivots q) radius (cells_of dist pivots o))
  pub sure_within : (q o : Object) (radius : ℕ) → admitted q → admitted o → IsTrue (is_sure (vector_of dist pivots q) radius (cells_of dist pivots o))
      → dist q o ≤ radius
  pub bound_below : (q o : Object) → admitted q → admitted o → lower_bound (vector_of dist pivots q) (cells_of dist pivots o) ≤ dist q o
  -- of two objects
  pub within_pair_meets : (a b : Object) (radius : ℕ) → admitted a → admitted b → dist a b ≤ radius
      → IsTrue (pair_meets (cells_of dist pivots a) radius (cells_of dist pivots b))
  pub pair_sure_within : (a b : Object) (radius : ℕ) → admitted a → admitted b → IsTrue (pair_is_sure (cells_of dist pivots a) radius (cells_of dist pivots b))
      → dist a b ≤ radius
