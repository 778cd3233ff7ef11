-- How the distances of two objects to a pivot bound their distance.
use Rattle.std.specs.Prelude.{ℕ, ◌+◌, ◌≤◌, List}
use Rattle.std.specs.Int.{abs_diff}
use Rattle.metric_laws.specs.Objects.{Object, Distance}

pub record BoundByPivots (admitted : Object → Type 0) (dist : Distance) : Type 0 where
  -- the distances to a pivot differ by no more than the two objects do
  pub lower : (q o p : Object) → admitted q → admitted o → admitted p → abs_diff (dist q p) (dist o p) ≤ dist q o
  -- and their sum is no less
  pub upper : (q o p : Object) → admitted q → admitted o → admitted p → dist q o ≤ dist q p + dist o p
