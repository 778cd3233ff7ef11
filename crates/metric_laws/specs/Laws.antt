-- The laws of a distance on byte strings.
use Rattle.std.specs.Prelude.{◌≡◌, ℕ, ◌+◌, ◌≤◌, ◌↔◌, List}
use Rattle.metric_laws.specs.Objects.{Object, Distance}

-- on the admitted objects the distance is a metric
pub record IsDistance (admitted : Object → Type 0) (dist : Distance) : Type 0 where
  -- objects are at distance 0 exactly if they are equal
  pub zero_iff_equal : (a b : Object) → admitted a → admitted b → (dist a b ≡ 0) ↔ (a ≡ b)
  -- the distance is symmetric
  pub symmetric : (a b : Object) → admitted a → admitted b → dist a b ≡ dist b a
  -- the triangle inequality
  pub triangle : (a b c : Object) → admitted a → admitted b → admitted c → dist a c ≤ dist a b + dist b c

-- on the admitted objects the distance is a metric that never exceeds the top
pub record IsMetric (admitted : Object → Type 0) (dist : Distance) (top : ℕ) : Type 0 where
  pub distance : IsDistance admitted dist
  -- no distance exceeds the top
  pub bounded : (a b : Object) → admitted a → admitted b → dist a b ≤ top
