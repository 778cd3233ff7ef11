-- The metric of a space.
use Rattle.std.specs.Prelude.{◌≡◌, ◌↔◌, ℕ, List}
use Rattle.metric_laws.specs.Objects.{Object, Distance}
use Rattle.metrics_builtin.specs.declared.Space.{Space}
use Rattle.metrics_builtin.specs.Space.{dist, IsValid}

-- a metric is the space's: its distance is that of the space, and it admits exactly the space's objects
pub record IsMetricOf (admitted : Object → Type 0) (distance : Distance) (space : Space) : Type 0 where
  pub distance_is : distance ≡ dist space
  pub admits : (object : List ℕ) → admitted object ↔ IsValid space object
