-- The bounds by pivots follow from the laws of a metric.
use Rattle.std.proofs.Common.{◌≡◌, ℕ, ◌+◌, ◌≤◌, List, arith}
use Rattle.metric_laws.specs.Objects.{Object, Distance}
use Rattle.metric_laws.specs.Laws.{IsDistance, IsMetric}
use Rattle.metric_laws.specs.Pivots.{BoundByPivots}

pub bound_by_distance : (admitted : Object → Type 0) (dist : Distance) → IsDistance admitted dist → BoundByPivots admitted dist
bound_by_distance admitted dist m = record {
  lower = λ q o p a b c.
      let there : dist q p ≤ dist q o + dist o p = m.triangle q o p a b c in
      let back : dist o p ≤ dist o q + dist q p = m.triangle o q p b a c in
      let same : dist o q ≡ dist q o = m.symmetric o q b a in
      omega arith;
  upper = λ q o p a b c.
      let round : dist q o ≤ dist q p + dist p o = m.triangle q p o a c b in
      let same : dist p o ≡ dist o p = m.symmetric p o c b in
      omega arith;
}

pub bound_by_pivots : (admitted : Object → Type 0) (dist : Distance) (top : ℕ) → IsMetric admitted dist top → BoundByPivots admitted dist
bound_by_pivots admitted dist top m = bound_by_distance admitted dist m.distance
