use Rattle.std.proofs.Common.{ℕ, ◌<◌, ◌≤◌, slice_index}
use Rattle.metrics_builtin.specs.Vectors.{components}
use Rattle.metrics_builtin.proofs.vectors.is_vector.Given as goal

abbrev pub invariant-loop-place : goal.invariant-loop-place
invariant-loop-place l = (k : ℕ) → k < l.place → slice_index (components l.object) k ≤ l.most
