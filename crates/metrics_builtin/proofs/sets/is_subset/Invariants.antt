use Rattle.std.proofs.Common.{◌≡◌, ℕ, ◌+◌, ◌<◌, slice_index}
use Rattle.metrics_builtin.specs.Vectors.{components}
use Rattle.metrics_builtin.proofs.sets.is_subset.Given as goal

-- the elements so far rise and are in the universe, and `least` is past the last of them
abbrev pub invariant-loop-place : goal.invariant-loop-place
invariant-loop-place l = record {
  within : (k : ℕ) → k < l.place → slice_index (components l.object) k < l.universe;
  rising : (k : ℕ) → k + 1 < l.place → slice_index (components l.object) k < slice_index (components l.object) (k + 1);
  first : l.place ≡ 0 → l.least ≡ 0;
  last : (k : ℕ) → k + 1 ≡ l.place → l.least ≡ slice_index (components l.object) k + 1;
}
