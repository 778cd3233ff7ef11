use Rattle.std.proofs.Common.{◌≡◌, ◌+◌, drop}
use Rattle.metrics_builtin.specs.Strings.{hamming_dist}
use Rattle.metrics_builtin.proofs.strings.count_of_differences.Given as goal

abbrev pub invariant-loop-i : goal.invariant-loop-i
invariant-loop-i l = l.count + hamming_dist (drop l.i l.a) (drop l.i l.b) ≡ hamming_dist l.a l.b
