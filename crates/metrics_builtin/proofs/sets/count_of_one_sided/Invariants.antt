use Rattle.std.proofs.Common.{◌≡◌, ℕ, ◌+◌, ◌-◌, ◌*◌, ◌≤◌, drop}
use Rattle.metrics_builtin.specs.Vectors.{components}
use Rattle.metrics_builtin.specs.Sets.{IsRisingWithin, set_dist}
use Rattle.metrics_builtin.proofs.sets.count_of_one_sided.Given as goal

-- what is left of the two differs by what the whole does, but for what was passed
abbrev pub invariant-loop-i : goal.invariant-loop-i
invariant-loop-i l = record {
  left : l.i ≤ l.many;
  right : l.j ≤ l.others;
  few : l.common ≤ l.i;
  few_others : l.common ≤ l.j;
  counted : (universe most : ℕ) → IsRisingWithin universe most (components l.a) → IsRisingWithin universe most (components l.b)
      → set_dist universe (drop l.i (components l.a)) (drop l.j (components l.b)) + l.i + l.j
      ≡ set_dist universe (components l.a) (components l.b) + 2 * l.common;
}

abbrev pub decreases-loop-i : goal.decreases-loop-i
decreases-loop-i l = (l.many - l.i) + (l.others - l.j)
