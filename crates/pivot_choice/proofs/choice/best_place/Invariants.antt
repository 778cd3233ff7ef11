use Rattle.std.proofs.Common.{◌≡◌, take}
use Rattle.metrics_builtin.specs.Vectors.{greatest}
use Rattle.spb_defs.specs.Choice.{first_place}
use Rattle.pivot_choice.proofs.choice.best_place.Given as goal

-- the first place of the greatest number so far
abbrev pub invariant-loop-place : goal.invariant-loop-place
invariant-loop-place l =
    (l.most ≡ greatest (take l.place l.worths)) × (l.best ≡ first_place l.most (take l.place l.worths))
