use Rattle.std.proofs.Common.{◌≡◌, map}
use Rattle.std.specs.List.{range_with_len}
use Rattle.metrics_builtin.specs.Vectors.{object_of_components}
use Rattle.trial_script.specs.Draws.{draw_state, draw}
use Rattle.trial_script.proofs.draws.Draws.object.Given as goal

-- so many draws were made, and the object has them
abbrev pub invariant-loop : goal.invariant-loop
invariant-loop l = record {
  state : l.self.state ≡ draw_state l.initial.self.state l.counter;
  object : l.object ≡ object_of_components (map (draw l.initial.self.state) (range_with_len 0 l.counter));
}
