use Rattle.std.proofs.Common.{◌≡◌, ◌*◌, map}
use Rattle.std.specs.List.{range_with_len}
use Rattle.trial_script.specs.Draws.{draw_state, drawn_object}
use Rattle.trial_script.proofs.samples.trial_samples.Given as goal

-- so many objects were drawn
abbrev pub invariant-loop : goal.invariant-loop
invariant-loop l = record {
  state : l.draws.state ≡ draw_state l.seed (4 * l.counter);
  samples : l.samples.items ≡ map (drawn_object l.seed) (range_with_len 0 l.counter);
}
