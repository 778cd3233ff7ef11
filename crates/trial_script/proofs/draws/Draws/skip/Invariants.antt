use Rattle.std.proofs.Common.{◌≡◌}
use Rattle.trial_script.specs.Draws.{draw_state}
use Rattle.trial_script.proofs.draws.Draws.skip.Given as goal

-- so many draws were made
abbrev pub invariant-loop : goal.invariant-loop
invariant-loop l = l.self.state ≡ draw_state l.initial.self.state l.counter
