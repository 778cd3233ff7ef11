use Rattle.std.proofs.Common.{refl}
use Rattle.trial_script.specs.Draws.{draw_of}
use Rattle.trial_script.proofs.Drawing.{next_draw_state-wrapped}
use Rattle.trial_script.proofs.draws.Draws.draw.Goals as goal

pub returns-clause-drawn : goal.returns-clause-drawn
unfolding draw_of
returns-clause-drawn c = refl

pub returns-clause-state : goal.returns-clause-state
returns-clause-state c = next_draw_state-wrapped c.args.self.now.state
