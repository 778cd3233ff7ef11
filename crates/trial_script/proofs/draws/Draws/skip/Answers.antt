use Rattle.trial_script.proofs.Drawing.{draw_state-start, draw_state-more}
use Rattle.trial_script.proofs.draws.Draws.skip.Goals as goal

pub loop-init : goal.loop-init
loop-init c = draw_state-start c.args.self.now.state

pub loop-preserved : goal.loop-preserved
loop-preserved c =
    draw_state-more c.args.self.now.state c.loop.counter c.loop.self.state c.draw.new.self.state c.loop.invariant c.draw.ensures.state
