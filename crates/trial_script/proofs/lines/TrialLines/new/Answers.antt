use Rattle.std.proofs.Common.{ap, ◌∙◌}
use Rattle.trial_script.specs.Script.{trial_lines}
use Rattle.trial_script.proofs.Places.{lines_from-start}
use Rattle.trial_script.proofs.lines.TrialLines.new.Goals as goal

pub returns : goal.returns
returns c = lines_from-start c.args.seed c.skip.new.self.state c.from.result c.skip.ensures ∙ ap (trial_lines c.args.seed) c.from.ensures
