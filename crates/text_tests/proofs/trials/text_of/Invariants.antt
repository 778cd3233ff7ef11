use Rattle.std.proofs.Common.{length}
use Rattle.text_tests.proofs.trials.text_of.Given as goal

-- fewer lines are left
abbrev pub decreases-loop-text : goal.decreases-loop-text
decreases-loop-text l = length l.lines
