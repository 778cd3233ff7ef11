use Rattle.std.proofs.Common.{List, length}
use Rattle.spb_defs.specs.declared.Reply.{Reply}
use Rattle.spb_top.proofs.Trying.{Keeps}
use Rattle.spb_top.proofs.trial.turn_all.Given as goal

-- the replies so far
abbrev pub invariant-loop-next : goal.invariant-loop-next
invariant-loop-next g l = (said : List Reply) × Keeps g.T.Turns l.initial.session l.session l.initial.lines l.lines l.totals said

-- fewer lines are left
abbrev pub decreases-loop-next : goal.decreases-loop-next
decreases-loop-next g l = length l.lines
