use Rattle.std.proofs.Common.{All}
use Rattle.engine_tests.proofs.choices.objects_of.Given as goal

-- the ruler measures the objects so far
abbrev pub invariant-loop-x : goal.invariant-loop-x
invariant-loop-x g l = All (g.R.Ruler.admitted (g.R.Ruler.kind l.fn.ruler)) l.objects.items
