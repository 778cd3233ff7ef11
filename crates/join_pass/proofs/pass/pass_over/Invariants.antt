use Rattle.bptree_walk.specs.Courses.{most_left}
use Rattle.join_pass.proofs.Passing.{Passes}
use Rattle.join_pass.proofs.pass.pass_over.Given as goal

abbrev pub invariant-loop-cursor : goal.invariant-loop-cursor
invariant-loop-cursor g l =
    Passes g.P.Pages g.R.Ruler l.curve.n l.curve.b l.request.r l.fn.pages l.pages l.fn.ruler l.ruler l.fn.root l.cursor l.window l.fn.found l.found l.fn.steps l.steps

abbrev pub decreases-loop-cursor : goal.decreases-loop-cursor
decreases-loop-cursor g l = most_left l.cursor
