use Rattle.bptree_walk.specs.Courses.{most_left}
use Rattle.query_shelf.specs.Regions.{meets_box, has_key}
use Rattle.range_tree.proofs.Passing.{Passes}
use Rattle.range_tree.proofs.pass.found_within.Given as goal

abbrev pub invariant-loop-cursor : goal.invariant-loop-cursor
invariant-loop-cursor g l =
    let curve = l.request.curve.now in
    let axes = g.C.Curve.axes curve in
    let bits = g.C.Curve.bits curve in
    let cell_of = g.C.Curve.cell_of curve in
    let asked = l.request.asked.now in
    Passes g.P.Pages g.R.Ruler (meets_box axes bits cell_of asked l.request.r) (has_key axes bits cell_of asked l.request.r) cell_of asked l.request.q.now l.request.r
    l.fn.pages l.pages l.fn.ruler l.ruler l.fn.root l.cursor l.initial.found l.found

abbrev pub decreases-loop-cursor : goal.decreases-loop-cursor
decreases-loop-cursor g l = most_left l.cursor
