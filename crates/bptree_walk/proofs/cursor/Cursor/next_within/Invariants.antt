use Rattle.bptree_walk.specs.Courses.{most_left}
use Rattle.bptree_walk.proofs.Within.{Skips}
use Rattle.bptree_walk.proofs.cursor.Cursor.next_within.Given as goal

abbrev pub invariant-loop-entry : goal.invariant-loop-entry
invariant-loop-entry g l = Skips g.P.Pages (g.G.Region.meets_box l.region) (g.G.Region.has_key l.region) l.fn.pages l.pages l.fn.self l.self

abbrev pub decreases-loop-entry : goal.decreases-loop-entry
decreases-loop-entry g l = most_left l.self
