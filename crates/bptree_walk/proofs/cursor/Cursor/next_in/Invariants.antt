use Rattle.std.proofs.Common.{[]}
use Rattle.bptree_walk.specs.Courses.{most_nodes_left}
use Rattle.bptree_walk.proofs.Passing.{Passes}
use Rattle.bptree_walk.proofs.cursor.Cursor.next_in.Given as goal

abbrev pub invariant-loop-entry : goal.invariant-loop-entry
invariant-loop-entry g l = Passes g.P.Pages (g.G.Region.meets_box l.region) (g.G.Region.has_key l.region) l.fn.pages l.pages [] l.fn.self l.self

abbrev pub decreases-loop-entry : goal.decreases-loop-entry
decreases-loop-entry g l = most_nodes_left l.self.ahead
