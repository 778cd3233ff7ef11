use Rattle.std.proofs.Common.{◌≡◌, []}
use Rattle.bptree_walk.specs.Courses.{most_nodes_left}
use Rattle.bptree_walk.proofs.Gathering.{Gathers}
use Rattle.bptree_walk.proofs.walking.walk.Given as goal

abbrev pub invariant-loop-cursor : goal.invariant-loop-cursor
invariant-loop-cursor g l = Gathers g.P.Pages (g.G.Region.meets_box l.region) (g.G.Region.has_key l.region) l.fn.pages l.pages l.fn.root l.found l.cursor × (l.cursor.entries ≡ [])

abbrev pub decreases-loop-cursor : goal.decreases-loop-cursor
decreases-loop-cursor g l = most_nodes_left l.cursor.ahead
