use Rattle.page_laws.specs.PlainPages.{page_at, in_pool}
use Rattle.bptree_node.specs.Summaries.{HasCorners}
use Rattle.check_tests.proofs.GrownTrees.{IsGrowingIn}
use Rattle.check_tests.proofs.growing.grow.Given as goal

abbrev pub invariant-loop-i : goal.invariant-loop-i
invariant-loop-i g l =
    IsGrowingIn (HasCorners g.S.Summary.joined (g.F.Boxes.entry_box l.boxes) (g.F.Boxes.keys_of l.boxes)) (g.F.Boxes.entry_box l.boxes) (page_at l.pages) (in_pool l.pages) (in_pool l.fn.pages)
    l.pages.free l.seen l.next l.i l.root
