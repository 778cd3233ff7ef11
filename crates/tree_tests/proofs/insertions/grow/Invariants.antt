use Rattle.page_laws.specs.PlainPages.{page_at, in_pool}
use Rattle.tree_tests.proofs.TestTrees.{IsGrowing}
use Rattle.tree_tests.proofs.insertions.grow.Given as goal

abbrev pub invariant-loop-i : goal.invariant-loop-i
invariant-loop-i l = IsGrowing (page_at l.pages) (in_pool l.pages) l.pages.free l.seen l.i l.root
