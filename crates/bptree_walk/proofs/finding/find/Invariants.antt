use Rattle.bptree_walk.proofs.Down.{ComesTo}
use Rattle.bptree_walk.proofs.finding.find.Given as goal

abbrev pub invariant-loop-next : goal.invariant-loop-next
invariant-loop-next g l = ComesTo g.P.Pages l.fn.pages l.pages l.fn.root l.key l.id l.next

abbrev pub decreases-loop-next : goal.decreases-loop-next
decreases-loop-next g l = l.next.level
