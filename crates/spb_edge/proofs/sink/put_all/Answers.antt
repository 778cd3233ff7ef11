use Rattle.std.proofs.Common.{arith}
use Rattle.spb_edge.proofs.Pieces.{with_suffix-more}
use Rattle.spb_edge.proofs.sink.put_all.Goals as goal

pub loop-done-preserved : goal.loop-done-preserved
loop-done-preserved g c = (
  omega (arith, c.in-Took.ensures.within),
  with_suffix-more _ _ _ _ _ _ c.loop-done.invariant.1 c.in-Took.ensures.takes,
  omega (arith, c.in-Took.ensures.fault),
)
