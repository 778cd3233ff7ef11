use Rattle.std.proofs.Common.{sym, ◌∙◌}
use Rattle.tree_check.proofs.Order.{rising-more, rising-never}
use Rattle.tree_check.proofs.leaf.is_rising.Goals as goal

pub returns-then-not-ends_before-clause-other : goal.returns-then-not-ends_before-clause-other
returns-then-not-ends_before-clause-other c = λ is rising.
    rising-never c.args.entries.now c.loop-i.i _ c.loop-i-test.true (sym c.ends_before.ensures ∙ c.if-not-ends_before.true) rising

pub loop-i-preserved : goal.loop-i-preserved
loop-i-preserved c =
    rising-more c.args.entries.now c.loop-i.i _ c.loop-i-test.true c.loop-i.invariant (sym c.ends_before.ensures ∙ c.if-not-ends_before.false)
