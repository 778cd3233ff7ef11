use Rattle.std.proofs.Common.{sym, ◌∙◌}
use Rattle.tree_check.proofs.Order.{ends-last}
use Rattle.tree_check.proofs.branch.ends_before.Goals as goal

pub returns-in-Some : goal.returns-in-Some
returns-in-Some c = c.goes_before.ensures ∙ ends-last c.args.key c.args.id c.args.entries.now c.in-Some.last.now (sym c.in-Some.ensures.value)
