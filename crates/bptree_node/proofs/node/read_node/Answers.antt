use Rattle.std.proofs.Common.{sym, ◌∙◌}
use Rattle.bptree_node.specs.NodeLaws.{leaf_found, inner_found, none_found}
use Rattle.bptree_node.proofs.node.read_node.Goals as goal

pub returns-then-has_rows : goal.returns-then-has_rows
returns-then-has_rows c = leaf_found c.args.page.now (sym c.has_rows.ensures ∙ c.if-has_rows.true)

pub returns-then-has_rows-2 : goal.returns-then-has_rows-2
returns-then-has_rows-2 c = inner_found c.args.page.now (sym c.has_rows.ensures ∙ c.if-has_rows.false) (sym c.has_rows-2.ensures ∙ c.if-has_rows-2.true)

pub returns : goal.returns
returns c = none_found c.args.page.now (sym c.has_rows.ensures ∙ c.if-has_rows.false) (sym c.has_rows-2.ensures ∙ c.if-has_rows-2.false)
