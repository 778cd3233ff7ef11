use Rattle.std.proofs.Common.{sym, ap, length, slice_index, ◌∙◌}
use Rattle.bptree_node.specs.NodeLaws.{leaf_known, length-entries_in}
use Rattle.node_edit.proofs.entry.entry_count.Goals as goal

pub returns : goal.returns
returns c = sym (length-entries_in (slice_index c.args.page.now 1) c.args.page.now) ∙ ap length (leaf_known c.args.page.now _ c.requires).1
