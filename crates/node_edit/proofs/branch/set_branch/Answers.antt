use Rattle.std.proofs.Common.{◌∙◌, arith}
use Rattle.bptree_node.specs.NodeLaws.{inner_counts}
use Rattle.node_edit.proofs.Placing.{page-known, branch-set}
use Rattle.node_edit.specs.Rows.{branches_on}
use Rattle.node_edit.proofs.branch.set_branch.Goals as goal

pub overflow_mul-from : goal.overflow_mul-from
overflow_mul-from c = omega (arith, c.requires.place, (inner_counts c.args.page.now _ c.requires.inner).1)

pub overflow_add-from : goal.overflow_add-from
overflow_add-from c = omega (arith, c.requires.place, (inner_counts c.args.page.now _ c.requires.inner).1)

pub overflow_add-from-2 : goal.overflow_add-from-2
overflow_add-from-2 c = omega (arith, c.requires.place, (inner_counts c.args.page.now _ c.requires.inner).1)

pub slice_bounds-copy_from_slice-end : goal.slice_bounds-copy_from_slice-end
slice_bounds-copy_from_slice-end c = omega (arith, c.requires.place, (inner_counts c.args.page.now _ c.requires.inner).1)

pub returns : goal.returns
returns c =
    branch-set c.args.page.now (page-known c.args.page.now c.told-page c.fits-page) (branches_on c.args.page.now) c.args.branch.now c.args.at _ c.copy_from_slice.new.self
    c.requires.inner c.requires.place c.branch_bytes.ensures.fits (omega arith) (c.copy_from_slice.ensures.after ∙ c.branch_bytes.ensures.bytes)
