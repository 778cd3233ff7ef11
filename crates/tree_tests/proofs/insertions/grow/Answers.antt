use Rattle.std.proofs.Common.{◌+◌, ◌*◌, ◌%◌, refl, arith}
use Rattle.page_laws.specs.PlainPages.{page_at, in_pool}
use Rattle.bptree_node.specs.Trees.{list_at}
use Rattle.bptree_node.specs.declared.rows.Entry.{Entry}
use Rattle.tree_tests.proofs.TestTrees.{none-grown, absent, more-grown}
use Rattle.tree_tests.proofs.insertions.grow.Goals as goal

pub loop-i-init : goal.loop-i-init
loop-i-init c = none-grown (page_at c.args.pages.now) (in_pool c.args.pages.now) c.args.pages.now.free _ c.requires refl

pub insert-requires-clause-absent : goal.insert-requires-clause-absent
insert-requires-clause-absent c = λ known.
    absent 7 ((c.args.first % 40 + c.args.step % 40 * c.loop-i.i) % 40) c.loop-i.seen (list_at (page_at c.loop-i.pages) c.loop-i.root) c.loop-i.invariant.ids c.if-seen-id.false

pub loop-i-preserved : goal.loop-i-preserved
loop-i-preserved c =
    let is = c.in_ok-root.ensures in
    let e : Entry = record { key = 7; id = (c.args.first % 40 + c.args.step % 40 * c.loop-i.i) % 40; slot = c.loop-i.i } in
    more-grown (page_at c.loop-i.pages) (page_at c.insert.new.pages) (in_pool c.loop-i.pages) (in_pool c.insert.new.pages) c.loop-i.pages.free c.insert.new.pages.free c.loop-i.seen c.loop-i.i
    c.loop-i.root c.in_ok-root.root e c.loop-i.invariant (omega arith) (is.list refl) (is.tree refl) is.takes
