use Rattle.std.proofs.Common.{rules, refl, subst, ◌∙◌, arith}
use Rattle.std.specs.Prelude.{IsSome}
use Rattle.page_laws.specs.PlainPages.{page_at, in_pool}
use Rattle.bptree_node.specs.Summaries.{HasCorners}
use Rattle.bptree_node.specs.Trees.{list_at}
use Rattle.bptree_node.specs.declared.rows.Entry.{Entry}
use Rattle.check_tests.proofs.GrownTrees.{none-grown, absent, more-grown}
use Rattle.check_tests.proofs.growing.grow.Goals as goal

pub loop-i-init : goal.loop-i-init
loop-i-init g c = record {
  grown = none-grown (HasCorners g.S.Summary.joined (g.F.Boxes.entry_box c.args.boxes.now) (g.F.Boxes.keys_of c.args.boxes.now)) (g.F.Boxes.entry_box c.args.boxes.now)
      (page_at c.args.pages.now) (in_pool c.args.pages.now) c.args.pages.now.free _ c.requires refl;
  pool = refl;
  id = omega arith;
}

pub insert-requires-clause-absent : goal.insert-requires-clause-absent
insert-requires-clause-absent g c = λ known.
    absent (g.F.Boxes.entry_box c.args.boxes.now) c.from.result c.loop-i.next c.loop-i.seen (list_at (page_at c.loop-i.pages) c.loop-i.root) c.loop-i.invariant.grown.ids c.if-seen-id.false

pub loop-i-preserved : goal.loop-i-preserved
loop-i-preserved g c =
    let is = c.in_ok-root.ensures in
    let e : Entry = record { key = c.from.result; id = c.loop-i.next; slot = c.loop-i.i } in
    let box : IsSome (g.F.Boxes.entry_box c.args.boxes.now e) = subst IsSome c.of_entry.ensures c.if-is_none.ensures in
    record {
      grown = more-grown (HasCorners g.S.Summary.joined (g.F.Boxes.entry_box c.args.boxes.now) (g.F.Boxes.keys_of c.args.boxes.now)) (g.F.Boxes.entry_box c.args.boxes.now)
          (page_at c.loop-i.pages) (page_at c.insert.new.pages) (in_pool c.loop-i.pages) (in_pool c.insert.new.pages) c.loop-i.pages.free c.insert.new.pages.free c.loop-i.seen c.loop-i.i
          c.loop-i.root c.in_ok-root.root e c.loop-i.invariant.grown c.loop-i.invariant.id box (is.list refl) (is.tree refl) is.takes;
      pool = is.change.pool ∙ c.loop-i.invariant.pool;
      id = search rules;
    }
