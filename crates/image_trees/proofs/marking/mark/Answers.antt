use Rattle.std.proofs.Common.{◌≤◌, ◌&&◌, ◌||◌, length, ap, ◌∙◌, arith, take_all}
use Rattle.std.specs.Prelude.{nat_lt}
use Rattle.page_laws.specs.Pages.{is_among}
use Rattle.tree_check.specs.PageSets.{has}
use Rattle.image_trees.specs.Trees.{slots_of}
use Rattle.image_trees.proofs.Naming.{marked-more, none-marked}
use Rattle.image_trees.proofs.Ranges.{same-range, covers-moved}
use Rattle.image_trees.proofs.marking.mark.Goals as goal

pub loop-i-init : goal.loop-i-init
loop-i-init c = record { named = λ m. none-marked (has c.args.named.now m) (nat_lt m c.args.cap); range = same-range c.args.named.now }

pub mark_slot-requires : goal.mark_slot-requires
mark_slot-requires c = λ n below. covers-moved c.args.named.now c.loop-i.named n c.loop-i.invariant.range (c.requires n below)

pub loop-i-preserved : goal.loop-i-preserved
loop-i-preserved c = record {
  named = λ m. marked-more (has c.args.named.now m) (has c.loop-i.named m) (has c.mark_slot.new.named m) (nat_lt m c.args.cap) m c.args.entries.now c.loop-i.i _
      c.loop-i-test.true (c.loop-i.invariant.named m) (c.mark_slot.ensures.named m);
  range = record {
    first = c.mark_slot.ensures.range.first ∙ c.loop-i.invariant.range.first;
    count = c.mark_slot.ensures.range.count ∙ c.loop-i.invariant.range.count;
  };
}

pub returns-clause-named : goal.returns-clause-named
returns-clause-named c = λ m.
    let done : length c.args.entries.now ≤ c.loop-i.i = omega (arith, c.loop-i-test.false) in
    c.loop-i.invariant.named m ∙ ap (λ es. has c.args.named.now m || (nat_lt m c.args.cap && is_among m (slots_of es))) (take_all c.loop-i.i c.args.entries.now done)
