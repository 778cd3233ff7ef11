use Rattle.std.proofs.Common.{rules, ◌≡◌, ◌++◌, ◌∷◌, [], ◌+◌, ap, sym, ◌∙◌}
use Rattle.page_laws.proofs.Plain.{range_more}
use Rattle.page_laws.proofs.plain_pages.numbers_between.Goals as goal

pub loop-i-preserved : goal.loop-i-preserved
loop-i-preserved c = record {
  numbers = c.in_ok-push.ensures.items ∙ ap (λ xs. xs ++ (c.args.first + c.loop-i.i) ∷ []) c.loop-i.invariant.numbers
      ∙ sym (range_more c.args.first c.loop-i.i);
  room = search (rules, c.push.ensures.capacity, c.loop-i.invariant.room);
}
