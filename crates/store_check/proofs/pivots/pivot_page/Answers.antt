use Rattle.std.proofs.Common.{inl, inr, ◌+◌, [], Some, sym, ap, ◌∙◌, arith}
use Rattle.std.specs.Prelude.{slice_index_or}
use Rattle.std.proofs.lemmas.Bool.{cases_eq}
use Rattle.object_file.specs.Slots.{slot_of}
use Rattle.store_check.specs.Pivots.{pivot_of, pivot_in}
use Rattle.store_check.proofs.pivots.pivot_page.Goals as goal

pub loop-place-preserved : goal.loop-place-preserved
loop-place-preserved c = λ p below. elim (cases_eq p c.loop-place.place) [
  | inl here ↦ ap (pivot_in c.fill_slot.new.page) here ∙ ap pivot_of c.fill_slot.ensures.here ∙ ap Some c.object_of.ensures.object
      ∙ ap (λ k. Some (slice_index_or c.args.pivots.now (c.args.first + k) [])) (sym here)
  | inr before ↦ ap (λ bytes. pivot_of (slot_of bytes)) (c.fill_slot.ensures.others p before) ∙ c.loop-place.invariant p (omega (arith, below, before))
]
