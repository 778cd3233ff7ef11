use Rattle.std.proofs.Common.{rules, ◌<◌, ℕ, ◌+◌, ◌-◌, ◌*◌, List, subst, sym, arith, refl}
use Rattle.std.proofs.lemmas.Bool.{false≢true}
use Rattle.redo_journal.specs.Header.{IsCount, image_count}
use Rattle.redo_journal.proofs.Headers.{HasRead, number_at, reads_none, reads_bad, reads_good}
use Rattle.redo_journal.proofs.header.read_header.Goals as goal

pub loop-place-init : goal.loop-place-init
loop-place-init c = reads_none _ _ _ _ c.new-numbers.ensures c.number_in-count.ensures

pub returns-then-not-is_next-clause-bad : goal.returns-then-not-is_next-clause-bad
returns-then-not-is_next-clause-bad c =
    let far : c.loop-place.place < 80 = search rules in
    let number = number_at _ (8 + 4 * c.loop-place.place) (512 - (8 + 4 * c.loop-place.place)) _ (omega (arith, far)) c.number_in-number.ensures in
    let count : IsCount (image_count c.args.header.now) = search rules in
    (count, reads_bad _ _ _ _ _ _ _ c.loop-place.invariant c.loop-place-test.true number (λ next. false≢true (c.if-not-is_next.ensures.1 next)))

pub loop-place-preserved : goal.loop-place-preserved
loop-place-preserved c =
    let far : c.loop-place.place < 80 = search rules in
    let number = number_at _ (8 + 4 * c.loop-place.place) (512 - (8 + 4 * c.loop-place.place)) _ (omega (arith, far)) c.number_in-number.ensures in
    subst (λ (items : List ℕ). HasRead c.args.total c.args.header.now c.number_in-count.result items c.number_in-number.result (c.loop-place.place + 1))
    (sym c.push.ensures.items)
    (reads_good _ _ _ _ _ _ _ c.loop-place.invariant c.loop-place-test.true number (c.if-not-is_next.ensures.0 refl))
