use Rattle.std.proofs.Common.{◌++◌, ◌∷◌, [], map, take, ap, sym, ◌∙◌}
use Rattle.std.proofs.lemmas.List.{map-append}
use Rattle.near_search.specs.Queue.{Candidate, as_waiting}
use Rattle.nn_query.specs.Listed.{candidates_for}
use Rattle.nn_query.proofs.Candidates.{candidates_for-none, candidates_for-more}
use Rattle.near_search.proofs.Orders.{turned_back}
use Rattle.nn_query.proofs.listing.items_of_rows.Goals as goal

pub loop-place-init : goal.loop-place-init
loop-place-init c = ap (map turned_back) c.in_ok-found.ensures.items ∙ ap (map as_waiting) (sym (candidates_for-none c.args.asked.now 0))

pub loop-place-preserved : goal.loop-place-preserved
loop-place-preserved c =
    let row = c.index-rows-place.result in
    let place = c.loop-place.place in
    let this : Candidate = record { bound = c.lower.result; id = row.id; place = place } in
    let passed = candidates_for c.args.asked.now 0 (take place c.args.rows.now) in
    ap (map turned_back) c.in_ok-push.ensures.items ∙ map-append turned_back _ _
    ∙ ap (λ items. items ++ as_waiting this ∷ []) c.loop-place.invariant
    ∙ sym (map-append as_waiting passed (this ∷ []))
    ∙ ap (map as_waiting) (candidates_for-more c.args.asked.now c.args.rows.now place c.lower.result row c.loop-place-test.true c.index-rows-place.is
    c.lower.ensures)
