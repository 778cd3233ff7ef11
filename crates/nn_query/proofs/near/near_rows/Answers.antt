use Rattle.std.proofs.Common.{map, refl, sym, ap₂, subst, ◌∙◌, arith}
use Rattle.std.specs.Prelude.{IsPermutation}
use Rattle.metric_laws.specs.LogLaws.{LogExtends-then, LogExtends-same}
use Rattle.spb_defs.specs.Pivots.{vector_of}
use Rattle.spb_defs.specs.Scans.{near_answer}
use Rattle.pivot_map.specs.BoundLaws.{bounds_hold}
use Rattle.pivot_map.specs.Rows.{entries_of}
use Rattle.near_search.specs.Items.{items_of}
use Rattle.near_search.specs.Least.{least_of}
use Rattle.nn_query.specs.Listed.{candidates_for, object_at_place, empty_nodes}
use Rattle.near_search.specs.Queue.{as_waiting, queued_candidates}
use Rattle.near_search.specs.Visits.{AreBounds, Visited}
use Rattle.nn_query.proofs.Candidates.{whole-list, in-order, weight-is, most-is, have-rows, are-bounds, bounds-are, keys-are, apart}
use Rattle.near_search.proofs.Found.{nearest-found, evals-found, visits-found}
use Rattle.near_search.proofs.Orders.{sorted_by-rises}
use Rattle.nn_query.proofs.near.near_rows.Goals as goal

pub visit_in_order-requires-clause-items : goal.visit_in_order-requires-clause-items
visit_in_order-requires-clause-items g c = have-rows c.map_object-asked.result c.args.rows.now (items_of c.of-queue.result) (subst (λ ws. IsPermutation ws (items_of c.of-queue.result)) c.in_ok-items.ensures c.of-queue.ensures)

pub visit_in_order-requires-clause-few : goal.visit_in_order-requires-clause-few
visit_in_order-requires-clause-few g c =
    let weight = weight-is c.map_object-asked.result c.args.rows.now (items_of c.of-queue.result) (subst (λ ws. IsPermutation ws (items_of c.of-queue.result)) c.in_ok-items.ensures c.of-queue.ensures) in
    omega (arith, weight, c.requires.rows.few)

pub overflow_add-result : goal.overflow_add-result
overflow_add-result g c =
    let most = most-is c.map_object-asked.result c.args.rows.now (items_of c.of-queue.result) (subst (λ ws. IsPermutation ws (items_of c.of-queue.result)) c.in_ok-items.ensures c.of-queue.ensures) in
    omega (arith, most, c.requires.rows.few, c.in_ok-seen.ensures.few)

pub returns-clause-answer : goal.returns-clause-answer
unfolding near_answer
returns-clause-answer g c =
    let kind = g.R.Ruler.kind c.args.ruler.now in
    let dist = g.R.Ruler.dist kind in
    let pivots = c.args.pivots.now in
    let query = c.args.q.now in
    let rows = c.args.rows.now in
    let asked = vector_of dist pivots query in
    let n = c.in_ok-seen.seen.measured in
    let items = items_of c.of-queue.result in
    let cs = queued_candidates empty_nodes items in
    let least = least_of c.visit_in_order.new.best in
    let moved : IsPermutation (map as_waiting (candidates_for asked 0 rows)) items =
    subst (λ v. IsPermutation (map as_waiting (candidates_for v 0 rows)) items) c.map_object-asked.ensures.vector (subst (λ ws. IsPermutation ws (items_of c.of-queue.result)) c.in_ok-items.ensures c.of-queue.ensures) in
    let bounds : AreBounds dist (object_at_place rows) query empty_nodes (λ level place. Unit {0}) items =
    are-bounds asked rows items moved dist query
    (bounds-are dist pivots query rows (g.R.Ruler.admitted kind) c.requires.rows.vects c.requires.rows.objects c.requires.query
    (bounds_hold (g.R.Ruler.admitted kind) dist (g.met.R.Ruler.ruler_laws kind) pivots c.requires.pivots.objects)) in
    let visited : Visited dist (object_at_place rows) query cs c.args.k n least =
    subst (λ m. Visited dist (object_at_place rows) query cs m n least) c.new-best.ensures.most
    (subst (λ m. AreBounds (g.R.Ruler.dist m) (object_at_place rows) query empty_nodes (λ level place. Unit {0}) items
    → Visited (g.R.Ruler.dist m) (object_at_place rows) query cs c.new-best.result.most n least)
    c.map_object-asked.ensures.kind (c.in_ok-seen.ensures.visited refl) bounds) in
    let there = in-order asked rows items moved in
    let whole = whole-list asked rows cs there in
    ap₂ (λ rows evals. record { rows = rows; evals = evals })
    (c.into_ranks.ensures ∙ nearest-found dist query (object_at_place rows) (entries_of rows) cs c.args.k n least whole visited)
    (evals-found dist pivots query (object_at_place rows) (entries_of rows) cs c.args.k n least c.requires.some whole
    (keys-are dist pivots query rows cs there c.requires.rows.vects) visited)

pub returns-clause-log : goal.returns-clause-log
returns-clause-log g c =
    let kind = g.R.Ruler.kind c.args.ruler.now in
    let dist = g.R.Ruler.dist kind in
    let pivots = c.args.pivots.now in
    let query = c.args.q.now in
    let rows = c.args.rows.now in
    let asked = vector_of dist pivots query in
    let n = c.in_ok-seen.seen.measured in
    let items = items_of c.of-queue.result in
    let cs = queued_candidates empty_nodes items in
    let least = least_of c.visit_in_order.new.best in
    let moved : IsPermutation (map as_waiting (candidates_for asked 0 rows)) items =
    subst (λ v. IsPermutation (map as_waiting (candidates_for v 0 rows)) items) c.map_object-asked.ensures.vector (subst (λ ws. IsPermutation ws (items_of c.of-queue.result)) c.in_ok-items.ensures c.of-queue.ensures) in
    let bounds : AreBounds dist (object_at_place rows) query empty_nodes (λ level place. Unit {0}) items =
    are-bounds asked rows items moved dist query
    (bounds-are dist pivots query rows (g.R.Ruler.admitted kind) c.requires.rows.vects c.requires.rows.objects c.requires.query
    (bounds_hold (g.R.Ruler.admitted kind) dist (g.met.R.Ruler.ruler_laws kind) pivots c.requires.pivots.objects)) in
    let bounds_now : AreBounds (g.R.Ruler.dist (g.R.Ruler.kind c.map_object-asked.new.ruler)) (object_at_place rows) query empty_nodes
    (λ level place. Unit {0}) items =
    subst (λ m. AreBounds (g.R.Ruler.dist m) (object_at_place rows) query empty_nodes (λ level place. Unit {0}) items) (sym c.map_object-asked.ensures.kind)
    bounds in
    let visited : Visited dist (object_at_place rows) query cs c.args.k n least =
    subst (λ m. Visited dist (object_at_place rows) query cs m n least) c.new-best.ensures.most
    (subst (λ m. AreBounds (g.R.Ruler.dist m) (object_at_place rows) query empty_nodes (λ level place. Unit {0}) items
    → Visited (g.R.Ruler.dist m) (object_at_place rows) query cs c.new-best.result.most n least)
    c.map_object-asked.ensures.kind (c.in_ok-seen.ensures.visited refl) bounds) in
    let there = in-order asked rows items moved in
    LogExtends-same (g.R.Ruler.log c.args.ruler.now) (g.R.Ruler.log c.visit_in_order.new.ruler) _ _
    (visits-found dist pivots query (object_at_place rows) (entries_of rows) cs c.args.k n least c.requires.some (whole-list asked rows cs there)
    (keys-are dist pivots query rows cs there c.requires.rows.vects) visited
    (apart dist pivots query rows c.requires.rows.ids) (sorted_by-rises _))
    (LogExtends-then (g.R.Ruler.log c.args.ruler.now) (g.R.Ruler.log c.map_object-asked.new.ruler) (g.R.Ruler.log c.visit_in_order.new.ruler)
    _ _ c.map_object-asked.ensures.log (c.in_ok-seen.ensures.log refl bounds_now))
