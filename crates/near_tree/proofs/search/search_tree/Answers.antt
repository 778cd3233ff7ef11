use Rattle.std.proofs.Common.{◌≡◌, ℕ, ◌≤◌, List, map, take, sym, ap, subst, ◌∙◌, arith}
use Rattle.std.specs.Prelude.{nat_lt, count_by}
use Rattle.metric_laws.specs.Log.{LogExtends, each_with}
use Rattle.bptree_node.specs.Trees.{list_at}
use Rattle.answer_lists.specs.Order.{sorted_by}
use Rattle.spb_defs.specs.Scans.{ranks_of}
use Rattle.near_search.specs.Items.{items_of}
use Rattle.near_search.specs.Least.{least_of}
use Rattle.near_search.specs.Queue.{Candidate, candidate_is_before, count_before, queued_candidates}
use Rattle.near_search.specs.Visits.{entries_at, objects_at, Visited}
use Rattle.shelf_tree.specs.Contents.{content_of, nodes_of, object_at_slot}
use Rattle.near_tree.specs.Searches.{tree_candidates, node_bounds}
use Rattle.near_tree.proofs.Rooted.{visitable, light, few, under, bounds_are, are-bounds}
use Rattle.near_tree.proofs.search.search_tree.Goals as goal

pub visit_in_order-requires-clause-items : goal.visit_in_order-requires-clause-items
visit_in_order-requires-clause-items g c =
    visitable (content_of g.P.Pages g.C.Curve c.args.tree.now) (items_of c.in_ok-queue.queue) c.in_ok-queue.ensures c.requires.ready

pub visit_in_order-requires-clause-few : goal.visit_in_order-requires-clause-few
visit_in_order-requires-clause-few g c =
    light (content_of g.P.Pages g.C.Curve c.args.tree.now) (items_of c.in_ok-queue.queue) c.in_ok-queue.ensures c.requires.height

pub returns-clause-few : goal.returns-clause-few
returns-clause-few g c =
    let most = few (content_of g.P.Pages g.C.Curve c.args.tree.now) (items_of c.in_ok-queue.queue) c.in_ok-queue.ensures c.requires.height in
    omega (arith, most, c.in_ok-seen.ensures.few)

pub returns-clause-visited : goal.returns-clause-visited
returns-clause-visited g c = λ has.
    let s = content_of g.P.Pages g.C.Curve c.args.tree.now in
    let items = items_of c.in_ok-queue.queue in
    let dist = g.R.Ruler.dist (g.R.Ruler.kind c.args.ruler.now) in
    let query = c.args.q.now in
    let n = c.in_ok-seen.seen.measured in
    let least = least_of c.visit_in_order.new.best in
    let cs : queued_candidates (nodes_of s) items ≡ tree_candidates s = ap (sorted_by candidate_is_before) (under s items c.in_ok-queue.ensures) in
    let bounds = are-bounds s dist query has items c.in_ok-queue.ensures in
    let found : Visited dist (object_at_slot s) query (queued_candidates (nodes_of s) items) c.args.k n least =
    subst (λ m. Visited dist (object_at_slot s) query (queued_candidates (nodes_of s) items) m n least) c.new-best.ensures.most
    (c.in_ok-seen.ensures.visited has.known bounds) in
    subst (λ ranks. Visited dist (object_at_slot s) query (tree_candidates s) c.args.k n ranks) (sym c.into_ranks.ensures)
    (subst (λ (cs : List Candidate). Visited dist (object_at_slot s) query cs c.args.k n least) cs found)

pub returns-clause-opened : goal.returns-clause-opened
returns-clause-opened g c = λ has.
    let s = content_of g.P.Pages g.C.Curve c.args.tree.now in
    let items = items_of c.in_ok-queue.queue in
    let dist = g.R.Ruler.dist (g.R.Ruler.kind c.args.ruler.now) in
    let query = c.args.q.now in
    let cs : queued_candidates (nodes_of s) items ≡ tree_candidates s = ap (sorted_by candidate_is_before) (under s items c.in_ok-queue.ensures) in
    let reached : ℕ → List Candidate → List ℕ → ℕ =
    λ k cs bounds. count_by (λ b. nat_lt (count_before (b, 0) (ranks_of dist (entries_at (object_at_slot s) cs) query)) k) bounds in
    let bounds = are-bounds s dist query has items c.in_ok-queue.ensures in
    c.in_ok-seen.ensures.opened has.known bounds
    ∙ ap (λ (bounds : List ℕ). reached c.new-best.result.most (queued_candidates (nodes_of s) items) bounds) (bounds_are s items c.in_ok-queue.ensures)
    ∙ ap (λ (cs : List Candidate). reached c.new-best.result.most cs (node_bounds s)) cs
    ∙ ap (λ (k : ℕ). reached k (tree_candidates s) (node_bounds s)) c.new-best.ensures.most

pub returns-clause-log : goal.returns-clause-log
returns-clause-log g c = λ has.
    let s = content_of g.P.Pages g.C.Curve c.args.tree.now in
    let items = items_of c.in_ok-queue.queue in
    let dist = g.R.Ruler.dist (g.R.Ruler.kind c.args.ruler.now) in
    let query = c.args.q.now in
    let n = c.in_ok-seen.seen.measured in
    let cs : queued_candidates (nodes_of s) items ≡ tree_candidates s = ap (sorted_by candidate_is_before) (under s items c.in_ok-queue.ensures) in
    subst (λ (cs : List Candidate). LogExtends (g.R.Ruler.log c.args.ruler.now) (g.R.Ruler.log c.visit_in_order.new.ruler)
    (each_with query (objects_at (object_at_slot s) (take n cs)))) cs
    (c.in_ok-seen.ensures.log has.known (are-bounds s dist query has items c.in_ok-queue.ensures))
