use Rattle.std.proofs.Common.{◌≡◌, ◌+◌, ◌≤◌, take}
use Rattle.std.specs.Prelude.{IsTrue, sum_by}
use Rattle.std.specs.List.{AllByRecursion}
use Rattle.metric_laws.specs.Log.{LogExtends, each_with}
use Rattle.near_search.specs.Items.{items_of}
use Rattle.near_search.specs.Least.{least_of}
use Rattle.near_search.specs.Queue.{weight_of, most_of, queued_candidates}
use Rattle.near_search.specs.Visits.{objects_at, CanVisit, AreBounds, nodes_in_reach}
use Rattle.near_search.proofs.Turns.{Looked}
use Rattle.near_search.proofs.search.visit_in_order.Given as goal

abbrev pub invariant-loop-first : goal.invariant-loop-first
invariant-loop-first g l =
    let kind = g.R.Ruler.kind l.fn.ruler in
    let dist = g.R.Ruler.dist kind in
    let content = g.H.Hierarchy.content l.fn.held in
    let object_at = g.H.Hierarchy.object_at content in
    let nodes = g.H.Hierarchy.nodes content in
    let is_sound = g.H.Hierarchy.is_sound content in
    let items = items_of l.fn.queue in
    let cs = queued_candidates nodes items in
    record {
      kept : g.H.Hierarchy.content l.held ≡ content;
      most : l.best.most ≡ l.fn.best.most;
      same_kind : g.R.Ruler.kind l.ruler ≡ kind;
      count : g.R.Ruler.count l.ruler ≡ g.R.Ruler.count l.fn.ruler + l.seen.measured;
      visitable : AllByRecursion (CanVisit (g.H.Hierarchy.can_open content) (g.H.Hierarchy.can_measure content)) (items_of l.queue);
      light : l.seen.measured + l.seen.opened + sum_by (weight_of nodes) (items_of l.queue) ≤ sum_by (weight_of nodes) items;
      fewer : l.seen.measured + sum_by (most_of nodes) (items_of l.queue) ≤ sum_by (most_of nodes) items;
      follows : g.H.Hierarchy.Follows (l.seen.measured + l.seen.opened) l.fn.held l.held;
      looked : IsTrue (g.H.Hierarchy.is_known content) → AreBounds dist object_at l.fn.q nodes is_sound items
          → Looked dist object_at l.fn.q nodes is_sound l.fn.best.most cs l.seen.measured (least_of l.best) (items_of l.queue) l.seen.opened
          (nodes_in_reach dist object_at l.fn.q nodes l.fn.best.most items);
      logged : IsTrue (g.H.Hierarchy.is_known content) → AreBounds dist object_at l.fn.q nodes is_sound items
          → LogExtends (g.R.Ruler.log l.fn.ruler) (g.R.Ruler.log l.ruler) (each_with l.fn.q (objects_at object_at (take l.seen.measured cs)));
    }

abbrev pub decreases-loop-first : goal.decreases-loop-first
decreases-loop-first g l = sum_by (weight_of (g.H.Hierarchy.nodes (g.H.Hierarchy.content l.fn.held))) (items_of l.queue)
