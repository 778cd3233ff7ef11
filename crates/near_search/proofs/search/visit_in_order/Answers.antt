use Rattle.std.proofs.Common.{◌≡◌, ◌+◌, true, false, [], ◌∷◌, ◌++◌, take, refl, sym, ap, subst, ◌∙◌, rules, arith}
use Rattle.std.specs.Prelude.{IsTrue, nat_le}
use Rattle.metric_laws.specs.Log.{LogExtends}
use Rattle.metric_laws.specs.LogLaws.{LogExtends-nothing, LogExtends-then, LogExtends-same}
use Rattle.answer_lists.specs.Order.{goes_before, with_inserted}
use Rattle.near_search.specs.Items.{items_of}
use Rattle.near_search.specs.Least.{least_of}
use Rattle.near_search.specs.Queue.{least_rank, count_before, queued_candidates}
use Rattle.near_search.specs.Visits.{CanVisitKind, CanVisit, Enqueues, Expands, nodes_in_reach}
use Rattle.near_search.proofs.Lists.{all-append, all-moved}
use Rattle.near_search.proofs.Looking.{first-none}
use Rattle.near_search.proofs.Turns.{lighter, fewer, object-weighs, one-fewer, begun, all-lower, visited-all, opened-all, visited-shut, opened-shut, measured, logged, went-on}
use Rattle.near_search.proofs.search.visit_in_order.Goals as goal

pub loop-first-init : goal.loop-first-init
loop-first-init g c =
    let content = g.H.Hierarchy.content c.args.held.now in
    record {
      kept = refl;
      most = refl;
      same_kind = refl;
      count = omega arith;
      visitable = c.requires.items;
      light = omega arith;
      fewer = omega arith;
      follows = g.met.H.Hierarchy.follows_itself c.args.held.now;
      looked = λ known bounds.
          begun (g.R.Ruler.dist (g.R.Ruler.kind c.args.ruler.now)) (g.H.Hierarchy.object_at content) c.args.q.now (g.H.Hierarchy.nodes content)
          (g.H.Hierarchy.is_sound content) c.args.best.now.most
          (items_of c.args.queue) (least_of c.args.best.now) bounds (c.requires.none ∙ first-none c.args.best.now.most);
      logged = λ known bounds. LogExtends-nothing (g.R.Ruler.log c.args.ruler.now);
    }

pub returns-then-shuts_out-clause-visited : goal.returns-then-shuts_out-clause-visited
returns-then-shuts_out-clause-visited g c known bounds =
    let dist = g.R.Ruler.dist (g.R.Ruler.kind c.args.ruler.now) in
    let content = g.H.Hierarchy.content c.args.held.now in
    let object_at = g.H.Hierarchy.object_at content in
    let nodes = g.H.Hierarchy.nodes content in
    let is_sound = g.H.Hierarchy.is_sound content in
    let query = c.args.q.now in
    let begin = items_of c.args.queue in
    let cs = queued_candidates nodes begin in
    let most = c.args.best.now.most in
    let n = c.loop-first.seen.measured in
    let ls = least_of c.loop-first.best in
    let items = items_of c.loop-first.queue in
    let opened = c.loop-first.seen.opened in
    let all = nodes_in_reach dist object_at query nodes most begin in
    let kept = c.loop-first.invariant in
    let f = c.in-Some.first in
    let new = items_of c.next.new.self in
    let moved = c.in-Some.ensures.some in
    let first = c.in-Some.ensures.first in
    let shut : true ≡ nat_le most (count_before (least_rank f) ls) =
    sym c.if-shuts_out.true ∙ c.shuts_out.ensures ∙ ap (λ p. nat_le c.loop-first.best.most (count_before p ls)) c.key.ensures
    ∙ ap (λ m. nat_le m (count_before (least_rank f) ls)) kept.most in
    visited-shut dist object_at query nodes is_sound most cs (all-lower dist object_at query nodes is_sound most begin bounds) n ls items opened all
    (kept.looked known bounds) f new moved first shut

pub returns-then-shuts_out-clause-opened : goal.returns-then-shuts_out-clause-opened
returns-then-shuts_out-clause-opened g c known bounds =
    let dist = g.R.Ruler.dist (g.R.Ruler.kind c.args.ruler.now) in
    let content = g.H.Hierarchy.content c.args.held.now in
    let object_at = g.H.Hierarchy.object_at content in
    let nodes = g.H.Hierarchy.nodes content in
    let is_sound = g.H.Hierarchy.is_sound content in
    let query = c.args.q.now in
    let begin = items_of c.args.queue in
    let cs = queued_candidates nodes begin in
    let most = c.args.best.now.most in
    let n = c.loop-first.seen.measured in
    let ls = least_of c.loop-first.best in
    let items = items_of c.loop-first.queue in
    let opened = c.loop-first.seen.opened in
    let all = nodes_in_reach dist object_at query nodes most begin in
    let kept = c.loop-first.invariant in
    let f = c.in-Some.first in
    let new = items_of c.next.new.self in
    let moved = c.in-Some.ensures.some in
    let first = c.in-Some.ensures.first in
    let shut : true ≡ nat_le most (count_before (least_rank f) ls) =
    sym c.if-shuts_out.true ∙ c.shuts_out.ensures ∙ ap (λ p. nat_le c.loop-first.best.most (count_before p ls)) c.key.ensures
    ∙ ap (λ m. nat_le m (count_before (least_rank f) ls)) kept.most in
    opened-shut dist object_at query nodes is_sound most cs (all-lower dist object_at query nodes is_sound most begin bounds) n ls items opened all
    (kept.looked known bounds) f new moved first shut

pub open-requires : goal.open-requires
open-requires g c =
    let content = g.H.Hierarchy.content c.args.held.now in
    let items = items_of c.loop-first.queue in
    let kept = c.loop-first.invariant in
    let f = c.in-Some.first in
    let new = items_of c.next.new.self in
    let moved = c.in-Some.ensures.some in
    let can_visit = CanVisit (g.H.Hierarchy.can_open content) (g.H.Hierarchy.can_measure content) in
    let visitable = all-moved can_visit items (f ∷ new) moved kept.visitable in
    let can_open : g.H.Hierarchy.can_open content c.in-Node.level f.place =
    subst (CanVisitKind (g.H.Hierarchy.can_open content) (g.H.Hierarchy.can_measure content) f.place) c.in-Node.is visitable.0 in
    record { node = subst (λ x. g.H.Hierarchy.can_open x c.in-Node.level f.place) (sym kept.kept) can_open }

pub loop-first-smaller-in-Node : goal.loop-first-smaller-in-Node
loop-first-smaller-in-Node g c =
    let content = g.H.Hierarchy.content c.args.held.now in
    let nodes = g.H.Hierarchy.nodes content in
    let is_sound = g.H.Hierarchy.is_sound content in
    let most = c.args.best.now.most in
    let ls = least_of c.loop-first.best in
    let items = items_of c.loop-first.queue in
    let kept = c.loop-first.invariant in
    let f = c.in-Some.first in
    let new = items_of c.next.new.self in
    let moved = c.in-Some.ensures.some in
    let can_visit = CanVisit (g.H.Hierarchy.can_open content) (g.H.Hierarchy.can_measure content) in
    let visitable = all-moved can_visit items (f ∷ new) moved kept.visitable in
    let level = c.in-Node.level in
    let now = items_of c.open.new.queue in
    let adds : Enqueues nodes can_visit level new now =
    subst (λ x. Enqueues (g.H.Hierarchy.nodes x) (CanVisit (g.H.Hierarchy.can_open x) (g.H.Hierarchy.can_measure x)) level new now) kept.kept
    c.in_ok-open-in-Node.ensures.few in
    lighter nodes f items new moved can_visit level now c.in-Node.is adds

pub loop-first-preserved-in-Node : goal.loop-first-preserved-in-Node
loop-first-preserved-in-Node g c =
    let dist = g.R.Ruler.dist (g.R.Ruler.kind c.args.ruler.now) in
    let content = g.H.Hierarchy.content c.args.held.now in
    let object_at = g.H.Hierarchy.object_at content in
    let nodes = g.H.Hierarchy.nodes content in
    let is_sound = g.H.Hierarchy.is_sound content in
    let query = c.args.q.now in
    let begin = items_of c.args.queue in
    let cs = queued_candidates nodes begin in
    let most = c.args.best.now.most in
    let n = c.loop-first.seen.measured in
    let ls = least_of c.loop-first.best in
    let items = items_of c.loop-first.queue in
    let opened = c.loop-first.seen.opened in
    let all = nodes_in_reach dist object_at query nodes most begin in
    let kept = c.loop-first.invariant in
    let f = c.in-Some.first in
    let new = items_of c.next.new.self in
    let moved = c.in-Some.ensures.some in
    let first = c.in-Some.ensures.first in
    let can_visit = CanVisit (g.H.Hierarchy.can_open content) (g.H.Hierarchy.can_measure content) in
    let visitable = all-moved can_visit items (f ∷ new) moved kept.visitable in
    let fits : false ≡ nat_le most (count_before (least_rank f) ls) =
    sym c.if-shuts_out.false ∙ c.shuts_out.ensures ∙ ap (λ p. nat_le c.loop-first.best.most (count_before p ls)) c.key.ensures
    ∙ ap (λ m. nat_le m (count_before (least_rank f) ls)) kept.most in
    let level = c.in-Node.level in
    let now = items_of c.open.new.queue in
    let there = g.H.Hierarchy.content c.loop-first.held in
    let known_there : IsTrue (g.H.Hierarchy.is_known content) → IsTrue (g.H.Hierarchy.is_known there) =
    λ known. subst (λ x. IsTrue (g.H.Hierarchy.is_known x)) (sym kept.kept) known in
    let adds : Enqueues nodes can_visit level new now =
    subst (λ x. Enqueues (g.H.Hierarchy.nodes x) (CanVisit (g.H.Hierarchy.can_open x) (g.H.Hierarchy.can_measure x)) level new now) kept.kept
    c.in_ok-open-in-Node.ensures.few in
    let opens : IsTrue (g.H.Hierarchy.is_known content) → Expands nodes is_sound most ls level f.place new now =
    λ known. subst (λ m. Expands nodes is_sound m ls level f.place new now) kept.most
    (subst (λ x. Expands (g.H.Hierarchy.nodes x) (g.H.Hierarchy.is_sound x)
    c.loop-first.best.most ls level f.place new now) kept.kept (c.in_ok-open-in-Node.ensures.rows (known_there known))) in
    let less = lighter nodes f items new moved can_visit level now c.in-Node.is adds in
    let no_more = fewer nodes f items new moved can_visit level now c.in-Node.is adds in
    let light = kept.light in
    let few = kept.fewer in
    let sum : n + opened + 1 ≡ n + (opened + 1) = omega arith in
    record {
      kept = c.open.ensures.kept ∙ kept.kept;
      most = kept.most;
      same_kind = kept.same_kind;
      count = kept.count;
      visitable = all-moved can_visit (adds.put_in ++ new) now adds.added (all-append can_visit adds.put_in new adds.visitable visitable.1);
      light = omega (arith, less, light);
      fewer = omega (arith, no_more, few);
      follows =
          subst (λ m. g.H.Hierarchy.Follows m c.args.held.now c.open.new.self) sum
          (g.met.H.Hierarchy.follows_after (n + opened) 1 c.args.held.now c.loop-first.held c.open.new.self kept.follows c.in_ok-open-in-Node.ensures.follows);
      looked = λ known bounds.
          (went-on dist object_at query nodes is_sound most cs (all-lower dist object_at query nodes is_sound most begin bounds) n ls items opened all
          (kept.looked known bounds) f new moved first fits level c.in-Node.is now (opens known));
      logged = kept.logged;
    }

pub measure-requires-clause-place : goal.measure-requires-clause-place
measure-requires-clause-place g c =
    let content = g.H.Hierarchy.content c.args.held.now in
    let items = items_of c.loop-first.queue in
    let kept = c.loop-first.invariant in
    let f = c.in-Some.first in
    let new = items_of c.next.new.self in
    let moved = c.in-Some.ensures.some in
    let can_visit = CanVisit (g.H.Hierarchy.can_open content) (g.H.Hierarchy.can_measure content) in
    let visitable = all-moved can_visit items (f ∷ new) moved kept.visitable in
    let id = c.in-Object.id in
    let can_measure : g.H.Hierarchy.can_measure content id f.place =
    subst (CanVisitKind (g.H.Hierarchy.can_open content) (g.H.Hierarchy.can_measure content) f.place) c.in-Object.is visitable.0 in
    subst (λ x. g.H.Hierarchy.can_measure x id f.place) (sym kept.kept) can_measure

pub loop-first-smaller : goal.loop-first-smaller
loop-first-smaller g c =
    let content = g.H.Hierarchy.content c.args.held.now in
    let nodes = g.H.Hierarchy.nodes content in
    let items = items_of c.loop-first.queue in
    let kept = c.loop-first.invariant in
    let f = c.in-Some.first in
    let new = items_of c.next.new.self in
    let moved = c.in-Some.ensures.some in
    let first = c.in-Some.ensures.first in
    let weight = object-weighs nodes f items new moved c.in-Object.id c.in-Object.is in omega (arith, weight)

pub loop-first-preserved : goal.loop-first-preserved
loop-first-preserved g c =
    let dist = g.R.Ruler.dist (g.R.Ruler.kind c.args.ruler.now) in
    let content = g.H.Hierarchy.content c.args.held.now in
    let object_at = g.H.Hierarchy.object_at content in
    let nodes = g.H.Hierarchy.nodes content in
    let is_sound = g.H.Hierarchy.is_sound content in
    let query = c.args.q.now in
    let begin = items_of c.args.queue in
    let cs = queued_candidates nodes begin in
    let most = c.args.best.now.most in
    let n = c.loop-first.seen.measured in
    let ls = least_of c.loop-first.best in
    let items = items_of c.loop-first.queue in
    let opened = c.loop-first.seen.opened in
    let all = nodes_in_reach dist object_at query nodes most begin in
    let kept = c.loop-first.invariant in
    let f = c.in-Some.first in
    let new = items_of c.next.new.self in
    let moved = c.in-Some.ensures.some in
    let first = c.in-Some.ensures.first in
    let can_visit = CanVisit (g.H.Hierarchy.can_open content) (g.H.Hierarchy.can_measure content) in
    let visitable = all-moved can_visit items (f ∷ new) moved kept.visitable in
    let fits : false ≡ nat_le most (count_before (least_rank f) ls) =
    sym c.if-shuts_out.false ∙ c.shuts_out.ensures ∙ ap (λ p. nat_le c.loop-first.best.most (count_before p ls)) c.key.ensures
    ∙ ap (λ m. nat_le m (count_before (least_rank f) ls)) kept.most in
    let id = c.in-Object.id in
    let there = g.H.Hierarchy.content c.loop-first.held in
    let result = c.in_ok-distance-in-Object in
    let known_there : IsTrue (g.H.Hierarchy.is_known content) → IsTrue (g.H.Hierarchy.is_known there) =
    λ known. subst (λ x. IsTrue (g.H.Hierarchy.is_known x)) (sym kept.kept) known in
    let distance : IsTrue (g.H.Hierarchy.is_known content) → result.distance ≡ dist query (object_at f.place) =
    λ known. result.ensures.distance (known_there known) ∙ ap (λ m. g.R.Ruler.dist m query (g.H.Hierarchy.object_at there f.place)) kept.same_kind
    ∙ ap (λ x. dist query (g.H.Hierarchy.object_at x f.place)) kept.kept in
    let put : IsTrue (g.H.Hierarchy.is_known content)
    → least_of c.put.new.self ≡ take most (with_inserted goes_before (dist query (object_at f.place), id) ls) =
    λ known. c.in_default-put.ensures.ranks ∙ ap (λ m. take m (with_inserted goes_before (result.distance, id) ls)) kept.most
    ∙ ap (λ d. take most (with_inserted goes_before (d, id) ls)) (distance known) in
    let weight = object-weighs nodes f items new moved id c.in-Object.is in
    let one = one-fewer nodes f items new moved id c.in-Object.is in
    let light = kept.light in
    let fewer = kept.fewer in
    let count = kept.count in
    let sum : n + opened + 1 ≡ n + 1 + opened = omega arith in
    record {
      kept = c.measure.ensures.kept ∙ kept.kept;
      most = c.put.ensures.most ∙ kept.most;
      same_kind = c.measure.ensures.ruler.0 ∙ kept.same_kind;
      count = omega (arith, count, result.ensures.count);
      visitable = visitable.1;
      light = omega (arith, weight, light);
      fewer = omega (arith, one, fewer);
      follows =
          subst (λ m. g.H.Hierarchy.Follows m c.args.held.now c.measure.new.self) sum
          (g.met.H.Hierarchy.follows_after (n + opened) 1 c.args.held.now c.loop-first.held c.measure.new.self kept.follows result.ensures.follows);
      looked = λ known bounds.
          (measured dist object_at query nodes is_sound most cs (all-lower dist object_at query nodes is_sound most begin bounds) n ls items opened all
          (kept.looked known bounds) f new moved first fits id c.in-Object.is (least_of c.put.new.self) (put known));
      logged = λ known bounds.
          LogExtends-same (g.R.Ruler.log c.args.ruler.now) (g.R.Ruler.log c.measure.new.ruler) _ _
          (logged dist object_at query nodes is_sound most cs (all-lower dist object_at query nodes is_sound most begin bounds) n ls items opened all
          (kept.looked known bounds) f new moved first fits id c.in-Object.is)
          (LogExtends-then (g.R.Ruler.log c.args.ruler.now) (g.R.Ruler.log c.loop-first.ruler) (g.R.Ruler.log c.measure.new.ruler) _ _ (kept.logged known bounds)
          (subst (λ x. LogExtends (g.R.Ruler.log c.loop-first.ruler) (g.R.Ruler.log c.measure.new.ruler) ((query, g.H.Hierarchy.object_at x f.place) ∷ []))
          kept.kept (result.ensures.log (known_there known))));
    }

pub returns-clause-visited : goal.returns-clause-visited
returns-clause-visited g c known bounds =
    let dist = g.R.Ruler.dist (g.R.Ruler.kind c.args.ruler.now) in
    let content = g.H.Hierarchy.content c.args.held.now in
    let object_at = g.H.Hierarchy.object_at content in
    let nodes = g.H.Hierarchy.nodes content in
    let is_sound = g.H.Hierarchy.is_sound content in
    let query = c.args.q.now in
    let begin = items_of c.args.queue in
    let cs = queued_candidates nodes begin in
    let most = c.args.best.now.most in
    let n = c.loop-first.seen.measured in
    let ls = least_of c.loop-first.best in
    let items = items_of c.loop-first.queue in
    let opened = c.loop-first.seen.opened in
    let all = nodes_in_reach dist object_at query nodes most begin in
    let kept = c.loop-first.invariant in
    let none : items ≡ [] = search rules in
    visited-all dist object_at query nodes is_sound most cs (all-lower dist object_at query nodes is_sound most begin bounds) n ls items opened all
    (kept.looked known bounds) none

pub returns-clause-opened : goal.returns-clause-opened
returns-clause-opened g c known bounds =
    let dist = g.R.Ruler.dist (g.R.Ruler.kind c.args.ruler.now) in
    let content = g.H.Hierarchy.content c.args.held.now in
    let object_at = g.H.Hierarchy.object_at content in
    let nodes = g.H.Hierarchy.nodes content in
    let is_sound = g.H.Hierarchy.is_sound content in
    let query = c.args.q.now in
    let begin = items_of c.args.queue in
    let cs = queued_candidates nodes begin in
    let most = c.args.best.now.most in
    let n = c.loop-first.seen.measured in
    let ls = least_of c.loop-first.best in
    let items = items_of c.loop-first.queue in
    let opened = c.loop-first.seen.opened in
    let all = nodes_in_reach dist object_at query nodes most begin in
    let kept = c.loop-first.invariant in
    let none : items ≡ [] = search rules in
    opened-all dist object_at query nodes is_sound most cs (all-lower dist object_at query nodes is_sound most begin bounds) n ls items opened all
    (kept.looked known bounds) none
