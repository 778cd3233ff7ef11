use Rattle.std.proofs.Common.{rules, ◌≡◌, ◌+◌, ◌∷◌, [], reverse, sym, ap, subst, ◌∙◌, arith}
use Rattle.bptree_walk.specs.Courses.{Course, most_left, most_nodes, most_nodes_left}
use Rattle.bptree_walk.specs.Steps.{GoesOn, BreaksOff}
use Rattle.bptree_walk.proofs.Counts.{none_counted}
use Rattle.bptree_walk.proofs.Staying.{live_of}
use Rattle.bptree_walk.proofs.Stacks.{fewer_left, no_more_left, few_rest, few_deeper, stacked_rest, room_left, stacked_deeper}
use Rattle.bptree_walk.proofs.Visiting.{course, next_is, visit_goes_on, visited_entries, visit_breaks_off, lost_breaks_off}
use Rattle.bptree_walk.proofs.cursor.Cursor.visit_next.Goals as goal
use Rattle.bptree_walk.proofs.cursor.Cursor.visit_next.Goals.{In-Some}

-- the course that the call began with
begun_with : (g : _) (c : In-Some g) → c.args.self.now ≡ course [] (c.in-Some.next ∷ reverse c.pop.new.self.items) c.self.inside.fetched
begun_with g c =
    next_is c.self.inside.leaf c.self.inside.ahead.items c.pop.new.self.items c.in-Some.next c.self.inside.fetched c.args.self.now c.self.view_is c.requires c.in-Some.ensures.items

pub returns-in_default-clause-fetches : goal.returns-in_default-clause-fetches
returns-in_default-clause-fetches g c =
    none_counted c.args.self.now (course c.self.inside.leaf (reverse c.pop.new.self.items) c.self.inside.fetched) (g.P.Pages.fetches c.args.pages.now)
    (ap (λ (x : Course). x.fetched) c.self.view_is)

pub invariant_of-self-in_err-test_live : goal.invariant_of-self-in_err-test_live
invariant_of-self-in_err-test_live g c = record {
  room = c.pop.ensures.capacity ∙ c.self.invariant.room;
  stacked = stacked_rest c.in-Some.next c.pop.new.self.items c.self.inside.ahead.items c.in-Some.ensures.items c.self.invariant.stacked;
  few = few_rest c.in-Some.next c.pop.new.self.items c.self.inside.ahead.items c.self.inside.fetched (most_nodes 4) c.in-Some.ensures.items c.self.invariant.few;
}

pub returns-in_err-test_live-clause-steps : goal.returns-in_err-test_live-clause-steps
returns-in_err-test_live-clause-steps g c = λ known.
    let off : BreaksOff (g.P.Pages.page_at c.args.pages.now) (live_of g.P.Pages c.args.pages.now) c.in_err-test_live.field-0.0 c.args.self.now =
    subst (BreaksOff (g.P.Pages.page_at c.args.pages.now) (live_of g.P.Pages c.args.pages.now) c.in_err-test_live.field-0.0) (sym (begun_with g (goal.at.returns-in_err-test_live-clause-steps g c).In-Some))
    (lost_breaks_off (g.P.Pages.page_at c.args.pages.now) (live_of g.P.Pages c.args.pages.now) c.in-Some.next (reverse c.pop.new.self.items) c.self.inside.fetched c.in_err-test_live.field-0.0
    c.in_err-test_live.ensures.live)
    in search (rules, off)

pub returns-in_err-test_live-clause-fetches : goal.returns-in_err-test_live-clause-fetches
returns-in_err-test_live-clause-fetches g c =
    none_counted c.args.self.now (course c.self.inside.leaf (reverse c.pop.new.self.items) c.self.inside.fetched) (g.P.Pages.fetches c.args.pages.now)
    (ap (λ (x : Course). x.fetched) c.self.view_is)

pub visit-requires-clause-room : goal.visit-requires-clause-room
visit-requires-clause-room g c = λ some.
    let room = room_left c.in-Some.next c.pop.new.self.items c.self.inside.ahead.items c.in-Some.ensures.items c.self.invariant.stacked some in
    let capacity : c.pop.new.self.capacity ≡ 70 = c.pop.ensures.capacity ∙ c.self.invariant.room in
    omega (arith, room, capacity)

pub invariant_of-self-in_err-visit : goal.invariant_of-self-in_err-visit
invariant_of-self-in_err-visit g c = record {
  room = c.visit.ensures.capacity ∙ c.pop.ensures.capacity ∙ c.self.invariant.room;
  stacked = stacked_deeper c.in-Some.next c.pop.new.self.items c.self.inside.ahead.items c.in-Some.ensures.items c.self.invariant.stacked c.visit.new.ahead.items c.visit.ensures.deeper;
  few = few_deeper c.in-Some.next c.pop.new.self.items c.self.inside.ahead.items c.visit.new.ahead.items c.self.inside.fetched (most_nodes 4) c.in-Some.ensures.items c.self.invariant.few
      c.visit.ensures.deeper;
}

pub returns-in_err-visit-clause-steps : goal.returns-in_err-visit-clause-steps
returns-in_err-visit-clause-steps g c = λ known.
    let off : BreaksOff (g.P.Pages.page_at c.args.pages.now) (live_of g.P.Pages c.args.pages.now) c.in_err-visit.field-0.0 c.args.self.now =
    subst (BreaksOff (g.P.Pages.page_at c.args.pages.now) (live_of g.P.Pages c.args.pages.now) c.in_err-visit.field-0.0) (sym (begun_with g (goal.at.returns-in_err-visit-clause-steps g c).In-Some))
    (visit_breaks_off (g.P.Pages.page_at c.args.pages.now) (live_of g.P.Pages c.args.pages.now) c.in-Some.next (reverse c.pop.new.self.items) c.self.inside.fetched c.in_err-visit.field-0.0
    (c.in_err-visit.ensures.damage known))
    in search (rules, off)

pub invariant_of-self-2 : goal.invariant_of-self-2
invariant_of-self-2 g c = record {
  room = c.visit.ensures.capacity ∙ c.pop.ensures.capacity ∙ c.self.invariant.room;
  stacked = stacked_deeper c.in-Some.next c.pop.new.self.items c.self.inside.ahead.items c.in-Some.ensures.items c.self.invariant.stacked c.visit.new.ahead.items c.visit.ensures.deeper;
  few = few_deeper c.in-Some.next c.pop.new.self.items c.self.inside.ahead.items c.visit.new.ahead.items c.self.inside.fetched (most_nodes 4) c.in-Some.ensures.items c.self.invariant.few
      c.visit.ensures.deeper;
}

pub returns-clause-steps : goal.returns-clause-steps
returns-clause-steps g c = λ known.
    subst (λ (old : Course). GoesOn (g.P.Pages.page_at c.args.pages.now) (live_of g.P.Pages c.args.pages.now) (g.G.Region.meets_box c.args.region.now) (g.G.Region.has_key c.args.region.now) [] old
    (course c.visit.new.self (reverse c.visit.new.ahead.items) (c.self.inside.fetched + 1))) (sym (begun_with g (goal.at.returns-clause-steps g c).In-Some))
    (visit_goes_on (g.P.Pages.page_at c.args.pages.now) (live_of g.P.Pages c.args.pages.now) (g.G.Region.meets_box c.args.region.now) (g.G.Region.has_key c.args.region.now) c.in-Some.next c.pop.new.self.items c.self.inside.fetched
    (g.P.Pages.is_known c.args.pages.now) c.visit.new.self c.visit.new.ahead.items known c.in_ok-visit.ensures.visited)

pub returns-clause-visits : goal.returns-clause-visits
returns-clause-visits g c =
    let fewer = fewer_left c.in-Some.next c.pop.new.self.items c.visit.new.ahead.items c.visit.ensures.deeper in
    let old : most_nodes_left c.args.self.now.ahead ≡ most_nodes_left (c.in-Some.next ∷ reverse c.pop.new.self.items) =
    ap (λ (x : Course). most_nodes_left x.ahead) (begun_with g (goal.at.returns-clause-visits g c).In-Some)
    in omega (arith, fewer, old)

pub returns-clause-limit : goal.returns-clause-limit
returns-clause-limit g c =
    let entries = visited_entries (g.P.Pages.is_known c.args.pages.now) (g.P.Pages.page_at c.args.pages.now c.in-Some.next.page) (live_of g.P.Pages c.args.pages.now)
    (g.G.Region.meets_box c.args.region.now) c.in-Some.next c.visit.new.self c.pop.new.self.items c.visit.new.ahead.items c.in_ok-visit.ensures.visited
    in
    let more = no_more_left c.in-Some.next c.pop.new.self.items c.visit.new.ahead.items c.visit.ensures.deeper c.visit.new.self c.self.inside.fetched entries.0 entries.1 in
    let old : most_left c.args.self.now ≡ most_left (course [] (c.in-Some.next ∷ reverse c.pop.new.self.items) c.self.inside.fetched) =
    ap most_left (begun_with g (goal.at.returns-clause-limit g c).In-Some)
    in omega (arith, more, old)
