use Rattle.std.proofs.Common.{rules, ◌≡◌, ◌≤◌, ◌∷◌, [], sym, subst, arith}
use Rattle.bptree_walk.specs.Courses.{most_left}
use Rattle.bptree_walk.specs.Steps.{BreaksOff}
use Rattle.bptree_walk.proofs.Passing.{Passes, taken_on, untaken_same, passes_on, passes_off, goes_further}
use Rattle.bptree_walk.proofs.Staying.{live_of}
use Rattle.bptree_walk.proofs.cursor.Cursor.next_in.Goals as goal

pub returns-in-Some-clause-steps : goal.returns-in-Some-clause-steps
returns-in-Some-clause-steps g c = λ known.
    goes_further (g.P.Pages.page_at c.args.pages.now) (live_of g.P.Pages c.args.pages.now) (g.G.Region.meets_box c.args.region.now) (g.G.Region.has_key c.args.region.now) c.args.self.now c.loop-entry.self [] (c.in-Some.entry ∷ [])
    c.take.new.self (c.loop-entry.invariant.goes known)
    (taken_on c.in-Some.entry c.loop-entry.self c.take.new.self c.in-Some.ensures.entries c.take.ensures.ahead c.take.ensures.fetched (g.P.Pages.page_at c.args.pages.now)
    (live_of g.P.Pages c.args.pages.now) (g.G.Region.meets_box c.args.region.now) (g.G.Region.has_key c.args.region.now))

pub returns-in_err-visit_next-clause-steps : goal.returns-in_err-visit_next-clause-steps
returns-in_err-visit_next-clause-steps g c = λ known.
    let same : c.take.new.self ≡ c.loop-entry.self =
    untaken_same c.loop-entry.self c.take.new.self c.in_default.ensures.entries.0 c.in_default.ensures.entries.1 c.take.ensures.ahead c.take.ensures.fetched
    in
    let so : Passes g.P.Pages (g.G.Region.meets_box c.args.region.now) (g.G.Region.has_key c.args.region.now) c.args.pages.now c.loop-entry.pages [] c.args.self.now c.take.new.self =
    subst (Passes g.P.Pages (g.G.Region.meets_box c.args.region.now) (g.G.Region.has_key c.args.region.now) c.args.pages.now c.loop-entry.pages [] c.args.self.now) (sym same) c.loop-entry.invariant
    in
    let off : BreaksOff (g.P.Pages.page_at c.args.pages.now) (live_of g.P.Pages c.args.pages.now) c.in_err-visit_next.field-0.0 c.args.self.now =
    passes_off g.P.Pages (g.G.Region.meets_box c.args.region.now) (g.G.Region.has_key c.args.region.now) c.args.pages.now c.loop-entry.pages [] c.args.self.now c.take.new.self so c.in_err-visit_next.field-0.0 known
    c.in_err-visit_next.ensures.steps
    in search (rules, off)

pub loop-entry-preserved : goal.loop-entry-preserved
loop-entry-preserved g c =
    let same : c.take.new.self ≡ c.loop-entry.self =
    untaken_same c.loop-entry.self c.take.new.self c.in_default.ensures.entries.0 c.in_default.ensures.entries.1 c.take.ensures.ahead c.take.ensures.fetched
    in
    let so : Passes g.P.Pages (g.G.Region.meets_box c.args.region.now) (g.G.Region.has_key c.args.region.now) c.args.pages.now c.loop-entry.pages [] c.args.self.now c.take.new.self =
    subst (Passes g.P.Pages (g.G.Region.meets_box c.args.region.now) (g.G.Region.has_key c.args.region.now) c.args.pages.now c.loop-entry.pages [] c.args.self.now) (sym same) c.loop-entry.invariant
    in
    let limit : most_left c.visit_next.new.self ≤ most_left c.take.new.self = c.in_ok-visit_next.ensures.limit in
    passes_on g.P.Pages (g.G.Region.meets_box c.args.region.now) (g.G.Region.has_key c.args.region.now) c.args.pages.now c.loop-entry.pages [] c.args.self.now c.take.new.self so g.met.P.Pages.calm_chains c.visit_next.new.pages []
    c.visit_next.new.self c.in_ok-visit_next.ensures.steps (omega (arith, limit)) c.visit_next.ensures.fetches c.visit_next.ensures.stay c.in_ok-visit_next.ensures.fault
