use Rattle.std.proofs.Common.{rules, Bool, false, Ok, ap, subst, ◌∙◌}
use Rattle.page_laws.specs.Errors.{TellsNoDamage}
use Rattle.bptree_walk.specs.Courses.{Course, begun}
use Rattle.bptree_walk.specs.Damage.{TellsDamage}
use Rattle.bptree_walk.specs.Steps.{VisitsOne}
use Rattle.bptree_walk.proofs.Gathering.{gathers_none, gathers_on, gathers_few, all_gathered, all_visited, begun_sound}
use Rattle.bptree_walk.proofs.Passing.{passes_off}
use Rattle.bptree_walk.proofs.Stacks.{begun_part}
use Rattle.bptree_walk.proofs.Staying.{live_of}
use Rattle.bptree_walk.proofs.walking.walk.Goals as goal

pub loop-cursor-init : goal.loop-cursor-init
loop-cursor-init g c = (
  gathers_none g.P.Pages (g.G.Region.meets_box c.args.region.now) (g.G.Region.has_key c.args.region.now) g.met.P.Pages.calm_same c.args.pages.now c.args.root c.new-found.result c.begin.new.self
      c.new-found.ensures c.begin.ensures.course,
  ap (λ (course : Course). course.entries) c.begin.ensures.course,
)

pub loop-cursor-preserved : goal.loop-cursor-preserved
loop-cursor-preserved g c = (
  gathers_on g.P.Pages (g.G.Region.meets_box c.args.region.now) (g.G.Region.has_key c.args.region.now) c.args.pages.now c.loop-cursor.pages c.args.root c.loop-cursor.found c.loop-cursor.cursor
      c.loop-cursor.invariant.0 g.met.P.Pages.calm_chains c.visit_next.new.pages c.visit_next.new.self c.give_leaf.new.self c.give_leaf.new.found
      c.in_ok-visit_next.ensures.steps c.in_ok-visit_next.ensures.limit c.visit_next.ensures.fetches c.visit_next.ensures.stay c.in_ok-visit_next.ensures.fault
      c.in_ok-give_leaf.ensures.entries c.give_leaf.ensures.ahead c.give_leaf.ensures.fetched c.in_ok-give_leaf.ensures.found,
  c.in_ok-give_leaf.ensures.entries,
)

pub returns-in_err-visit_next-clause-sound : goal.returns-in_err-visit_next-clause-sound
returns-in_err-visit_next-clause-sound g c = λ known tree.
    let bad : TellsNoDamage c.in_err-visit_next.field-0.0 =
    (passes_off g.P.Pages (g.G.Region.meets_box c.args.region.now) (g.G.Region.has_key c.args.region.now) c.args.pages.now c.loop-cursor.pages c.loop-cursor.invariant.0.given (begun c.args.root)
    c.loop-cursor.cursor c.loop-cursor.invariant.0.passes c.in_err-visit_next.field-0.0 known c.in_err-visit_next.ensures.steps).sound
    (begun_sound (g.P.Pages.page_at c.args.pages.now) (live_of g.P.Pages c.args.pages.now) c.args.root tree)
    in search (rules, bad)

pub returns-in_err-visit_next-clause-damage : goal.returns-in_err-visit_next-clause-damage
returns-in_err-visit_next-clause-damage g c = λ known.
    let bad : TellsDamage (g.P.Pages.page_at c.args.pages.now) (live_of g.P.Pages c.args.pages.now) c.args.root c.in_err-visit_next.field-0.0 =
    (passes_off g.P.Pages (g.G.Region.meets_box c.args.region.now) (g.G.Region.has_key c.args.region.now) c.args.pages.now c.loop-cursor.pages c.loop-cursor.invariant.0.given (begun c.args.root)
    c.loop-cursor.cursor c.loop-cursor.invariant.0.passes c.in_err-visit_next.field-0.0 known c.in_err-visit_next.ensures.steps).damage c.args.root
    (begun_part (g.P.Pages.page_at c.args.pages.now) c.args.root)
    in search (rules, bad)

pub returns-clause-entries : goal.returns-clause-entries
returns-clause-entries g c = λ known covered.
    let last : VisitsOne (Ok false) c.loop-cursor.cursor c.visit_next.new.self =
    subst (λ (b : Bool). VisitsOne (Ok b) c.loop-cursor.cursor c.visit_next.new.self) c.if-branch.false c.in_ok-visit_next.ensures.visits in
    all_gathered g.P.Pages (g.G.Region.meets_box c.args.region.now) (g.G.Region.has_key c.args.region.now) c.args.pages.now c.loop-cursor.pages c.args.root c.loop-cursor.found c.loop-cursor.cursor
    c.loop-cursor.invariant.0 c.visit_next.new.pages c.visit_next.new.self c.in_ok-visit_next.ensures.steps
    (ap (λ (course : Course). course.entries) last.1 ∙ c.loop-cursor.invariant.1, ap (λ (course : Course). course.ahead) last.1 ∙ last.0) c.visit_next.ensures.fetches known covered

pub returns-clause-fetches : goal.returns-clause-fetches
returns-clause-fetches g c = λ known.
    let last : VisitsOne (Ok false) c.loop-cursor.cursor c.visit_next.new.self =
    subst (λ (b : Bool). VisitsOne (Ok b) c.loop-cursor.cursor c.visit_next.new.self) c.if-branch.false c.in_ok-visit_next.ensures.visits in
    all_visited g.P.Pages (g.G.Region.meets_box c.args.region.now) (g.G.Region.has_key c.args.region.now) c.args.pages.now c.loop-cursor.pages c.args.root c.loop-cursor.found c.loop-cursor.cursor
    c.loop-cursor.invariant.0 c.visit_next.new.pages c.visit_next.new.self c.in_ok-visit_next.ensures.steps
    (ap (λ (course : Course). course.entries) last.1 ∙ c.loop-cursor.invariant.1, ap (λ (course : Course). course.ahead) last.1 ∙ last.0) c.visit_next.ensures.fetches known

pub returns-clause-few : goal.returns-clause-few
returns-clause-few g c =
    gathers_few g.P.Pages (g.G.Region.meets_box c.args.region.now) (g.G.Region.has_key c.args.region.now) c.args.pages.now c.loop-cursor.pages c.args.root c.loop-cursor.found c.loop-cursor.cursor
    c.loop-cursor.invariant.0 c.requires
