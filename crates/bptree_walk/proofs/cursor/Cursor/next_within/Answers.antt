use Rattle.std.proofs.Common.{rules, Option, Some, None, Ok, option_to_list, sym, subst}
use Rattle.page_laws.specs.Errors.{TellsNoDamage}
use Rattle.bptree_node.specs.declared.rows.Entry.{Entry}
use Rattle.bptree_walk.specs.Courses.{Falls, most_left}
use Rattle.bptree_walk.specs.Damage.{TellsDamage}
use Rattle.bptree_walk.specs.Steps.{GoesOn, IsOver}
use Rattle.bptree_walk.proofs.Staying.{live_of}
use Rattle.bptree_walk.proofs.Within.{IsWithin, skips_none, skips_on, gives_one, gives_none, gives_off}
use Rattle.bptree_walk.proofs.cursor.Cursor.next_within.Given as given
use Rattle.bptree_walk.proofs.cursor.Cursor.next_within.Goals as goal

-- ---- an entry that the region has

at_some : (g : given.Over) (c : goal.Then-has g)
    → IsWithin g.P.Pages (g.G.Region.meets_box c.args.region.now) (g.G.Region.has_key c.args.region.now) c.args.pages.now c.next_in.new.pages c.args.self.now c.next_in.new.self
    (Ok (Some c.in-Some.entry))
at_some g c =
    let meets = g.G.Region.meets_box c.args.region.now in
    let has = g.G.Region.has_key c.args.region.now in
    let falls : Falls (Ok (Some c.in-Some.entry)) (most_left c.loop-entry.self) (most_left c.next_in.new.self) =
    subst (λ (o : Option Entry). Falls (Ok o) (most_left c.loop-entry.self) (most_left c.next_in.new.self)) c.in-Some.is c.in_ok-entry.ensures.limit
    in
    gives_one g.P.Pages meets has c.args.pages.now c.loop-entry.pages c.args.self.now c.loop-entry.self c.loop-entry.invariant g.met.P.Pages.calm_chains c.next_in.new.pages c.next_in.new.self
    c.next_in.ensures.fetches c.next_in.ensures.stay c.in_ok-entry.ensures.fault c.in-Some.entry
    (λ known. subst (λ (o : Option Entry). GoesOn (g.P.Pages.page_at c.loop-entry.pages) (live_of g.P.Pages c.loop-entry.pages) meets has (option_to_list o) c.loop-entry.self c.next_in.new.self)
    c.in-Some.is (c.in_ok-entry.ensures.steps known)) falls (sym c.if-has.ensures)

pub returns-then-has-clause-gives : goal.returns-then-has-clause-gives
returns-then-has-clause-gives g c = (at_some g c).gives

pub returns-then-has-clause-nodes : goal.returns-then-has-clause-nodes
returns-then-has-clause-nodes g c = (at_some g c).nodes

pub returns-then-has-clause-limit : goal.returns-then-has-clause-limit
returns-then-has-clause-limit g c = (at_some g c).limit

pub returns-then-has-clause-fetches : goal.returns-then-has-clause-fetches
returns-then-has-clause-fetches g c = (at_some g c).counts

pub returns-then-has-clause-sound : goal.returns-then-has-clause-sound
returns-then-has-clause-sound g c = (at_some g c).sound

pub returns-then-has-clause-part : goal.returns-then-has-clause-part
returns-then-has-clause-part g c = (at_some g c).part

-- ---- one that it doesn't have

pub loop-entry-init : goal.loop-entry-init
loop-entry-init g c =
    skips_none g.P.Pages (g.G.Region.meets_box c.args.region.now) (g.G.Region.has_key c.args.region.now) g.met.P.Pages.calm_same c.args.pages.now c.args.self.now

pub loop-entry-preserved : goal.loop-entry-preserved
loop-entry-preserved g c =
    let meets = g.G.Region.meets_box c.args.region.now in
    let has = g.G.Region.has_key c.args.region.now in
    let falls : Falls (Ok (Some c.in-Some.entry)) (most_left c.loop-entry.self) (most_left c.next_in.new.self) =
    subst (λ (o : Option Entry). Falls (Ok o) (most_left c.loop-entry.self) (most_left c.next_in.new.self)) c.in-Some.is c.in_ok-entry.ensures.limit
    in
    skips_on g.P.Pages meets has c.args.pages.now c.loop-entry.pages c.args.self.now c.loop-entry.self c.loop-entry.invariant g.met.P.Pages.calm_chains c.next_in.new.pages c.next_in.new.self
    c.next_in.ensures.fetches c.next_in.ensures.stay c.in_ok-entry.ensures.fault c.in-Some.entry
    (λ known. subst (λ (o : Option Entry). GoesOn (g.P.Pages.page_at c.loop-entry.pages) (live_of g.P.Pages c.loop-entry.pages) meets has (option_to_list o) c.loop-entry.self c.next_in.new.self)
    c.in-Some.is (c.in_ok-entry.ensures.steps known)) falls (sym c.if-has.ensures)

-- ---- errors

pub returns-in_err-entry-clause-sound : goal.returns-in_err-entry-clause-sound
returns-in_err-entry-clause-sound g c = λ known sound.
    let off = gives_off g.P.Pages (g.G.Region.meets_box c.args.region.now) (g.G.Region.has_key c.args.region.now) c.args.pages.now c.loop-entry.pages c.args.self.now c.loop-entry.self
    c.loop-entry.invariant c.in_err-entry.field-0.0 c.in_err-entry.ensures.steps known in
    let none : TellsNoDamage c.in_err-entry.field-0.0 = off.sound sound in
    search (rules, none)

pub returns-in_err-entry-clause-part : goal.returns-in_err-entry-clause-part
returns-in_err-entry-clause-part g c = λ known root part.
    let off = gives_off g.P.Pages (g.G.Region.meets_box c.args.region.now) (g.G.Region.has_key c.args.region.now) c.args.pages.now c.loop-entry.pages c.args.self.now c.loop-entry.self
    c.loop-entry.invariant c.in_err-entry.field-0.0 c.in_err-entry.ensures.steps known in
    let bad : TellsDamage (g.P.Pages.page_at c.args.pages.now) (live_of g.P.Pages c.args.pages.now) root c.in_err-entry.field-0.0 = off.damage root part in
    search (rules, bad)

-- ---- none

at_none : (g : given.Over) (c : goal.In_default g)
    → IsWithin g.P.Pages (g.G.Region.meets_box c.args.region.now) (g.G.Region.has_key c.args.region.now) c.args.pages.now c.next_in.new.pages c.args.self.now c.next_in.new.self (Ok None)
at_none g c =
    let meets = g.G.Region.meets_box c.args.region.now in
    let has = g.G.Region.has_key c.args.region.now in
    let falls : Falls (Ok None) (most_left c.loop-entry.self) (most_left c.next_in.new.self) =
    subst (λ (o : Option Entry). Falls (Ok o) (most_left c.loop-entry.self) (most_left c.next_in.new.self)) c.in_default.is c.in_ok-entry.ensures.limit
    in
    let over : IsOver (Ok None) c.next_in.new.self = subst (λ (o : Option Entry). IsOver (Ok o) c.next_in.new.self) c.in_default.is c.in_ok-entry.ensures.ended in
    gives_none g.P.Pages meets has c.args.pages.now c.loop-entry.pages c.args.self.now c.loop-entry.self c.loop-entry.invariant g.met.P.Pages.calm_chains c.next_in.new.pages c.next_in.new.self
    c.next_in.ensures.fetches c.next_in.ensures.stay c.in_ok-entry.ensures.fault
    (λ known. subst (λ (o : Option Entry). GoesOn (g.P.Pages.page_at c.loop-entry.pages) (live_of g.P.Pages c.loop-entry.pages) meets has (option_to_list o) c.loop-entry.self c.next_in.new.self)
    c.in_default.is (c.in_ok-entry.ensures.steps known)) falls over.0 over.1

pub returns-clause-gives : goal.returns-clause-gives
returns-clause-gives g c = (at_none g c).gives

pub returns-clause-nodes : goal.returns-clause-nodes
returns-clause-nodes g c = (at_none g c).nodes

pub returns-clause-limit : goal.returns-clause-limit
returns-clause-limit g c = (at_none g c).limit

pub returns-clause-fetches : goal.returns-clause-fetches
returns-clause-fetches g c = (at_none g c).counts

pub returns-clause-sound : goal.returns-clause-sound
returns-clause-sound g c = (at_none g c).sound

pub returns-clause-part : goal.returns-clause-part
returns-clause-part g c = (at_none g c).part
