use Rattle.std.proofs.Common.{rules, ℕ, ◌≤◌, Bool, Option, Some, Ok, Err, sym, subst, ◌∙◌, arith, inl, inr}
use Rattle.std.specs.Prelude.{◌⊎◌}
use Rattle.object_file.specs.ObjectFile.{HasSlots}
use Rattle.page_laws.specs.Errors.{CountsTreeFault}
use Rattle.bptree_node.specs.declared.rows.Entry.{Entry}
use Rattle.bptree_walk.specs.Courses.{GivesNext, Falls, most_left, walk_left, begun}
use Rattle.bptree_walk.specs.Steps.{IsOver}
use Rattle.bptree_walk.proofs.Staying.{live_of, stays_on, faults_on}
use Rattle.query_shelf.specs.Regions.{meets_box, has_key}
use Rattle.range_tree.specs.Ranges.{TellsOfWalk, TellsOfOne}
use Rattle.range_tree.proofs.Passing.{passes_none, passes_on, stays_mid, finds_all, logs_all, fetches_all, few_found, few_sure, ruler_on, ruler_next, room_left, tells_walk, tells_one}
use Rattle.range_tree.proofs.pass.found_within.Goals as goal

-- ---- the beginning

pub loop-cursor-init : goal.loop-cursor-init
loop-cursor-init g c =
    let request = c.args.request.now in
    let curve = request.curve.now in
    let axes = g.C.Curve.axes curve in
    let bits = g.C.Curve.bits curve in
    let cell_of = g.C.Curve.cell_of curve in
    passes_none g.P.Pages g.R.Ruler (meets_box axes bits cell_of request.asked.now request.r) (has_key axes bits cell_of request.asked.now request.r) cell_of request.asked.now request.q.now request.r
    g.met.P.Pages.calm_same c.args.pages.now c.args.ruler.now c.args.root c.begin.new.self c.new-found.result c.begin.ensures.course c.new-found.ensures.evals c.new-found.ensures.sure

-- ---- what the calls require

pub judge-requires-clause-query : goal.judge-requires-clause-query
judge-requires-clause-query g c = subst (λ (k : g.R.Ruler.Kind). g.R.Ruler.admitted k c.args.request.now.q.now) (sym c.loop-cursor.invariant.kind) c.requires.query

pub judge-requires-clause-there : goal.judge-requires-clause-there
judge-requires-clause-there g c =
    subst (λ (has : ℕ → Bool). HasSlots has c.args.request.now.objects.now.cap)
    (sym (c.next_within.ensures.stay.continues.map ∙ c.loop-cursor.invariant.stay.continues.map)) c.requires.there

pub judge-requires-clause-room : goal.judge-requires-clause-room
judge-requires-clause-room g c =
    let request = c.args.request.now in
    let curve = request.curve.now in
    let axes = g.C.Curve.axes curve in
    let bits = g.C.Curve.bits curve in
    let cell_of = g.C.Curve.cell_of curve in
    let meets = meets_box axes bits cell_of request.asked.now request.r in
    let has = has_key axes bits cell_of request.asked.now request.r in
    room_left g.P.Pages g.R.Ruler meets has cell_of request.asked.now request.q.now request.r
    c.args.pages.now c.loop-cursor.pages c.args.ruler.now c.loop-cursor.ruler c.args.root c.loop-cursor.cursor c.new-found.result c.loop-cursor.found c.loop-cursor.invariant g.met.P.Pages.calm_chains c.next_within.new.pages c.next_within.new.self c.requires.height c.requires.room

pub note-requires-clause-evals : goal.note-requires-clause-evals
note-requires-clause-evals g c =
    let request = c.args.request.now in
    let curve = request.curve.now in
    let axes = g.C.Curve.axes curve in
    let bits = g.C.Curve.bits curve in
    let cell_of = g.C.Curve.cell_of curve in
    let meets = meets_box axes bits cell_of request.asked.now request.r in
    let has = has_key axes bits cell_of request.asked.now request.r in
    let few = few_found g.P.Pages g.R.Ruler meets has cell_of request.asked.now request.q.now request.r
    c.args.pages.now c.loop-cursor.pages c.args.ruler.now c.loop-cursor.ruler c.args.root c.loop-cursor.cursor c.new-found.result c.loop-cursor.found c.loop-cursor.invariant g.met.P.Pages.calm_chains c.next_within.new.pages c.next_within.new.self c.requires.height in omega (arith, few)

pub note-requires-clause-sure : goal.note-requires-clause-sure
note-requires-clause-sure g c =
    let request = c.args.request.now in
    let curve = request.curve.now in
    let axes = g.C.Curve.axes curve in
    let bits = g.C.Curve.bits curve in
    let cell_of = g.C.Curve.cell_of curve in
    let meets = meets_box axes bits cell_of request.asked.now request.r in
    let has = has_key axes bits cell_of request.asked.now request.r in
    let few = few_sure g.P.Pages g.R.Ruler meets has cell_of request.asked.now request.q.now request.r
    c.args.pages.now c.loop-cursor.pages c.args.ruler.now c.loop-cursor.ruler c.args.root c.loop-cursor.cursor c.new-found.result c.loop-cursor.found c.loop-cursor.invariant g.met.P.Pages.calm_chains c.next_within.new.pages c.next_within.new.self c.requires.height in omega (arith, few)

-- ---- one entry more

pub loop-cursor-preserved : goal.loop-cursor-preserved
loop-cursor-preserved g c =
    let request = c.args.request.now in
    let curve = request.curve.now in
    let axes = g.C.Curve.axes curve in
    let bits = g.C.Curve.bits curve in
    let cell_of = g.C.Curve.cell_of curve in
    let meets = meets_box axes bits cell_of request.asked.now request.r in
    let has = has_key axes bits cell_of request.asked.now request.r in
    let falls : Falls (Ok (Some c.in-Some.entry)) (most_left c.loop-cursor.cursor) (most_left c.next_within.new.self) =
    subst (λ (o : Option Entry). Falls (Ok o) (most_left c.loop-cursor.cursor) (most_left c.next_within.new.self)) c.in-Some.is c.in_ok-entry.ensures.limit in
    passes_on g.P.Pages g.R.Ruler meets has cell_of request.asked.now request.q.now request.r
    c.args.pages.now c.loop-cursor.pages c.args.ruler.now c.loop-cursor.ruler c.args.root c.loop-cursor.cursor c.new-found.result c.loop-cursor.found c.loop-cursor.invariant g.met.P.Pages.calm_chains c.next_within.new.pages c.next_within.new.self
    c.next_within.ensures.stay c.in-Some.entry
    (λ known. subst (λ (o : Option Entry). GivesNext (Ok o) (walk_left meets has (g.P.Pages.page_at c.loop-cursor.pages) c.loop-cursor.cursor) (walk_left meets has (g.P.Pages.page_at c.loop-cursor.pages) c.next_within.new.self))
    c.in-Some.is (c.in_ok-entry.ensures.gives known))
    c.judge.new.pages c.judge.new.ruler c.note.new.self c.in_ok-verdict.verdict c.in_ok-entry.ensures.nodes falls c.next_within.ensures.fetches
    (λ known sound. (c.in_ok-entry.ensures.sound known sound).1) (λ known part. (c.in_ok-entry.ensures.part known c.args.root part).1) c.in_ok-entry.ensures.fault
    c.in_ok-verdict.ensures.verdict c.in_ok-verdict.ensures.log c.in_ok-verdict.ensures.count c.judge.ensures.kind c.in_ok-verdict.ensures.fetches c.judge.ensures.stay
    c.in_ok-verdict.ensures.fault c.in_ok-note.ensures.noted

-- ---- errors

pub returns-in_err-entry-clause-ruler : goal.returns-in_err-entry-clause-ruler
returns-in_err-entry-clause-ruler g c =
    let request = c.args.request.now in
    let curve = request.curve.now in
    let axes = g.C.Curve.axes curve in
    let bits = g.C.Curve.bits curve in
    let cell_of = g.C.Curve.cell_of curve in
    let meets = meets_box axes bits cell_of request.asked.now request.r in
    let has = has_key axes bits cell_of request.asked.now request.r in
    ruler_on g.P.Pages g.R.Ruler meets has cell_of request.asked.now request.q.now request.r
    c.args.pages.now c.loop-cursor.pages c.args.ruler.now c.loop-cursor.ruler c.args.root c.loop-cursor.cursor c.new-found.result c.loop-cursor.found c.loop-cursor.invariant g.met.P.Pages.calm_chains c.next_within.new.pages c.next_within.new.self

pub returns-in_err-entry-clause-stay : goal.returns-in_err-entry-clause-stay
returns-in_err-entry-clause-stay g c =
    let request = c.args.request.now in
    let curve = request.curve.now in
    let axes = g.C.Curve.axes curve in
    let bits = g.C.Curve.bits curve in
    let cell_of = g.C.Curve.cell_of curve in
    let meets = meets_box axes bits cell_of request.asked.now request.r in
    let has = has_key axes bits cell_of request.asked.now request.r in
    stays_mid g.P.Pages g.R.Ruler meets has cell_of request.asked.now request.q.now request.r
    c.args.pages.now c.loop-cursor.pages c.args.ruler.now c.loop-cursor.ruler c.args.root c.loop-cursor.cursor c.new-found.result c.loop-cursor.found c.loop-cursor.invariant g.met.P.Pages.calm_chains c.next_within.new.pages c.next_within.new.self c.next_within.ensures.stay

pub returns-in_err-entry-clause-damage : goal.returns-in_err-entry-clause-damage
returns-in_err-entry-clause-damage g c =
    let request = c.args.request.now in
    let curve = request.curve.now in
    let axes = g.C.Curve.axes curve in
    let bits = g.C.Curve.bits curve in
    let cell_of = g.C.Curve.cell_of curve in
    let meets = meets_box axes bits cell_of request.asked.now request.r in
    let has = has_key axes bits cell_of request.asked.now request.r in
    λ known.
    let bad : TellsOfWalk (g.P.Pages.page_at c.args.pages.now) (live_of g.P.Pages c.args.pages.now) c.args.root c.in_err-entry.field-0.0
    ⊎ TellsOfOne (g.R.Ruler.admitted (g.R.Ruler.kind c.args.ruler.now)) axes bits request.objects.now (g.P.Pages.page_at c.args.pages.now) request.collection
    (walk_left meets has (g.P.Pages.page_at c.args.pages.now) (begun c.args.root)) c.in_err-entry.field-0.0 =
    inl (tells_walk g.P.Pages g.R.Ruler meets has cell_of request.asked.now request.q.now request.r
    c.args.pages.now c.loop-cursor.pages c.args.ruler.now c.loop-cursor.ruler c.args.root c.loop-cursor.cursor c.new-found.result c.loop-cursor.found c.loop-cursor.invariant g.met.P.Pages.calm_chains c.next_within.new.pages c.next_within.new.self known c.in_err-entry.field-0.0
    (λ later sound. (c.in_err-entry.ensures.sound later sound).0) (λ later part. (c.in_err-entry.ensures.part later c.args.root part).0)) in
    search (rules, bad)

pub returns-in_err-verdict-clause-damage : goal.returns-in_err-verdict-clause-damage
returns-in_err-verdict-clause-damage g c =
    let request = c.args.request.now in
    let curve = request.curve.now in
    let axes = g.C.Curve.axes curve in
    let bits = g.C.Curve.bits curve in
    let cell_of = g.C.Curve.cell_of curve in
    let meets = meets_box axes bits cell_of request.asked.now request.r in
    let has = has_key axes bits cell_of request.asked.now request.r in
    λ known.
    let bad : TellsOfWalk (g.P.Pages.page_at c.args.pages.now) (live_of g.P.Pages c.args.pages.now) c.args.root c.in_err-verdict.field-0.0
    ⊎ TellsOfOne (g.R.Ruler.admitted (g.R.Ruler.kind c.args.ruler.now)) axes bits request.objects.now (g.P.Pages.page_at c.args.pages.now) request.collection
    (walk_left meets has (g.P.Pages.page_at c.args.pages.now) (begun c.args.root)) c.in_err-verdict.field-0.0 =
    inr (tells_one g.P.Pages g.R.Ruler meets has cell_of request.asked.now request.q.now request.r
    c.args.pages.now c.loop-cursor.pages c.args.ruler.now c.loop-cursor.ruler c.args.root c.loop-cursor.cursor c.new-found.result c.loop-cursor.found c.loop-cursor.invariant g.met.P.Pages.calm_chains c.next_within.new.pages c.next_within.new.self
    c.next_within.ensures.stay c.in-Some.entry
    (λ known. subst (λ (o : Option Entry). GivesNext (Ok o) (walk_left meets has (g.P.Pages.page_at c.loop-cursor.pages) c.loop-cursor.cursor) (walk_left meets has (g.P.Pages.page_at c.loop-cursor.pages) c.next_within.new.self))
    c.in-Some.is (c.in_ok-entry.ensures.gives known))
    axes bits request.objects.now request.collection known c.in_err-verdict.field-0.0 c.in_err-verdict.ensures.tells) in
    search (rules, bad)

pub returns-in_err-verdict-clause-ruler : goal.returns-in_err-verdict-clause-ruler
returns-in_err-verdict-clause-ruler g c =
    let request = c.args.request.now in
    let curve = request.curve.now in
    let axes = g.C.Curve.axes curve in
    let bits = g.C.Curve.bits curve in
    let cell_of = g.C.Curve.cell_of curve in
    let meets = meets_box axes bits cell_of request.asked.now request.r in
    let has = has_key axes bits cell_of request.asked.now request.r in
    let count = c.in_err-verdict.ensures.count in
    ruler_next g.P.Pages g.R.Ruler meets has cell_of request.asked.now request.q.now request.r
    c.args.pages.now c.loop-cursor.pages c.args.ruler.now c.loop-cursor.ruler c.args.root c.loop-cursor.cursor c.new-found.result c.loop-cursor.found c.loop-cursor.invariant g.met.P.Pages.calm_chains c.next_within.new.pages c.next_within.new.self c.judge.new.ruler c.judge.ensures.kind (omega (arith, count))

pub returns-in_err-verdict-clause-stay : goal.returns-in_err-verdict-clause-stay
returns-in_err-verdict-clause-stay g c =
    let request = c.args.request.now in
    let curve = request.curve.now in
    let axes = g.C.Curve.axes curve in
    let bits = g.C.Curve.bits curve in
    let cell_of = g.C.Curve.cell_of curve in
    let meets = meets_box axes bits cell_of request.asked.now request.r in
    let has = has_key axes bits cell_of request.asked.now request.r in
    stays_on g.P.Pages c.args.pages.now c.next_within.new.pages
    (stays_mid g.P.Pages g.R.Ruler meets has cell_of request.asked.now request.q.now request.r
    c.args.pages.now c.loop-cursor.pages c.args.ruler.now c.loop-cursor.ruler c.args.root c.loop-cursor.cursor c.new-found.result c.loop-cursor.found c.loop-cursor.invariant g.met.P.Pages.calm_chains c.next_within.new.pages c.next_within.new.self c.next_within.ensures.stay) g.met.P.Pages.calm_chains c.judge.new.pages c.judge.ensures.stay

pub returns-in_err-note-clause-ruler : goal.returns-in_err-note-clause-ruler
returns-in_err-note-clause-ruler g c =
    let request = c.args.request.now in
    let curve = request.curve.now in
    let axes = g.C.Curve.axes curve in
    let bits = g.C.Curve.bits curve in
    let cell_of = g.C.Curve.cell_of curve in
    let meets = meets_box axes bits cell_of request.asked.now request.r in
    let has = has_key axes bits cell_of request.asked.now request.r in
    let count = c.in_ok-verdict.ensures.count in
    ruler_next g.P.Pages g.R.Ruler meets has cell_of request.asked.now request.q.now request.r
    c.args.pages.now c.loop-cursor.pages c.args.ruler.now c.loop-cursor.ruler c.args.root c.loop-cursor.cursor c.new-found.result c.loop-cursor.found c.loop-cursor.invariant g.met.P.Pages.calm_chains c.next_within.new.pages c.next_within.new.self c.judge.new.ruler c.judge.ensures.kind (omega (arith, count))

pub returns-in_err-note-clause-stay : goal.returns-in_err-note-clause-stay
returns-in_err-note-clause-stay g c =
    let request = c.args.request.now in
    let curve = request.curve.now in
    let axes = g.C.Curve.axes curve in
    let bits = g.C.Curve.bits curve in
    let cell_of = g.C.Curve.cell_of curve in
    let meets = meets_box axes bits cell_of request.asked.now request.r in
    let has = has_key axes bits cell_of request.asked.now request.r in
    stays_on g.P.Pages c.args.pages.now c.next_within.new.pages
    (stays_mid g.P.Pages g.R.Ruler meets has cell_of request.asked.now request.q.now request.r
    c.args.pages.now c.loop-cursor.pages c.args.ruler.now c.loop-cursor.ruler c.args.root c.loop-cursor.cursor c.new-found.result c.loop-cursor.found c.loop-cursor.invariant g.met.P.Pages.calm_chains c.next_within.new.pages c.next_within.new.self c.next_within.ensures.stay) g.met.P.Pages.calm_chains c.judge.new.pages c.judge.ensures.stay

-- ---- the end

pub returns-clause-found : goal.returns-clause-found
returns-clause-found g c =
    let request = c.args.request.now in
    let curve = request.curve.now in
    let axes = g.C.Curve.axes curve in
    let bits = g.C.Curve.bits curve in
    let cell_of = g.C.Curve.cell_of curve in
    let meets = meets_box axes bits cell_of request.asked.now request.r in
    let has = has_key axes bits cell_of request.asked.now request.r in
    λ known.
    finds_all g.P.Pages g.R.Ruler meets has cell_of request.asked.now request.q.now request.r
    c.args.pages.now c.loop-cursor.pages c.args.ruler.now c.loop-cursor.ruler c.args.root c.loop-cursor.cursor c.new-found.result c.loop-cursor.found c.loop-cursor.invariant g.met.P.Pages.calm_chains c.next_within.new.pages c.next_within.new.self
    (λ known. subst (λ (o : Option Entry). GivesNext (Ok o) (walk_left meets has (g.P.Pages.page_at c.loop-cursor.pages) c.loop-cursor.cursor) (walk_left meets has (g.P.Pages.page_at c.loop-cursor.pages) c.next_within.new.self))
    c.in_default.is (c.in_ok-entry.ensures.gives known))
    c.in_ok-entry.ensures.nodes (subst (λ (o : Option Entry). IsOver (Ok o) c.next_within.new.self) c.in_default.is c.in_ok-entry.ensures.ended) c.next_within.ensures.fetches known
    c.new-found.ensures.kept c.new-found.ensures.evals c.new-found.ensures.sure

pub returns-clause-log : goal.returns-clause-log
returns-clause-log g c =
    let request = c.args.request.now in
    let curve = request.curve.now in
    let axes = g.C.Curve.axes curve in
    let bits = g.C.Curve.bits curve in
    let cell_of = g.C.Curve.cell_of curve in
    let meets = meets_box axes bits cell_of request.asked.now request.r in
    let has = has_key axes bits cell_of request.asked.now request.r in
    λ known.
    logs_all g.P.Pages g.R.Ruler meets has cell_of request.asked.now request.q.now request.r
    c.args.pages.now c.loop-cursor.pages c.args.ruler.now c.loop-cursor.ruler c.args.root c.loop-cursor.cursor c.new-found.result c.loop-cursor.found c.loop-cursor.invariant g.met.P.Pages.calm_chains c.next_within.new.pages c.next_within.new.self
    (λ known. subst (λ (o : Option Entry). GivesNext (Ok o) (walk_left meets has (g.P.Pages.page_at c.loop-cursor.pages) c.loop-cursor.cursor) (walk_left meets has (g.P.Pages.page_at c.loop-cursor.pages) c.next_within.new.self))
    c.in_default.is (c.in_ok-entry.ensures.gives known))
    c.in_ok-entry.ensures.nodes (subst (λ (o : Option Entry). IsOver (Ok o) c.next_within.new.self) c.in_default.is c.in_ok-entry.ensures.ended) c.next_within.ensures.fetches known

pub returns-clause-fetches : goal.returns-clause-fetches
returns-clause-fetches g c =
    let request = c.args.request.now in
    let curve = request.curve.now in
    let axes = g.C.Curve.axes curve in
    let bits = g.C.Curve.bits curve in
    let cell_of = g.C.Curve.cell_of curve in
    let meets = meets_box axes bits cell_of request.asked.now request.r in
    let has = has_key axes bits cell_of request.asked.now request.r in
    λ known.
    fetches_all g.P.Pages g.R.Ruler meets has cell_of request.asked.now request.q.now request.r
    c.args.pages.now c.loop-cursor.pages c.args.ruler.now c.loop-cursor.ruler c.args.root c.loop-cursor.cursor c.new-found.result c.loop-cursor.found c.loop-cursor.invariant g.met.P.Pages.calm_chains c.next_within.new.pages c.next_within.new.self
    (λ known. subst (λ (o : Option Entry). GivesNext (Ok o) (walk_left meets has (g.P.Pages.page_at c.loop-cursor.pages) c.loop-cursor.cursor) (walk_left meets has (g.P.Pages.page_at c.loop-cursor.pages) c.next_within.new.self))
    c.in_default.is (c.in_ok-entry.ensures.gives known))
    c.in_ok-entry.ensures.nodes (subst (λ (o : Option Entry). IsOver (Ok o) c.next_within.new.self) c.in_default.is c.in_ok-entry.ensures.ended) c.next_within.ensures.fetches known

pub returns-clause-few : goal.returns-clause-few
returns-clause-few g c =
    let request = c.args.request.now in
    let curve = request.curve.now in
    let axes = g.C.Curve.axes curve in
    let bits = g.C.Curve.bits curve in
    let cell_of = g.C.Curve.cell_of curve in
    let meets = meets_box axes bits cell_of request.asked.now request.r in
    let has = has_key axes bits cell_of request.asked.now request.r in
    few_found g.P.Pages g.R.Ruler meets has cell_of request.asked.now request.q.now request.r
    c.args.pages.now c.loop-cursor.pages c.args.ruler.now c.loop-cursor.ruler c.args.root c.loop-cursor.cursor c.new-found.result c.loop-cursor.found c.loop-cursor.invariant g.met.P.Pages.calm_chains c.next_within.new.pages c.next_within.new.self c.requires.height

pub returns-clause-ruler : goal.returns-clause-ruler
returns-clause-ruler g c =
    let request = c.args.request.now in
    let curve = request.curve.now in
    let axes = g.C.Curve.axes curve in
    let bits = g.C.Curve.bits curve in
    let cell_of = g.C.Curve.cell_of curve in
    let meets = meets_box axes bits cell_of request.asked.now request.r in
    let has = has_key axes bits cell_of request.asked.now request.r in
    ruler_on g.P.Pages g.R.Ruler meets has cell_of request.asked.now request.q.now request.r
    c.args.pages.now c.loop-cursor.pages c.args.ruler.now c.loop-cursor.ruler c.args.root c.loop-cursor.cursor c.new-found.result c.loop-cursor.found c.loop-cursor.invariant g.met.P.Pages.calm_chains c.next_within.new.pages c.next_within.new.self

pub returns-clause-stay : goal.returns-clause-stay
returns-clause-stay g c =
    let request = c.args.request.now in
    let curve = request.curve.now in
    let axes = g.C.Curve.axes curve in
    let bits = g.C.Curve.bits curve in
    let cell_of = g.C.Curve.cell_of curve in
    let meets = meets_box axes bits cell_of request.asked.now request.r in
    let has = has_key axes bits cell_of request.asked.now request.r in
    stays_mid g.P.Pages g.R.Ruler meets has cell_of request.asked.now request.q.now request.r
    c.args.pages.now c.loop-cursor.pages c.args.ruler.now c.loop-cursor.ruler c.args.root c.loop-cursor.cursor c.new-found.result c.loop-cursor.found c.loop-cursor.invariant g.met.P.Pages.calm_chains c.next_within.new.pages c.next_within.new.self c.next_within.ensures.stay

pub returns-clause-count : goal.returns-clause-count
returns-clause-count g c = c.loop-cursor.invariant.counted

pub returns-clause-fault : goal.returns-clause-fault
returns-clause-fault g c = let before = c.loop-cursor.invariant.faults in let now = c.in_ok-entry.ensures.fault in omega (arith, before, now)

-- ---- faults

pub returns-in_err-entry-clause-fault : goal.returns-in_err-entry-clause-fault
returns-in_err-entry-clause-fault g c =
    let bad : CountsTreeFault {A = Unit {0}} (Err c.in_err-entry.field-0.0) (g.P.Pages.faults c.args.pages.now) (g.P.Pages.faults c.next_within.new.pages) =
    faults_on (Unit {0}) (Err c.in_err-entry.field-0.0) (g.P.Pages.faults c.args.pages.now) (g.P.Pages.faults c.loop-cursor.pages) (g.P.Pages.faults c.next_within.new.pages)
    c.loop-cursor.invariant.faults c.in_err-entry.ensures.fault in
    search (rules, bad)

pub returns-in_err-verdict-clause-fault : goal.returns-in_err-verdict-clause-fault
returns-in_err-verdict-clause-fault g c =
    let before = c.loop-cursor.invariant.faults in
    let now = c.in_ok-entry.ensures.fault in
    let bad : CountsTreeFault {A = Unit {0}} (Err c.in_err-verdict.field-0.0) (g.P.Pages.faults c.args.pages.now) (g.P.Pages.faults c.judge.new.pages) =
    faults_on (Unit {0}) (Err c.in_err-verdict.field-0.0) (g.P.Pages.faults c.args.pages.now) (g.P.Pages.faults c.next_within.new.pages) (g.P.Pages.faults c.judge.new.pages)
    (omega (arith, before, now)) c.in_err-verdict.ensures.fault in
    search (rules, bad)

pub returns-in_err-note-clause-fault : goal.returns-in_err-note-clause-fault
returns-in_err-note-clause-fault g c =
    let before = c.loop-cursor.invariant.faults in
    let now = c.in_ok-entry.ensures.fault in
    let last = c.in_ok-verdict.ensures.fault in
    let counts : g.P.Pages.faults c.args.pages.now ≤ g.P.Pages.faults c.judge.new.pages = omega (arith, before, now, last) in
    search (rules, counts)
