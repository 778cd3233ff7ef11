use Rattle.std.proofs.Common.{rules, ◌≡◌, ℕ, ◌≤◌, Bool, List, [], ◌∷◌, ◌++◌, Option, Some, Ok, Err, length, sym, ap, subst, ◌∙◌, arith}
use Rattle.object_file.specs.ObjectFile.{HasSlots}
use Rattle.page_laws.specs.Errors.{CountsTreeFault}
use Rattle.bptree_node.specs.declared.rows.Entry.{Entry}
use Rattle.bptree_node.specs.Trees.{list_at, pages_at}
use Rattle.bptree_walk.specs.Courses.{Course, GivesNext, Falls, EndsAt, most_left, list_left, nodes_left}
use Rattle.bptree_walk.proofs.Staying.{live_of, stays_on, faults_on}
use Rattle.join_window.specs.declared.window.Reaching.{Reaching}
use Rattle.join_pass.specs.Damage.{TellsOfJoin, TellsJoinRule}
use Rattle.join_pass.proofs.Damages.{names_walk, names_entry}
use Rattle.join_pass.proofs.Passing.{passes_none, passes_on, stays_mid, goes_all, tests_all, fetches_all, few_evals, few_sure, ruler_on, ruler_next, room_left, room_evals, room_sure, tells_broken, tells_met}
use Rattle.join_pass.proofs.pass.pass_over.Goals as goal

-- ---- the beginning

pub loop-cursor-init : goal.loop-cursor-init
loop-cursor-init g c =
    passes_none g.P.Pages g.R.Ruler c.args.curve.now.n c.args.curve.now.b c.args.request.now.r g.met.P.Pages.calm_same c.args.pages.now c.args.ruler.now c.args.root
    c.begin.new.self c.new-window.result c.args.found.now c.args.steps.now c.requires.height c.begin.ensures.course c.new-window.ensures c.requires.evals c.requires.sure

-- ---- what the calls require

pub meet-requires-clause-cells : goal.meet-requires-clause-cells
meet-requires-clause-cells g c = c.loop-cursor.invariant.cells

pub meet-requires-clause-there : goal.meet-requires-clause-there
meet-requires-clause-there g c =
    subst (λ (has : ℕ → Bool). HasSlots has c.args.request.now.objects.now.cap)
    (sym (c.next_entry.ensures.stay.continues.map ∙ c.loop-cursor.invariant.stay.continues.map)) c.requires.there

pub meet-requires-clause-room : goal.meet-requires-clause-room
meet-requires-clause-room g c =
    room_left
    g.P.Pages g.R.Ruler c.args.curve.now.n c.args.curve.now.b c.args.request.now.r
    c.args.pages.now c.loop-cursor.pages c.args.ruler.now c.loop-cursor.ruler c.args.root c.loop-cursor.cursor c.loop-cursor.window c.args.found.now c.loop-cursor.found
    c.args.steps.now c.loop-cursor.steps c.loop-cursor.invariant g.met.P.Pages.calm_chains c.next_entry.new.pages c.next_entry.new.self c.requires.room

pub meet-requires-clause-evals : goal.meet-requires-clause-evals
meet-requires-clause-evals g c =
    room_evals
    g.P.Pages g.R.Ruler c.args.curve.now.n c.args.curve.now.b c.args.request.now.r
    c.args.pages.now c.loop-cursor.pages c.args.ruler.now c.loop-cursor.ruler c.args.root c.loop-cursor.cursor c.loop-cursor.window c.args.found.now c.loop-cursor.found
    c.args.steps.now c.loop-cursor.steps c.loop-cursor.invariant g.met.P.Pages.calm_chains c.next_entry.new.pages c.next_entry.new.self

pub meet-requires-clause-sure : goal.meet-requires-clause-sure
meet-requires-clause-sure g c =
    room_sure
    g.P.Pages g.R.Ruler c.args.curve.now.n c.args.curve.now.b c.args.request.now.r
    c.args.pages.now c.loop-cursor.pages c.args.ruler.now c.loop-cursor.ruler c.args.root c.loop-cursor.cursor c.loop-cursor.window c.args.found.now c.loop-cursor.found
    c.args.steps.now c.loop-cursor.steps c.loop-cursor.invariant g.met.P.Pages.calm_chains c.next_entry.new.pages c.next_entry.new.self

-- ---- one entry more

pub loop-cursor-preserved : goal.loop-cursor-preserved
loop-cursor-preserved g c =
    let falls : Falls (Ok (Some c.in-Some.entry)) (most_left c.loop-cursor.cursor) (most_left c.next_entry.new.self) =
    subst (λ (o : Option Entry). Falls (Ok o) (most_left c.loop-cursor.cursor) (most_left c.next_entry.new.self)) c.in-Some.is c.in_ok-entry.ensures.limit in
    passes_on
    g.P.Pages g.R.Ruler c.args.curve.now.n c.args.curve.now.b c.args.request.now.r
    c.args.pages.now c.loop-cursor.pages c.args.ruler.now c.loop-cursor.ruler c.args.root c.loop-cursor.cursor c.loop-cursor.window c.args.found.now c.loop-cursor.found
    c.args.steps.now c.loop-cursor.steps c.loop-cursor.invariant g.met.P.Pages.calm_chains c.next_entry.new.pages c.next_entry.new.self
    c.next_entry.ensures.stay c.in-Some.entry
    (λ known. subst (λ (o : Option Entry). GivesNext (Ok o) (list_left (g.P.Pages.page_at c.loop-cursor.pages) c.loop-cursor.cursor) (list_left (g.P.Pages.page_at c.loop-cursor.pages) c.next_entry.new.self))
    c.in-Some.is (c.in_ok-entry.ensures.gives known))
    c.meet.new.pages c.meet.new.ruler c.meet.new.found c.in_ok-later.later c.add.new.self c.meet.new.steps c.in_ok-entry.ensures.nodes falls
    (record { least = c.next_entry.ensures.fetched; fetches = c.next_entry.ensures.fetches })
    (λ known sound. (c.in_ok-entry.ensures.sound known sound).1) (λ known part. (c.in_ok-entry.ensures.part known c.args.root part).1) c.in_ok-entry.ensures.fault
    c.in_ok-later.ensures.is c.in_ok-later.ensures.axes
    (c.in_ok-add.ensures.added ∙ ap (λ (w : List Reaching). w ++ c.in_ok-later.later ∷ []) c.in_ok-later.ensures.window)
    c.in_ok-later.ensures.goes c.in_ok-later.ensures.tallies c.in_ok-later.ensures.steps c.meet.ensures.ruler.0 c.in_ok-later.ensures.fetches c.meet.ensures.stay
    c.in_ok-later.ensures.fault

-- ---- the end

pub returns-clause-goes : goal.returns-clause-goes
returns-clause-goes g c = λ known.
    goes_all
    g.P.Pages g.R.Ruler c.args.curve.now.n c.args.curve.now.b c.args.request.now.r
    c.args.pages.now c.loop-cursor.pages c.args.ruler.now c.loop-cursor.ruler c.args.root c.loop-cursor.cursor c.loop-cursor.window c.args.found.now c.loop-cursor.found
    c.args.steps.now c.loop-cursor.steps c.loop-cursor.invariant g.met.P.Pages.calm_chains c.next_entry.new.pages c.next_entry.new.self
    (λ known. subst (λ (o : Option Entry). GivesNext (Ok o) (list_left (g.P.Pages.page_at c.loop-cursor.pages) c.loop-cursor.cursor) (list_left (g.P.Pages.page_at c.loop-cursor.pages) c.next_entry.new.self))
    c.in_default.is (c.in_ok-entry.ensures.gives known))
    c.in_ok-entry.ensures.nodes (λ held. subst (λ (o : Option Entry). EndsAt (Ok o) (nodes_left held c.next_entry.new.self)) c.in_default.is (c.in_ok-entry.ensures.ended held))
    (record { least = c.next_entry.ensures.fetched; fetches = c.next_entry.ensures.fetches })
    (λ held. subst (λ (x : Course). list_left held x ≡ list_at held c.args.root) c.begin.ensures.course (c.begin.ensures.list held))
    (λ held. subst (λ (x : Course). nodes_left held x ≡ length (pages_at held c.args.root)) c.begin.ensures.course (c.begin.ensures.nodes held)) known

pub returns-clause-steps : goal.returns-clause-steps
returns-clause-steps g c = λ known.
    tests_all
    g.P.Pages g.R.Ruler c.args.curve.now.n c.args.curve.now.b c.args.request.now.r
    c.args.pages.now c.loop-cursor.pages c.args.ruler.now c.loop-cursor.ruler c.args.root c.loop-cursor.cursor c.loop-cursor.window c.args.found.now c.loop-cursor.found
    c.args.steps.now c.loop-cursor.steps c.loop-cursor.invariant g.met.P.Pages.calm_chains c.next_entry.new.pages c.next_entry.new.self
    (λ known. subst (λ (o : Option Entry). GivesNext (Ok o) (list_left (g.P.Pages.page_at c.loop-cursor.pages) c.loop-cursor.cursor) (list_left (g.P.Pages.page_at c.loop-cursor.pages) c.next_entry.new.self))
    c.in_default.is (c.in_ok-entry.ensures.gives known))
    c.in_ok-entry.ensures.nodes (λ held. subst (λ (o : Option Entry). EndsAt (Ok o) (nodes_left held c.next_entry.new.self)) c.in_default.is (c.in_ok-entry.ensures.ended held))
    (record { least = c.next_entry.ensures.fetched; fetches = c.next_entry.ensures.fetches })
    (λ held. subst (λ (x : Course). list_left held x ≡ list_at held c.args.root) c.begin.ensures.course (c.begin.ensures.list held))
    (λ held. subst (λ (x : Course). nodes_left held x ≡ length (pages_at held c.args.root)) c.begin.ensures.course (c.begin.ensures.nodes held)) known

pub returns-clause-fetches : goal.returns-clause-fetches
returns-clause-fetches g c = λ known.
    fetches_all
    g.P.Pages g.R.Ruler c.args.curve.now.n c.args.curve.now.b c.args.request.now.r
    c.args.pages.now c.loop-cursor.pages c.args.ruler.now c.loop-cursor.ruler c.args.root c.loop-cursor.cursor c.loop-cursor.window c.args.found.now c.loop-cursor.found
    c.args.steps.now c.loop-cursor.steps c.loop-cursor.invariant g.met.P.Pages.calm_chains c.next_entry.new.pages c.next_entry.new.self
    (λ known. subst (λ (o : Option Entry). GivesNext (Ok o) (list_left (g.P.Pages.page_at c.loop-cursor.pages) c.loop-cursor.cursor) (list_left (g.P.Pages.page_at c.loop-cursor.pages) c.next_entry.new.self))
    c.in_default.is (c.in_ok-entry.ensures.gives known))
    c.in_ok-entry.ensures.nodes (λ held. subst (λ (o : Option Entry). EndsAt (Ok o) (nodes_left held c.next_entry.new.self)) c.in_default.is (c.in_ok-entry.ensures.ended held))
    (record { least = c.next_entry.ensures.fetched; fetches = c.next_entry.ensures.fetches })
    (λ held. subst (λ (x : Course). list_left held x ≡ list_at held c.args.root) c.begin.ensures.course (c.begin.ensures.list held))
    (λ held. subst (λ (x : Course). nodes_left held x ≡ length (pages_at held c.args.root)) c.begin.ensures.course (c.begin.ensures.nodes held)) known

pub returns-clause-few : goal.returns-clause-few
returns-clause-few g c =
    few_evals
    g.P.Pages g.R.Ruler c.args.curve.now.n c.args.curve.now.b c.args.request.now.r
    c.args.pages.now c.loop-cursor.pages c.args.ruler.now c.loop-cursor.ruler c.args.root c.loop-cursor.cursor c.loop-cursor.window c.args.found.now c.loop-cursor.found
    c.args.steps.now c.loop-cursor.steps c.loop-cursor.invariant g.met.P.Pages.calm_chains c.next_entry.new.pages c.next_entry.new.self

pub returns-clause-few_sure : goal.returns-clause-few_sure
returns-clause-few_sure g c =
    few_sure
    g.P.Pages g.R.Ruler c.args.curve.now.n c.args.curve.now.b c.args.request.now.r
    c.args.pages.now c.loop-cursor.pages c.args.ruler.now c.loop-cursor.ruler c.args.root c.loop-cursor.cursor c.loop-cursor.window c.args.found.now c.loop-cursor.found
    c.args.steps.now c.loop-cursor.steps c.loop-cursor.invariant g.met.P.Pages.calm_chains c.next_entry.new.pages c.next_entry.new.self

pub returns-clause-counted : goal.returns-clause-counted
returns-clause-counted g c = c.loop-cursor.invariant.counted

pub returns-clause-ruler : goal.returns-clause-ruler
returns-clause-ruler g c =
    ruler_on
    g.P.Pages g.R.Ruler c.args.curve.now.n c.args.curve.now.b c.args.request.now.r
    c.args.pages.now c.loop-cursor.pages c.args.ruler.now c.loop-cursor.ruler c.args.root c.loop-cursor.cursor c.loop-cursor.window c.args.found.now c.loop-cursor.found
    c.args.steps.now c.loop-cursor.steps c.loop-cursor.invariant g.met.P.Pages.calm_chains c.next_entry.new.pages c.next_entry.new.self

pub returns-clause-stay : goal.returns-clause-stay
returns-clause-stay g c =
    stays_mid
    g.P.Pages g.R.Ruler c.args.curve.now.n c.args.curve.now.b c.args.request.now.r
    c.args.pages.now c.loop-cursor.pages c.args.ruler.now c.loop-cursor.ruler c.args.root c.loop-cursor.cursor c.loop-cursor.window c.args.found.now c.loop-cursor.found
    c.args.steps.now c.loop-cursor.steps c.loop-cursor.invariant g.met.P.Pages.calm_chains c.next_entry.new.pages c.next_entry.new.self c.next_entry.ensures.stay

pub returns-clause-fault : goal.returns-clause-fault
returns-clause-fault g c = let before = c.loop-cursor.invariant.faults in let now = c.in_ok-entry.ensures.fault in omega (arith, before, now)

-- ---- the cursor broke off

pub returns-in_err-entry-clause-ruler : goal.returns-in_err-entry-clause-ruler
returns-in_err-entry-clause-ruler g c =
    ruler_on
    g.P.Pages g.R.Ruler c.args.curve.now.n c.args.curve.now.b c.args.request.now.r
    c.args.pages.now c.loop-cursor.pages c.args.ruler.now c.loop-cursor.ruler c.args.root c.loop-cursor.cursor c.loop-cursor.window c.args.found.now c.loop-cursor.found
    c.args.steps.now c.loop-cursor.steps c.loop-cursor.invariant g.met.P.Pages.calm_chains c.next_entry.new.pages c.next_entry.new.self

pub returns-in_err-entry-clause-stay : goal.returns-in_err-entry-clause-stay
returns-in_err-entry-clause-stay g c =
    stays_mid
    g.P.Pages g.R.Ruler c.args.curve.now.n c.args.curve.now.b c.args.request.now.r
    c.args.pages.now c.loop-cursor.pages c.args.ruler.now c.loop-cursor.ruler c.args.root c.loop-cursor.cursor c.loop-cursor.window c.args.found.now c.loop-cursor.found
    c.args.steps.now c.loop-cursor.steps c.loop-cursor.invariant g.met.P.Pages.calm_chains c.next_entry.new.pages c.next_entry.new.self c.next_entry.ensures.stay

pub returns-in_err-entry-clause-tells : goal.returns-in_err-entry-clause-tells
returns-in_err-entry-clause-tells g c = λ known.
    let bad : TellsOfJoin (g.R.Ruler.admitted (g.R.Ruler.kind c.args.ruler.now)) c.args.curve.now.n c.args.curve.now.b c.args.request.now.objects.now (g.P.Pages.page_at c.args.pages.now)
    (live_of g.P.Pages c.args.pages.now) c.args.request.now.left c.args.root c.in_err-entry.field-0.0 =
    tells_broken
    g.P.Pages g.R.Ruler c.args.curve.now.n c.args.curve.now.b c.args.request.now.r
    c.args.pages.now c.loop-cursor.pages c.args.ruler.now c.loop-cursor.ruler c.args.root c.loop-cursor.cursor c.loop-cursor.window c.args.found.now c.loop-cursor.found
    c.args.steps.now c.loop-cursor.steps c.loop-cursor.invariant g.met.P.Pages.calm_chains c.next_entry.new.pages c.next_entry.new.self
    (λ held. subst (λ (x : Course). list_left held x ≡ list_at held c.args.root) c.begin.ensures.course (c.begin.ensures.list held))
    c.args.request.now.objects.now c.args.request.now.left known c.in_err-entry.field-0.0
    (λ later sound. (c.in_err-entry.ensures.sound later sound).0) (λ later part. (c.in_err-entry.ensures.part later c.args.root part).0) in
    search (rules, bad)

pub returns-in_err-entry-clause-names : goal.returns-in_err-entry-clause-names
returns-in_err-entry-clause-names g c =
    let bad : TellsJoinRule c.args.request.now.objects.now c.in_err-entry.field-0.0 =
    names_walk c.args.request.now.objects.now c.in_err-entry.field-0.0 c.in_err-entry.ensures.names in
    search (rules, bad)

pub returns-in_err-entry-clause-fault : goal.returns-in_err-entry-clause-fault
returns-in_err-entry-clause-fault g c =
    let bad : CountsTreeFault {A = Unit {0}} (Err c.in_err-entry.field-0.0) (g.P.Pages.faults c.args.pages.now) (g.P.Pages.faults c.next_entry.new.pages) =
    faults_on (Unit {0}) (Err c.in_err-entry.field-0.0) (g.P.Pages.faults c.args.pages.now) (g.P.Pages.faults c.loop-cursor.pages) (g.P.Pages.faults c.next_entry.new.pages)
    c.loop-cursor.invariant.faults c.in_err-entry.ensures.fault in
    search (rules, bad)

-- ---- a pair could not be judged

pub returns-in_err-later-clause-ruler : goal.returns-in_err-later-clause-ruler
returns-in_err-later-clause-ruler g c =
    ruler_next
    g.P.Pages g.R.Ruler c.args.curve.now.n c.args.curve.now.b c.args.request.now.r
    c.args.pages.now c.loop-cursor.pages c.args.ruler.now c.loop-cursor.ruler c.args.root c.loop-cursor.cursor c.loop-cursor.window c.args.found.now c.loop-cursor.found
    c.args.steps.now c.loop-cursor.steps c.loop-cursor.invariant g.met.P.Pages.calm_chains c.next_entry.new.pages c.next_entry.new.self c.meet.new.ruler c.meet.ensures.ruler.0 c.meet.ensures.ruler.1

pub returns-in_err-later-clause-stay : goal.returns-in_err-later-clause-stay
returns-in_err-later-clause-stay g c =
    stays_on g.P.Pages c.args.pages.now c.next_entry.new.pages
    (stays_mid
    g.P.Pages g.R.Ruler c.args.curve.now.n c.args.curve.now.b c.args.request.now.r
    c.args.pages.now c.loop-cursor.pages c.args.ruler.now c.loop-cursor.ruler c.args.root c.loop-cursor.cursor c.loop-cursor.window c.args.found.now c.loop-cursor.found
    c.args.steps.now c.loop-cursor.steps c.loop-cursor.invariant g.met.P.Pages.calm_chains c.next_entry.new.pages c.next_entry.new.self c.next_entry.ensures.stay) g.met.P.Pages.calm_chains c.meet.new.pages c.meet.ensures.stay

pub returns-in_err-later-clause-tells : goal.returns-in_err-later-clause-tells
returns-in_err-later-clause-tells g c = λ known.
    let bad : TellsOfJoin (g.R.Ruler.admitted (g.R.Ruler.kind c.args.ruler.now)) c.args.curve.now.n c.args.curve.now.b c.args.request.now.objects.now (g.P.Pages.page_at c.args.pages.now)
    (live_of g.P.Pages c.args.pages.now) c.args.request.now.left c.args.root c.in_err-later.field-0.0 =
    tells_met
    g.P.Pages g.R.Ruler c.args.curve.now.n c.args.curve.now.b c.args.request.now.r
    c.args.pages.now c.loop-cursor.pages c.args.ruler.now c.loop-cursor.ruler c.args.root c.loop-cursor.cursor c.loop-cursor.window c.args.found.now c.loop-cursor.found
    c.args.steps.now c.loop-cursor.steps c.loop-cursor.invariant g.met.P.Pages.calm_chains c.next_entry.new.pages c.next_entry.new.self
    c.next_entry.ensures.stay c.in-Some.entry
    (λ known. subst (λ (o : Option Entry). GivesNext (Ok o) (list_left (g.P.Pages.page_at c.loop-cursor.pages) c.loop-cursor.cursor) (list_left (g.P.Pages.page_at c.loop-cursor.pages) c.next_entry.new.self))
    c.in-Some.is (c.in_ok-entry.ensures.gives known))
    (λ held. subst (λ (x : Course). list_left held x ≡ list_at held c.args.root) c.begin.ensures.course (c.begin.ensures.list held))
    c.args.request.now.objects.now c.args.request.now.left c.args.request.now.right c.requires.one known c.in_err-later.field-0.0 c.in_err-later.ensures.tells in
    search (rules, bad)

pub returns-in_err-later-clause-names : goal.returns-in_err-later-clause-names
returns-in_err-later-clause-names g c =
    let bad : TellsJoinRule c.args.request.now.objects.now c.in_err-later.field-0.0 =
    names_entry c.args.request.now.objects.now c.in_err-later.field-0.0 c.in_err-later.ensures.names in
    search (rules, bad)

pub returns-in_err-later-clause-fault : goal.returns-in_err-later-clause-fault
returns-in_err-later-clause-fault g c =
    let before = c.loop-cursor.invariant.faults in
    let now = c.in_ok-entry.ensures.fault in
    let bad : CountsTreeFault {A = Unit {0}} (Err c.in_err-later.field-0.0) (g.P.Pages.faults c.args.pages.now) (g.P.Pages.faults c.meet.new.pages) =
    faults_on (Unit {0}) (Err c.in_err-later.field-0.0) (g.P.Pages.faults c.args.pages.now) (g.P.Pages.faults c.next_entry.new.pages) (g.P.Pages.faults c.meet.new.pages)
    (omega (arith, before, now)) c.in_err-later.ensures.fault in
    search (rules, bad)

-- ---- no memory for the window

pub returns-in_err-add-clause-ruler : goal.returns-in_err-add-clause-ruler
returns-in_err-add-clause-ruler g c =
    ruler_next
    g.P.Pages g.R.Ruler c.args.curve.now.n c.args.curve.now.b c.args.request.now.r
    c.args.pages.now c.loop-cursor.pages c.args.ruler.now c.loop-cursor.ruler c.args.root c.loop-cursor.cursor c.loop-cursor.window c.args.found.now c.loop-cursor.found
    c.args.steps.now c.loop-cursor.steps c.loop-cursor.invariant g.met.P.Pages.calm_chains c.next_entry.new.pages c.next_entry.new.self c.meet.new.ruler c.meet.ensures.ruler.0 c.meet.ensures.ruler.1

pub returns-in_err-add-clause-stay : goal.returns-in_err-add-clause-stay
returns-in_err-add-clause-stay g c =
    stays_on g.P.Pages c.args.pages.now c.next_entry.new.pages
    (stays_mid
    g.P.Pages g.R.Ruler c.args.curve.now.n c.args.curve.now.b c.args.request.now.r
    c.args.pages.now c.loop-cursor.pages c.args.ruler.now c.loop-cursor.ruler c.args.root c.loop-cursor.cursor c.loop-cursor.window c.args.found.now c.loop-cursor.found
    c.args.steps.now c.loop-cursor.steps c.loop-cursor.invariant g.met.P.Pages.calm_chains c.next_entry.new.pages c.next_entry.new.self c.next_entry.ensures.stay) g.met.P.Pages.calm_chains c.meet.new.pages c.meet.ensures.stay

pub returns-in_err-add-clause-fault : goal.returns-in_err-add-clause-fault
returns-in_err-add-clause-fault g c =
    let before = c.loop-cursor.invariant.faults in
    let now = c.in_ok-entry.ensures.fault in
    let last = c.in_ok-later.ensures.fault in
    let counts : g.P.Pages.faults c.args.pages.now ≤ g.P.Pages.faults c.meet.new.pages = omega (arith, before, now, last) in
    search (rules, counts)
