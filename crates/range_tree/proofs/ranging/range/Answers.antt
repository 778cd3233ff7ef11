use Rattle.std.proofs.Common.{rules, ◌≡◌, ℕ, ◌+◌, ◌-◌, List, length, get_or, ap, subst, ◌∙◌, arith}
use Rattle.std.specs.Prelude.{◌⊎◌}
use Rattle.metric_laws.specs.Log.{LogExtends}
use Rattle.page_laws.specs.Errors.{TellsNoDamage}
use Rattle.page_laws.specs.Pages.{is_live, count_after}
use Rattle.page_laws.specs.declared.root.Root.{Root}
use Rattle.bptree_node.specs.declared.rows.Entry.{Entry}
use Rattle.bptree_node.specs.Trees.{visited_at}
use Rattle.pivot_map.specs.BoundLaws.{bounds_hold}
use Rattle.spb_defs.specs.Pivots.{vector_of}
use Rattle.query_shelf.specs.Regions.{meets_box}
use Rattle.query_shelf.specs.Shelved.{no_root, root_of}
use Rattle.range_entries.specs.Entries.{verdict_at}
use Rattle.range_tree.specs.Ranges.{FindsAmong, TellsOfWalk, TellsOfOne, entries_in_range, pairs_measured}
use Rattle.range_tree.proofs.Ends.{range-answer, range-log, range-sound}
use Rattle.range_tree.proofs.ranging.range.Goals as goal

pub returns-clause-answer : goal.returns-clause-answer
returns-clause-answer g c =
    let ruler = g.R.Ruler in
    let kind = ruler.kind c.args.ruler.now in
    let shelf = c.args.shelf.now in
    let curve = shelf.curve.now in
    let axes = g.C.Curve.axes curve in
    let bits = g.C.Curve.bits curve in
    let key_of = g.C.Curve.key_of curve in
    let cell_of = g.C.Curve.cell_of curve in
    let pages = g.P.Pages.page_at shelf.pages.now in
    let live = is_live (g.P.Pages.in_pool shelf.pages.now) (g.P.Pages.free shelf.pages.now) in
    let asked = c.map_object-asked.result in
    let root = root_of g.P.Pages g.C.Curve shelf c.args.collection in
    let root_at : ℕ → Root = λ n. get_or shelf.roots n no_root in
    let ranged = entries_in_range axes bits cell_of asked c.args.r pages root in
    let ranged_at : ℕ → List Entry = λ n. entries_in_range axes bits cell_of asked c.args.r pages (root_at n) in
    let bounds = bounds_hold (ruler.admitted kind) (ruler.dist kind) (g.met.R.Ruler.ruler_laws kind) shelf.pivots.now c.requires.shelf.pivots.objects in
    λ held known holds are.
    let finds : FindsAmong (verdict_at (ruler.dist kind) cell_of asked c.args.q.now c.args.r pages) ranged c.in_ok-found.found =
    subst (λ (n : ℕ). FindsAmong (verdict_at (ruler.dist kind) cell_of asked c.args.q.now c.args.r pages) (ranged_at n) c.in_ok-found.found) c.from.ensures
    (subst (λ (k : ruler.Kind). FindsAmong (verdict_at (ruler.dist k) cell_of asked c.args.q.now c.args.r pages) (ranged_at c.from.result) c.in_ok-found.found)
    c.map_object-asked.ensures.kind (c.in_ok-found.ensures.found known)) in
    range-answer (ruler.admitted kind) (ruler.dist kind) shelf.pivots.now bounds axes bits key_of cell_of (g.met.C.Curve.curve_laws curve) pages live shelf.objects.now c.args.collection root held
    holds are c.args.q.now asked c.args.r c.requires.query c.map_object-asked.ensures.vector (c.ranges_cover_their_keys.ensures pages root asked c.args.r)
    c.in_ok-found.found finds _ (c.from-2.ensures ∙ c.arrange_ids.ensures)

pub returns-clause-log : goal.returns-clause-log
returns-clause-log g c =
    let ruler = g.R.Ruler in
    let kind = ruler.kind c.args.ruler.now in
    let shelf = c.args.shelf.now in
    let curve = shelf.curve.now in
    let axes = g.C.Curve.axes curve in
    let bits = g.C.Curve.bits curve in
    let key_of = g.C.Curve.key_of curve in
    let cell_of = g.C.Curve.cell_of curve in
    let pages = g.P.Pages.page_at shelf.pages.now in
    let live = is_live (g.P.Pages.in_pool shelf.pages.now) (g.P.Pages.free shelf.pages.now) in
    let asked = c.map_object-asked.result in
    let root = root_of g.P.Pages g.C.Curve shelf c.args.collection in
    let root_at : ℕ → Root = λ n. get_or shelf.roots n no_root in
    let ranged = entries_in_range axes bits cell_of asked c.args.r pages root in
    let ranged_at : ℕ → List Entry = λ n. entries_in_range axes bits cell_of asked c.args.r pages (root_at n) in
    let bounds = bounds_hold (ruler.admitted kind) (ruler.dist kind) (g.met.R.Ruler.ruler_laws kind) shelf.pivots.now c.requires.shelf.pivots.objects in
    λ held known holds are.
    let log = ruler.log c.map_object-asked.new.ruler in
    let log' = ruler.log c.found_within.new.ruler in
    let measures : LogExtends log log' (pairs_measured (verdict_at (ruler.dist kind) cell_of asked c.args.q.now c.args.r pages) c.args.q.now pages ranged) =
    subst (λ (n : ℕ). LogExtends log log' (pairs_measured (verdict_at (ruler.dist kind) cell_of asked c.args.q.now c.args.r pages) c.args.q.now pages (ranged_at n))) c.from.ensures
    (subst (λ (k : ruler.Kind). LogExtends log log' (pairs_measured (verdict_at (ruler.dist k) cell_of asked c.args.q.now c.args.r pages) c.args.q.now pages (ranged_at c.from.result)))
    c.map_object-asked.ensures.kind (c.in_ok-found.ensures.log known)) in
    range-log (ruler.admitted kind) (ruler.dist kind) shelf.pivots.now bounds axes bits key_of cell_of (g.met.C.Curve.curve_laws curve) pages live shelf.objects.now c.args.collection root held
    holds are c.args.q.now asked c.args.r c.requires.query c.map_object-asked.ensures.vector (c.ranges_cover_their_keys.ensures pages root asked c.args.r)
    (ruler.log c.args.ruler.now) log log' c.map_object-asked.ensures.log measures

pub returns-clause-fetches : goal.returns-clause-fetches
returns-clause-fetches g c =
    let ruler = g.R.Ruler in
    let kind = ruler.kind c.args.ruler.now in
    let shelf = c.args.shelf.now in
    let curve = shelf.curve.now in
    let axes = g.C.Curve.axes curve in
    let bits = g.C.Curve.bits curve in
    let key_of = g.C.Curve.key_of curve in
    let cell_of = g.C.Curve.cell_of curve in
    let pages = g.P.Pages.page_at shelf.pages.now in
    let live = is_live (g.P.Pages.in_pool shelf.pages.now) (g.P.Pages.free shelf.pages.now) in
    let asked = c.map_object-asked.result in
    let root = root_of g.P.Pages g.C.Curve shelf c.args.collection in
    let root_at : ℕ → Root = λ n. get_or shelf.roots n no_root in
    let ranged = entries_in_range axes bits cell_of asked c.args.r pages root in
    let ranged_at : ℕ → List Entry = λ n. entries_in_range axes bits cell_of asked c.args.r pages (root_at n) in
    λ known.
    let evals : c.in_ok-found.found.evals ≡ length shelf.pivots.now + c.in_ok-found.found.evals - length shelf.pivots.now = omega arith in
    subst (λ (v : List ℕ). g.P.Pages.fetches c.found_within.new.pages ≡ count_after (g.P.Pages.fetches shelf.pages.now)
    (visited_at (meets_box axes bits cell_of v c.args.r) pages root + (length shelf.pivots.now + c.in_ok-found.found.evals - length shelf.pivots.now))) c.map_object-asked.ensures.vector
    (subst (λ (n : ℕ). g.P.Pages.fetches c.found_within.new.pages ≡ count_after (g.P.Pages.fetches shelf.pages.now)
    (visited_at (meets_box axes bits cell_of asked c.args.r) pages (root_at n) + c.in_ok-found.found.evals)) c.from.ensures (c.in_ok-found.ensures.fetches known) ∙ ap (λ n. count_after (g.P.Pages.fetches shelf.pages.now) (visited_at (meets_box axes bits cell_of asked c.args.r) pages root + n)) evals)

pub returns-in_err-found-clause-damage : goal.returns-in_err-found-clause-damage
returns-in_err-found-clause-damage g c =
    let ruler = g.R.Ruler in
    let kind = ruler.kind c.args.ruler.now in
    let shelf = c.args.shelf.now in
    let curve = shelf.curve.now in
    let axes = g.C.Curve.axes curve in
    let bits = g.C.Curve.bits curve in
    let key_of = g.C.Curve.key_of curve in
    let cell_of = g.C.Curve.cell_of curve in
    let pages = g.P.Pages.page_at shelf.pages.now in
    let live = is_live (g.P.Pages.in_pool shelf.pages.now) (g.P.Pages.free shelf.pages.now) in
    let asked = c.map_object-asked.result in
    let root = root_of g.P.Pages g.C.Curve shelf c.args.collection in
    let root_at : ℕ → Root = λ n. get_or shelf.roots n no_root in
    let ranged = entries_in_range axes bits cell_of asked c.args.r pages root in
    let ranged_at : ℕ → List Entry = λ n. entries_in_range axes bits cell_of asked c.args.r pages (root_at n) in
    λ known.
    let told : TellsOfWalk pages live (root) c.in_err-found.field-0.0 ⊎ TellsOfOne (ruler.admitted kind) axes bits shelf.objects.now pages c.args.collection (ranged) c.in_err-found.field-0.0 =
    subst (λ (n : ℕ). TellsOfWalk pages live (root_at n) c.in_err-found.field-0.0 ⊎ TellsOfOne (ruler.admitted kind) axes bits shelf.objects.now pages c.args.collection (ranged_at n) c.in_err-found.field-0.0) c.from.ensures
    (subst (λ (k : ruler.Kind). TellsOfWalk pages live (root_at c.from.result) c.in_err-found.field-0.0 ⊎ TellsOfOne (ruler.admitted k) axes bits shelf.objects.now pages c.args.collection (ranged_at c.from.result) c.in_err-found.field-0.0)
    c.map_object-asked.ensures.kind (c.in_err-found.ensures.damage known)) in
    let bad : TellsOfWalk pages live (root) c.in_err-found.field-0.0 ⊎ TellsOfOne (ruler.admitted kind) axes bits shelf.objects.now pages c.args.collection (entries_in_range axes bits cell_of (vector_of (ruler.dist kind) shelf.pivots.now c.args.q.now) c.args.r pages root) c.in_err-found.field-0.0 =
    subst (λ (v : List ℕ). TellsOfWalk pages live (root) c.in_err-found.field-0.0 ⊎ TellsOfOne (ruler.admitted kind) axes bits shelf.objects.now pages c.args.collection (entries_in_range axes bits cell_of v c.args.r pages root) c.in_err-found.field-0.0) c.map_object-asked.ensures.vector told in
    search (rules, bad)

pub returns-in_err-found-clause-sound : goal.returns-in_err-found-clause-sound
returns-in_err-found-clause-sound g c =
    let ruler = g.R.Ruler in
    let kind = ruler.kind c.args.ruler.now in
    let shelf = c.args.shelf.now in
    let curve = shelf.curve.now in
    let axes = g.C.Curve.axes curve in
    let bits = g.C.Curve.bits curve in
    let key_of = g.C.Curve.key_of curve in
    let cell_of = g.C.Curve.cell_of curve in
    let pages = g.P.Pages.page_at shelf.pages.now in
    let live = is_live (g.P.Pages.in_pool shelf.pages.now) (g.P.Pages.free shelf.pages.now) in
    let asked = c.map_object-asked.result in
    let root = root_of g.P.Pages g.C.Curve shelf c.args.collection in
    let root_at : ℕ → Root = λ n. get_or shelf.roots n no_root in
    let ranged = entries_in_range axes bits cell_of asked c.args.r pages root in
    let ranged_at : ℕ → List Entry = λ n. entries_in_range axes bits cell_of asked c.args.r pages (root_at n) in
    let bounds = bounds_hold (ruler.admitted kind) (ruler.dist kind) (g.met.R.Ruler.ruler_laws kind) shelf.pivots.now c.requires.shelf.pivots.objects in
    λ held known holds are.
    let told : TellsOfWalk pages live (root) c.in_err-found.field-0.0 ⊎ TellsOfOne (ruler.admitted kind) axes bits shelf.objects.now pages c.args.collection (ranged) c.in_err-found.field-0.0 =
    subst (λ (n : ℕ). TellsOfWalk pages live (root_at n) c.in_err-found.field-0.0 ⊎ TellsOfOne (ruler.admitted kind) axes bits shelf.objects.now pages c.args.collection (ranged_at n) c.in_err-found.field-0.0) c.from.ensures
    (subst (λ (k : ruler.Kind). TellsOfWalk pages live (root_at c.from.result) c.in_err-found.field-0.0 ⊎ TellsOfOne (ruler.admitted k) axes bits shelf.objects.now pages c.args.collection (ranged_at c.from.result) c.in_err-found.field-0.0)
    c.map_object-asked.ensures.kind (c.in_err-found.ensures.damage known)) in
    let none : TellsNoDamage c.in_err-found.field-0.0 =
    range-sound (ruler.admitted kind) (ruler.dist kind) shelf.pivots.now bounds axes bits key_of cell_of (g.met.C.Curve.curve_laws curve) pages live shelf.objects.now c.args.collection root held
    holds are c.args.q.now asked c.args.r c.requires.query c.map_object-asked.ensures.vector (c.ranges_cover_their_keys.ensures pages root asked c.args.r) c.in_err-found.field-0.0 told in
    search (rules, none)
