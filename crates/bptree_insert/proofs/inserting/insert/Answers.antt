use Rattle.std.proofs.Common.{◌-◌, sym, subst, ◌∙◌, arith}
use Rattle.std.specs.Prelude.{Ok}
use Rattle.std.proofs.lemmas.Bool.{false≢true}
use Rattle.bptree_node.specs.Summaries.{HasCorners}
use Rattle.bptree_insert.specs.declared.grown.Boxed.{Boxed}
use Rattle.bptree_insert.specs.declared.grown.Grown.{Grown}
use Rattle.bptree_insert.specs.declared.grown.Grown.TheVariants.{Same, Whole, Split}
use Rattle.bptree_node.specs.Trees.{IsTree, list_at, pages_at}
use Rattle.page_laws.specs.Pages.{is_live}
use Rattle.bptree_edit.specs.Changes.{IsWith, StaysOutside, AreFreeAfter}
use Rattle.bptree_insert.specs.Steps.{Grows}
use Rattle.bptree_edit.proofs.Summing.{join_of_laws}
use Rattle.bptree_insert.proofs.PageSteps.{grow-grow}
use Rattle.bptree_insert.proofs.RootSteps.{takes-most}
use Rattle.bptree_insert.proofs.Inserted.{root-can, root-live_of, whole-inserted, raised-inserted, never-raised, plant-inserted, match-ok, match-never}
use Rattle.bptree_insert.proofs.inserting.insert.Goals as goal

pub returns-then-root-eq0-clause-tree : goal.returns-then-root-eq0-clause-tree
returns-then-root-eq0-clause-tree g c = λ known.
    let P = g.P.Pages in
    let F = g.F.Boxes in
    let B = c.args.boxes.now in
    let made = plant-inserted (HasCorners g.S.Summary.joined (F.entry_box B) (F.keys_of B)) (P.in_pool c.args.pages.now) (P.in_pool c.plant.new.pages) c.args.e (P.page_at c.args.pages.now)
    (P.page_at c.plant.new.pages) (P.free c.args.pages.now) (P.free c.plant.new.pages) c.args.root c.plant.result c.plant.ensures.pages.change.pool c.if-root-eq0.true c.plant.ensures.own
    (c.requires.tree known) c.plant.ensures.height c.plant.ensures.written in
    made.tree

pub returns-then-root-eq0-clause-free : goal.returns-then-root-eq0-clause-free
returns-then-root-eq0-clause-free g c = λ known.
    let P = g.P.Pages in
    let F = g.F.Boxes in
    let B = c.args.boxes.now in
    let made = plant-inserted (HasCorners g.S.Summary.joined (F.entry_box B) (F.keys_of B)) (P.in_pool c.args.pages.now) (P.in_pool c.plant.new.pages) c.args.e (P.page_at c.args.pages.now)
    (P.page_at c.plant.new.pages) (P.free c.args.pages.now) (P.free c.plant.new.pages) c.args.root c.plant.result c.plant.ensures.pages.change.pool c.if-root-eq0.true c.plant.ensures.own
    (c.requires.tree known) c.plant.ensures.height c.plant.ensures.written in
    made.free

pub returns-then-root-eq0-clause-takes : goal.returns-then-root-eq0-clause-takes
returns-then-root-eq0-clause-takes g c = takes-most c.plant.ensures.pages 6 (omega arith)

pub returns-then-not-is_live-clause-sound : goal.returns-then-not-is_live-clause-sound
returns-then-not-is_live-clause-sound g c = λ known.
    let P = g.P.Pages in
    let F = g.F.Boxes in
    let B = c.args.boxes.now in
    let joined = g.S.Summary.joined in
    let laws = g.met.F.Boxes.box_laws B in
    let join = join_of_laws g.S.Summary.size joined (F.entry_box B) (F.branch_box B) (F.keys_of B) (F.is_made B) (F.width B) g.met.S.Summary.join_laws laws in
    let live = root-live_of joined (F.entry_box B) (F.keys_of B) (P.in_pool c.args.pages.now) (P.page_at c.args.pages.now) (P.free c.args.pages.now) c.args.root
    c.is_live.ensures.free (c.requires.tree known) c.if-root-eq0.false in
    absurd (false≢true (sym c.if-not-is_live.true ∙ c.is_live.ensures.live ∙ live))

pub insert_below-requires-clause-tree : goal.insert_below-requires-clause-tree
insert_below-requires-clause-tree g c = λ known.
    let P = g.P.Pages in
    let F = g.F.Boxes in
    let B = c.args.boxes.now in
    let joined = g.S.Summary.joined in
    let laws = g.met.F.Boxes.box_laws B in
    let join = join_of_laws g.S.Summary.size joined (F.entry_box B) (F.branch_box B) (F.keys_of B) (F.is_made B) (F.width B) g.met.S.Summary.join_laws laws in
    let e : Boxed g.row.S.Denot = record { entry = c.args.e; summary = c.in-Some.summary } in
    let own = sym c.of_entry.ensures ∙ c.in-Some.is in
    root-can joined (F.entry_box B) (F.branch_box B) (F.keys_of B) (F.is_made B) laws.entry_made laws.back join (P.in_pool c.args.pages.now) e own (P.page_at c.args.pages.now) (P.free c.args.pages.now) c.args.root c.is_live.ensures.free (c.requires.tree known) c.if-root-eq0.false (c.requires.boxes known) (c.requires.absent known)

pub returns-in_err-insert_below-clause-takes : goal.returns-in_err-insert_below-clause-takes
returns-in_err-insert_below-clause-takes g c =
    let low = c.requires.height in
    takes-most c.insert_below.ensures.pages 6 (omega (arith, low, c.if-root-eq0.false))

pub returns-in-Same-clause-list : goal.returns-in-Same-clause-list
returns-in-Same-clause-list g c = λ known.
    let P = g.P.Pages in
    let F = g.F.Boxes in
    let B = c.args.boxes.now in
    let joined = g.S.Summary.joined in
    let laws = g.met.F.Boxes.box_laws B in
    let join = join_of_laws g.S.Summary.size joined (F.entry_box B) (F.branch_box B) (F.keys_of B) (F.is_made B) (F.width B) g.met.S.Summary.join_laws laws in
    let e : Boxed g.row.S.Denot = record { entry = c.args.e; summary = c.in-Some.summary } in
    let own = sym c.of_entry.ensures ∙ c.in-Some.is in
    let grown = c.in_ok-insert_below.ensures.grows known in
    let is : Grows joined (F.entry_box B) (F.keys_of B) c.args.e (P.page_at c.args.pages.now) (P.page_at c.insert_below.new.pages) (P.free c.args.pages.now) (P.free c.insert_below.new.pages)
    (c.args.root.height - 1) c.args.root.page (Ok Same) =
    subst (λ (k : Grown g.row.S.Denot). Grows joined (F.entry_box B) (F.keys_of B) c.args.e (P.page_at c.args.pages.now) (P.page_at c.insert_below.new.pages) (P.free c.args.pages.now)
    (P.free c.insert_below.new.pages) (c.args.root.height - 1) c.args.root.page (Ok k)) c.in-Same.is grown in
    let made = whole-inserted joined (F.entry_box B) (F.branch_box B) (F.keys_of B) (F.is_made B) laws.entry_made laws.back join (P.in_pool c.args.pages.now) e own (P.page_at c.args.pages.now) (P.free c.args.pages.now) c.args.root c.is_live.ensures.free (c.requires.tree known) c.if-root-eq0.false (P.in_pool c.insert_below.new.pages) (P.page_at c.insert_below.new.pages) (P.free c.insert_below.new.pages)
    c.in_ok-insert_below.ensures.pages.change.pool is.grown in
    made.list

pub returns-in-Whole-clause-list : goal.returns-in-Whole-clause-list
returns-in-Whole-clause-list g c = λ known.
    let P = g.P.Pages in
    let F = g.F.Boxes in
    let B = c.args.boxes.now in
    let joined = g.S.Summary.joined in
    let laws = g.met.F.Boxes.box_laws B in
    let join = join_of_laws g.S.Summary.size joined (F.entry_box B) (F.branch_box B) (F.keys_of B) (F.is_made B) (F.width B) g.met.S.Summary.join_laws laws in
    let e : Boxed g.row.S.Denot = record { entry = c.args.e; summary = c.in-Some.summary } in
    let own = sym c.of_entry.ensures ∙ c.in-Some.is in
    let grown = c.in_ok-insert_below.ensures.grows known in
    let is : Grows joined (F.entry_box B) (F.keys_of B) c.args.e (P.page_at c.args.pages.now) (P.page_at c.insert_below.new.pages) (P.free c.args.pages.now) (P.free c.insert_below.new.pages)
    (c.args.root.height - 1) c.args.root.page (Ok Whole) =
    subst (λ (k : Grown g.row.S.Denot). Grows joined (F.entry_box B) (F.keys_of B) c.args.e (P.page_at c.args.pages.now) (P.page_at c.insert_below.new.pages) (P.free c.args.pages.now)
    (P.free c.insert_below.new.pages) (c.args.root.height - 1) c.args.root.page (Ok k)) c.in-Whole.is grown in
    let made = whole-inserted joined (F.entry_box B) (F.branch_box B) (F.keys_of B) (F.is_made B) laws.entry_made laws.back join (P.in_pool c.args.pages.now) e own (P.page_at c.args.pages.now) (P.free c.args.pages.now) c.args.root c.is_live.ensures.free (c.requires.tree known) c.if-root-eq0.false (P.in_pool c.insert_below.new.pages) (P.page_at c.insert_below.new.pages) (P.free c.insert_below.new.pages)
    c.in_ok-insert_below.ensures.pages.change.pool is in
    made.list

pub returns-in-Same-clause-tree : goal.returns-in-Same-clause-tree
returns-in-Same-clause-tree g c = λ known.
    let P = g.P.Pages in
    let F = g.F.Boxes in
    let B = c.args.boxes.now in
    let joined = g.S.Summary.joined in
    let laws = g.met.F.Boxes.box_laws B in
    let join = join_of_laws g.S.Summary.size joined (F.entry_box B) (F.branch_box B) (F.keys_of B) (F.is_made B) (F.width B) g.met.S.Summary.join_laws laws in
    let e : Boxed g.row.S.Denot = record { entry = c.args.e; summary = c.in-Some.summary } in
    let own = sym c.of_entry.ensures ∙ c.in-Some.is in
    let grown = c.in_ok-insert_below.ensures.grows known in
    let is : Grows joined (F.entry_box B) (F.keys_of B) c.args.e (P.page_at c.args.pages.now) (P.page_at c.insert_below.new.pages) (P.free c.args.pages.now) (P.free c.insert_below.new.pages)
    (c.args.root.height - 1) c.args.root.page (Ok Same) =
    subst (λ (k : Grown g.row.S.Denot). Grows joined (F.entry_box B) (F.keys_of B) c.args.e (P.page_at c.args.pages.now) (P.page_at c.insert_below.new.pages) (P.free c.args.pages.now)
    (P.free c.insert_below.new.pages) (c.args.root.height - 1) c.args.root.page (Ok k)) c.in-Same.is grown in
    let made = whole-inserted joined (F.entry_box B) (F.branch_box B) (F.keys_of B) (F.is_made B) laws.entry_made laws.back join (P.in_pool c.args.pages.now) e own (P.page_at c.args.pages.now) (P.free c.args.pages.now) c.args.root c.is_live.ensures.free (c.requires.tree known) c.if-root-eq0.false (P.in_pool c.insert_below.new.pages) (P.page_at c.insert_below.new.pages) (P.free c.insert_below.new.pages)
    c.in_ok-insert_below.ensures.pages.change.pool is.grown in
    made.tree

pub returns-in-Whole-clause-tree : goal.returns-in-Whole-clause-tree
returns-in-Whole-clause-tree g c = λ known.
    let P = g.P.Pages in
    let F = g.F.Boxes in
    let B = c.args.boxes.now in
    let joined = g.S.Summary.joined in
    let laws = g.met.F.Boxes.box_laws B in
    let join = join_of_laws g.S.Summary.size joined (F.entry_box B) (F.branch_box B) (F.keys_of B) (F.is_made B) (F.width B) g.met.S.Summary.join_laws laws in
    let e : Boxed g.row.S.Denot = record { entry = c.args.e; summary = c.in-Some.summary } in
    let own = sym c.of_entry.ensures ∙ c.in-Some.is in
    let grown = c.in_ok-insert_below.ensures.grows known in
    let is : Grows joined (F.entry_box B) (F.keys_of B) c.args.e (P.page_at c.args.pages.now) (P.page_at c.insert_below.new.pages) (P.free c.args.pages.now) (P.free c.insert_below.new.pages)
    (c.args.root.height - 1) c.args.root.page (Ok Whole) =
    subst (λ (k : Grown g.row.S.Denot). Grows joined (F.entry_box B) (F.keys_of B) c.args.e (P.page_at c.args.pages.now) (P.page_at c.insert_below.new.pages) (P.free c.args.pages.now)
    (P.free c.insert_below.new.pages) (c.args.root.height - 1) c.args.root.page (Ok k)) c.in-Whole.is grown in
    let made = whole-inserted joined (F.entry_box B) (F.branch_box B) (F.keys_of B) (F.is_made B) laws.entry_made laws.back join (P.in_pool c.args.pages.now) e own (P.page_at c.args.pages.now) (P.free c.args.pages.now) c.args.root c.is_live.ensures.free (c.requires.tree known) c.if-root-eq0.false (P.in_pool c.insert_below.new.pages) (P.page_at c.insert_below.new.pages) (P.free c.insert_below.new.pages)
    c.in_ok-insert_below.ensures.pages.change.pool is in
    made.tree

pub returns-in-Same-clause-outside : goal.returns-in-Same-clause-outside
returns-in-Same-clause-outside g c = λ known.
    let P = g.P.Pages in
    let F = g.F.Boxes in
    let B = c.args.boxes.now in
    let joined = g.S.Summary.joined in
    let laws = g.met.F.Boxes.box_laws B in
    let join = join_of_laws g.S.Summary.size joined (F.entry_box B) (F.branch_box B) (F.keys_of B) (F.is_made B) (F.width B) g.met.S.Summary.join_laws laws in
    let e : Boxed g.row.S.Denot = record { entry = c.args.e; summary = c.in-Some.summary } in
    let own = sym c.of_entry.ensures ∙ c.in-Some.is in
    let grown = c.in_ok-insert_below.ensures.grows known in
    let is : Grows joined (F.entry_box B) (F.keys_of B) c.args.e (P.page_at c.args.pages.now) (P.page_at c.insert_below.new.pages) (P.free c.args.pages.now) (P.free c.insert_below.new.pages)
    (c.args.root.height - 1) c.args.root.page (Ok Same) =
    subst (λ (k : Grown g.row.S.Denot). Grows joined (F.entry_box B) (F.keys_of B) c.args.e (P.page_at c.args.pages.now) (P.page_at c.insert_below.new.pages) (P.free c.args.pages.now)
    (P.free c.insert_below.new.pages) (c.args.root.height - 1) c.args.root.page (Ok k)) c.in-Same.is grown in
    let made = whole-inserted joined (F.entry_box B) (F.branch_box B) (F.keys_of B) (F.is_made B) laws.entry_made laws.back join (P.in_pool c.args.pages.now) e own (P.page_at c.args.pages.now) (P.free c.args.pages.now) c.args.root c.is_live.ensures.free (c.requires.tree known) c.if-root-eq0.false (P.in_pool c.insert_below.new.pages) (P.page_at c.insert_below.new.pages) (P.free c.insert_below.new.pages)
    c.in_ok-insert_below.ensures.pages.change.pool is.grown in
    made.outside

pub returns-in-Whole-clause-outside : goal.returns-in-Whole-clause-outside
returns-in-Whole-clause-outside g c = λ known.
    let P = g.P.Pages in
    let F = g.F.Boxes in
    let B = c.args.boxes.now in
    let joined = g.S.Summary.joined in
    let laws = g.met.F.Boxes.box_laws B in
    let join = join_of_laws g.S.Summary.size joined (F.entry_box B) (F.branch_box B) (F.keys_of B) (F.is_made B) (F.width B) g.met.S.Summary.join_laws laws in
    let e : Boxed g.row.S.Denot = record { entry = c.args.e; summary = c.in-Some.summary } in
    let own = sym c.of_entry.ensures ∙ c.in-Some.is in
    let grown = c.in_ok-insert_below.ensures.grows known in
    let is : Grows joined (F.entry_box B) (F.keys_of B) c.args.e (P.page_at c.args.pages.now) (P.page_at c.insert_below.new.pages) (P.free c.args.pages.now) (P.free c.insert_below.new.pages)
    (c.args.root.height - 1) c.args.root.page (Ok Whole) =
    subst (λ (k : Grown g.row.S.Denot). Grows joined (F.entry_box B) (F.keys_of B) c.args.e (P.page_at c.args.pages.now) (P.page_at c.insert_below.new.pages) (P.free c.args.pages.now)
    (P.free c.insert_below.new.pages) (c.args.root.height - 1) c.args.root.page (Ok k)) c.in-Whole.is grown in
    let made = whole-inserted joined (F.entry_box B) (F.branch_box B) (F.keys_of B) (F.is_made B) laws.entry_made laws.back join (P.in_pool c.args.pages.now) e own (P.page_at c.args.pages.now) (P.free c.args.pages.now) c.args.root c.is_live.ensures.free (c.requires.tree known) c.if-root-eq0.false (P.in_pool c.insert_below.new.pages) (P.page_at c.insert_below.new.pages) (P.free c.insert_below.new.pages)
    c.in_ok-insert_below.ensures.pages.change.pool is in
    made.outside

pub returns-in-Same-clause-free : goal.returns-in-Same-clause-free
returns-in-Same-clause-free g c = λ known.
    let P = g.P.Pages in
    let F = g.F.Boxes in
    let B = c.args.boxes.now in
    let joined = g.S.Summary.joined in
    let laws = g.met.F.Boxes.box_laws B in
    let join = join_of_laws g.S.Summary.size joined (F.entry_box B) (F.branch_box B) (F.keys_of B) (F.is_made B) (F.width B) g.met.S.Summary.join_laws laws in
    let e : Boxed g.row.S.Denot = record { entry = c.args.e; summary = c.in-Some.summary } in
    let own = sym c.of_entry.ensures ∙ c.in-Some.is in
    let grown = c.in_ok-insert_below.ensures.grows known in
    let is : Grows joined (F.entry_box B) (F.keys_of B) c.args.e (P.page_at c.args.pages.now) (P.page_at c.insert_below.new.pages) (P.free c.args.pages.now) (P.free c.insert_below.new.pages)
    (c.args.root.height - 1) c.args.root.page (Ok Same) =
    subst (λ (k : Grown g.row.S.Denot). Grows joined (F.entry_box B) (F.keys_of B) c.args.e (P.page_at c.args.pages.now) (P.page_at c.insert_below.new.pages) (P.free c.args.pages.now)
    (P.free c.insert_below.new.pages) (c.args.root.height - 1) c.args.root.page (Ok k)) c.in-Same.is grown in
    let made = whole-inserted joined (F.entry_box B) (F.branch_box B) (F.keys_of B) (F.is_made B) laws.entry_made laws.back join (P.in_pool c.args.pages.now) e own (P.page_at c.args.pages.now) (P.free c.args.pages.now) c.args.root c.is_live.ensures.free (c.requires.tree known) c.if-root-eq0.false (P.in_pool c.insert_below.new.pages) (P.page_at c.insert_below.new.pages) (P.free c.insert_below.new.pages)
    c.in_ok-insert_below.ensures.pages.change.pool is.grown in
    made.free

pub returns-in-Whole-clause-free : goal.returns-in-Whole-clause-free
returns-in-Whole-clause-free g c = λ known.
    let P = g.P.Pages in
    let F = g.F.Boxes in
    let B = c.args.boxes.now in
    let joined = g.S.Summary.joined in
    let laws = g.met.F.Boxes.box_laws B in
    let join = join_of_laws g.S.Summary.size joined (F.entry_box B) (F.branch_box B) (F.keys_of B) (F.is_made B) (F.width B) g.met.S.Summary.join_laws laws in
    let e : Boxed g.row.S.Denot = record { entry = c.args.e; summary = c.in-Some.summary } in
    let own = sym c.of_entry.ensures ∙ c.in-Some.is in
    let grown = c.in_ok-insert_below.ensures.grows known in
    let is : Grows joined (F.entry_box B) (F.keys_of B) c.args.e (P.page_at c.args.pages.now) (P.page_at c.insert_below.new.pages) (P.free c.args.pages.now) (P.free c.insert_below.new.pages)
    (c.args.root.height - 1) c.args.root.page (Ok Whole) =
    subst (λ (k : Grown g.row.S.Denot). Grows joined (F.entry_box B) (F.keys_of B) c.args.e (P.page_at c.args.pages.now) (P.page_at c.insert_below.new.pages) (P.free c.args.pages.now)
    (P.free c.insert_below.new.pages) (c.args.root.height - 1) c.args.root.page (Ok k)) c.in-Whole.is grown in
    let made = whole-inserted joined (F.entry_box B) (F.branch_box B) (F.keys_of B) (F.is_made B) laws.entry_made laws.back join (P.in_pool c.args.pages.now) e own (P.page_at c.args.pages.now) (P.free c.args.pages.now) c.args.root c.is_live.ensures.free (c.requires.tree known) c.if-root-eq0.false (P.in_pool c.insert_below.new.pages) (P.page_at c.insert_below.new.pages) (P.free c.insert_below.new.pages)
    c.in_ok-insert_below.ensures.pages.change.pool is in
    made.free

pub returns-in-Same-clause-takes : goal.returns-in-Same-clause-takes
returns-in-Same-clause-takes g c =
    let low = c.requires.height in
    takes-most c.in_ok-insert_below.ensures.pages 6 (omega (arith, low, c.if-root-eq0.false))

pub returns-in-Whole-clause-takes : goal.returns-in-Whole-clause-takes
returns-in-Whole-clause-takes g c =
    let low = c.requires.height in
    takes-most c.in_ok-insert_below.ensures.pages 6 (omega (arith, low, c.if-root-eq0.false))

pub returns-in-Split-clause-list : goal.returns-in-Split-clause-list
returns-in-Split-clause-list g c = λ known.
    let P = g.P.Pages in
    let F = g.F.Boxes in
    let B = c.args.boxes.now in
    let joined = g.S.Summary.joined in
    let laws = g.met.F.Boxes.box_laws B in
    let join = join_of_laws g.S.Summary.size joined (F.entry_box B) (F.branch_box B) (F.keys_of B) (F.is_made B) (F.width B) g.met.S.Summary.join_laws laws in
    let e : Boxed g.row.S.Denot = record { entry = c.args.e; summary = c.in-Some.summary } in
    let own = sym c.of_entry.ensures ∙ c.in-Some.is in
    let grown = c.in_ok-insert_below.ensures.grows known in
    let is : Grows joined (F.entry_box B) (F.keys_of B) c.args.e (P.page_at c.args.pages.now) (P.page_at c.insert_below.new.pages) (P.free c.args.pages.now) (P.free c.insert_below.new.pages)
    (c.args.root.height - 1) c.args.root.page (Ok (Split c.in-Split.left c.in-Split.right)) =
    subst (λ (k : Grown g.row.S.Denot). Grows joined (F.entry_box B) (F.keys_of B) c.args.e (P.page_at c.args.pages.now) (P.page_at c.insert_below.new.pages) (P.free c.args.pages.now)
    (P.free c.insert_below.new.pages) (c.args.root.height - 1) c.args.root.page (Ok k)) c.in-Split.is grown in
    match-ok _ _ (λ new. IsWith c.args.e (list_at (P.page_at c.args.pages.now) c.args.root) (list_at (P.page_at c.raise.new.pages) new)) c.raise.result c.raise.ensures.raised (λ above up.
    let made = raised-inserted joined (F.entry_box B) (F.branch_box B) (F.keys_of B) (F.is_made B) laws.entry_made laws.back join (P.in_pool c.args.pages.now) e own (P.page_at c.args.pages.now) (P.free c.args.pages.now) c.args.root c.is_live.ensures.free (c.requires.tree known) c.if-root-eq0.false (P.page_at c.insert_below.new.pages) (P.free c.insert_below.new.pages) c.in-Split.left c.in-Split.right is
    (P.in_pool c.raise.new.pages) (P.page_at c.raise.new.pages) (P.free c.raise.new.pages) (c.raise.ensures.pages.change.pool ∙ c.in_ok-insert_below.ensures.pages.change.pool) above up in
    made.list)

pub returns-in-Split-clause-tree : goal.returns-in-Split-clause-tree
returns-in-Split-clause-tree g c = λ known.
    let P = g.P.Pages in
    let F = g.F.Boxes in
    let B = c.args.boxes.now in
    let joined = g.S.Summary.joined in
    let laws = g.met.F.Boxes.box_laws B in
    let join = join_of_laws g.S.Summary.size joined (F.entry_box B) (F.branch_box B) (F.keys_of B) (F.is_made B) (F.width B) g.met.S.Summary.join_laws laws in
    let e : Boxed g.row.S.Denot = record { entry = c.args.e; summary = c.in-Some.summary } in
    let own = sym c.of_entry.ensures ∙ c.in-Some.is in
    let grown = c.in_ok-insert_below.ensures.grows known in
    let is : Grows joined (F.entry_box B) (F.keys_of B) c.args.e (P.page_at c.args.pages.now) (P.page_at c.insert_below.new.pages) (P.free c.args.pages.now) (P.free c.insert_below.new.pages)
    (c.args.root.height - 1) c.args.root.page (Ok (Split c.in-Split.left c.in-Split.right)) =
    subst (λ (k : Grown g.row.S.Denot). Grows joined (F.entry_box B) (F.keys_of B) c.args.e (P.page_at c.args.pages.now) (P.page_at c.insert_below.new.pages) (P.free c.args.pages.now)
    (P.free c.insert_below.new.pages) (c.args.root.height - 1) c.args.root.page (Ok k)) c.in-Split.is grown in
    match-ok _ _ (IsTree (HasCorners joined (F.entry_box B) (F.keys_of B)) (P.page_at c.raise.new.pages) (is_live (P.in_pool c.raise.new.pages) (P.free c.raise.new.pages))) c.raise.result c.raise.ensures.raised (λ above up.
    let made = raised-inserted joined (F.entry_box B) (F.branch_box B) (F.keys_of B) (F.is_made B) laws.entry_made laws.back join (P.in_pool c.args.pages.now) e own (P.page_at c.args.pages.now) (P.free c.args.pages.now) c.args.root c.is_live.ensures.free (c.requires.tree known) c.if-root-eq0.false (P.page_at c.insert_below.new.pages) (P.free c.insert_below.new.pages) c.in-Split.left c.in-Split.right is
    (P.in_pool c.raise.new.pages) (P.page_at c.raise.new.pages) (P.free c.raise.new.pages) (c.raise.ensures.pages.change.pool ∙ c.in_ok-insert_below.ensures.pages.change.pool) above up in
    made.tree)

pub returns-in-Split-clause-outside : goal.returns-in-Split-clause-outside
returns-in-Split-clause-outside g c = λ known.
    let P = g.P.Pages in
    let F = g.F.Boxes in
    let B = c.args.boxes.now in
    let joined = g.S.Summary.joined in
    let laws = g.met.F.Boxes.box_laws B in
    let join = join_of_laws g.S.Summary.size joined (F.entry_box B) (F.branch_box B) (F.keys_of B) (F.is_made B) (F.width B) g.met.S.Summary.join_laws laws in
    let e : Boxed g.row.S.Denot = record { entry = c.args.e; summary = c.in-Some.summary } in
    let own = sym c.of_entry.ensures ∙ c.in-Some.is in
    let grown = c.in_ok-insert_below.ensures.grows known in
    let is : Grows joined (F.entry_box B) (F.keys_of B) c.args.e (P.page_at c.args.pages.now) (P.page_at c.insert_below.new.pages) (P.free c.args.pages.now) (P.free c.insert_below.new.pages)
    (c.args.root.height - 1) c.args.root.page (Ok (Split c.in-Split.left c.in-Split.right)) =
    subst (λ (k : Grown g.row.S.Denot). Grows joined (F.entry_box B) (F.keys_of B) c.args.e (P.page_at c.args.pages.now) (P.page_at c.insert_below.new.pages) (P.free c.args.pages.now)
    (P.free c.insert_below.new.pages) (c.args.root.height - 1) c.args.root.page (Ok k)) c.in-Split.is grown in
    match-ok _ _ (λ new. StaysOutside (pages_at (P.page_at c.args.pages.now) c.args.root) (pages_at (P.page_at c.raise.new.pages) new) (P.page_at c.args.pages.now) (P.page_at c.raise.new.pages)) c.raise.result c.raise.ensures.raised (λ above up.
    let made = raised-inserted joined (F.entry_box B) (F.branch_box B) (F.keys_of B) (F.is_made B) laws.entry_made laws.back join (P.in_pool c.args.pages.now) e own (P.page_at c.args.pages.now) (P.free c.args.pages.now) c.args.root c.is_live.ensures.free (c.requires.tree known) c.if-root-eq0.false (P.page_at c.insert_below.new.pages) (P.free c.insert_below.new.pages) c.in-Split.left c.in-Split.right is
    (P.in_pool c.raise.new.pages) (P.page_at c.raise.new.pages) (P.free c.raise.new.pages) (c.raise.ensures.pages.change.pool ∙ c.in_ok-insert_below.ensures.pages.change.pool) above up in
    made.outside)

pub returns-in-Split-clause-free : goal.returns-in-Split-clause-free
returns-in-Split-clause-free g c = λ known.
    let P = g.P.Pages in
    let F = g.F.Boxes in
    let B = c.args.boxes.now in
    let joined = g.S.Summary.joined in
    let laws = g.met.F.Boxes.box_laws B in
    let join = join_of_laws g.S.Summary.size joined (F.entry_box B) (F.branch_box B) (F.keys_of B) (F.is_made B) (F.width B) g.met.S.Summary.join_laws laws in
    let e : Boxed g.row.S.Denot = record { entry = c.args.e; summary = c.in-Some.summary } in
    let own = sym c.of_entry.ensures ∙ c.in-Some.is in
    let grown = c.in_ok-insert_below.ensures.grows known in
    let is : Grows joined (F.entry_box B) (F.keys_of B) c.args.e (P.page_at c.args.pages.now) (P.page_at c.insert_below.new.pages) (P.free c.args.pages.now) (P.free c.insert_below.new.pages)
    (c.args.root.height - 1) c.args.root.page (Ok (Split c.in-Split.left c.in-Split.right)) =
    subst (λ (k : Grown g.row.S.Denot). Grows joined (F.entry_box B) (F.keys_of B) c.args.e (P.page_at c.args.pages.now) (P.page_at c.insert_below.new.pages) (P.free c.args.pages.now)
    (P.free c.insert_below.new.pages) (c.args.root.height - 1) c.args.root.page (Ok k)) c.in-Split.is grown in
    match-ok _ _ (λ new. AreFreeAfter (pages_at (P.page_at c.args.pages.now) c.args.root) (pages_at (P.page_at c.raise.new.pages) new) (P.free c.args.pages.now) (P.free c.raise.new.pages)) c.raise.result c.raise.ensures.raised (λ above up.
    let made = raised-inserted joined (F.entry_box B) (F.branch_box B) (F.keys_of B) (F.is_made B) laws.entry_made laws.back join (P.in_pool c.args.pages.now) e own (P.page_at c.args.pages.now) (P.free c.args.pages.now) c.args.root c.is_live.ensures.free (c.requires.tree known) c.if-root-eq0.false (P.page_at c.insert_below.new.pages) (P.free c.insert_below.new.pages) c.in-Split.left c.in-Split.right is
    (P.in_pool c.raise.new.pages) (P.page_at c.raise.new.pages) (P.free c.raise.new.pages) (c.raise.ensures.pages.change.pool ∙ c.in_ok-insert_below.ensures.pages.change.pool) above up in
    made.free)

pub returns-in-Split-clause-takes : goal.returns-in-Split-clause-takes
returns-in-Split-clause-takes g c =
    let low = c.requires.height in
    takes-most (grow-grow g.met.P.Pages.calm_chains c.in_ok-insert_below.ensures.pages c.raise.ensures.pages 6 12 (omega (arith, low, c.if-root-eq0.false)) (omega (arith, low, c.if-root-eq0.false))) 6
    (omega arith)

pub returns-in-Split-clause-sound : goal.returns-in-Split-clause-sound
returns-in-Split-clause-sound g c = λ known.
    let P = g.P.Pages in
    let F = g.F.Boxes in
    let B = c.args.boxes.now in
    let joined = g.S.Summary.joined in
    let laws = g.met.F.Boxes.box_laws B in
    let join = join_of_laws g.S.Summary.size joined (F.entry_box B) (F.branch_box B) (F.keys_of B) (F.is_made B) (F.width B) g.met.S.Summary.join_laws laws in
    let e : Boxed g.row.S.Denot = record { entry = c.args.e; summary = c.in-Some.summary } in
    let own = sym c.of_entry.ensures ∙ c.in-Some.is in
    let grown = c.in_ok-insert_below.ensures.grows known in
    let is : Grows joined (F.entry_box B) (F.keys_of B) c.args.e (P.page_at c.args.pages.now) (P.page_at c.insert_below.new.pages) (P.free c.args.pages.now) (P.free c.insert_below.new.pages)
    (c.args.root.height - 1) c.args.root.page (Ok (Split c.in-Split.left c.in-Split.right)) =
    subst (λ (k : Grown g.row.S.Denot). Grows joined (F.entry_box B) (F.keys_of B) c.args.e (P.page_at c.args.pages.now) (P.page_at c.insert_below.new.pages) (P.free c.args.pages.now)
    (P.free c.insert_below.new.pages) (c.args.root.height - 1) c.args.root.page (Ok k)) c.in-Split.is grown in
    match-never _ _ c.raise.result c.raise.ensures.raised (λ why bad.
    never-raised joined (F.entry_box B) (F.branch_box B) (F.keys_of B) (F.is_made B) laws.entry_made laws.back join (P.in_pool c.args.pages.now) e own (P.page_at c.args.pages.now) (P.free c.args.pages.now) c.args.root c.is_live.ensures.free (c.requires.tree known) c.if-root-eq0.false (P.page_at c.insert_below.new.pages) (P.free c.insert_below.new.pages) c.in-Split.left c.in-Split.right is (c.requires.small known) bad.1)
