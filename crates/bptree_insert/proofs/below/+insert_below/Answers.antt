use Rattle.std.proofs.Common.{rules, ℕ, ◌+◌, ◌-◌, ◌≤◌, Bool, List, length, sym, ap, subst, ◌∙◌, arith}
use Rattle.std.specs.Prelude.{IsTrue, Ok, ◌*◌}
use Rattle.std.proofs.lemmas.Bool.{false≢true}
use Rattle.page_laws.specs.Pages.{is_live}
use Rattle.bptree_node.specs.Summaries.{HasCorners}
use Rattle.bptree_edit.specs.NodesAt.{times}
use Rattle.bptree_insert.specs.Steps.{CanTake, Grows}
use Rattle.bptree_edit.proofs.Summing.{join_of_laws}
use Rattle.bptree_edit.proofs.Counts.{live_stays}
use Rattle.bptree_insert.proofs.InnerSteps.{inner-there, can-moved, grows-moved}
use Rattle.bptree_insert.proofs.InnerWays.{way-can, way-live, way-boxes, way-grows}
use Rattle.bptree_insert.proofs.below.+insert_below.Goals as goal

pub returns-in_err-way-clause-sound : goal.returns-in_err-way-clause-sound
returns-in_err-way-clause-sound g t c = λ known.
    let P = g.P.Pages in
    let F = g.F.Boxes in
    let B = c.args.boxes.now in
    let joined = g.S.Summary.joined in
    let laws = g.met.F.Boxes.box_laws B in
    let join = join_of_laws g.S.Summary.size joined (F.entry_box B) (F.branch_box B) (F.keys_of B) (F.is_made B) (F.width B) g.met.S.Summary.join_laws laws in
    let got = c.in_ok-get.ensures in
    absurd (inner-there joined (F.entry_box B) (F.branch_box B) (F.keys_of B) (F.is_made B) laws.entry_made laws.back join (P.in_pool c.args.pages.now) c.args.e.now (P.page_at c.args.pages.now) (P.free c.args.pages.now) c.args.level c.args.n c.if-level-eq0.false (c.requires.tree known) c.get.new.into (got.data known) c.in_err-way.ensures.way.1)

pub returns-then-not-is_live-clause-sound : goal.returns-then-not-is_live-clause-sound
returns-then-not-is_live-clause-sound g t c = λ known.
    let P = g.P.Pages in
    let F = g.F.Boxes in
    let B = c.args.boxes.now in
    let joined = g.S.Summary.joined in
    let laws = g.met.F.Boxes.box_laws B in
    let join = join_of_laws g.S.Summary.size joined (F.entry_box B) (F.branch_box B) (F.keys_of B) (F.is_made B) (F.width B) g.met.S.Summary.join_laws laws in
    let got = c.in_ok-get.ensures in
    let way = c.in_ok-way.way in
    let here = way-live joined (F.entry_box B) (F.branch_box B) (F.keys_of B) (F.is_made B) laws.entry_made laws.back join (P.in_pool c.args.pages.now) c.args.e.now (P.page_at c.args.pages.now) (P.free c.args.pages.now) c.args.level c.args.n c.if-level-eq0.false (c.requires.tree known) c.get.new.into (got.data known) way c.in_ok-way.ensures.way in
    let now : IsTrue (is_live (P.in_pool c.get.new.self) (P.free c.get.new.self) way.branch.child) =
    subst (λ (pool : ℕ → Bool). IsTrue (is_live pool (P.free c.get.new.self) way.branch.child)) (sym got.map.1)
    (subst (λ (free : List ℕ). IsTrue (is_live (P.in_pool c.args.pages.now) free way.branch.child)) (sym got.free.0) here) in
    absurd (false≢true (sym c.if-not-is_live.true ∙ c.is_live.ensures.live ∙ now))

pub insert_below-requires : goal.insert_below-requires
insert_below-requires g t c =
    let P = g.P.Pages in
    let F = g.F.Boxes in
    let B = c.args.boxes.now in
    let joined = g.S.Summary.joined in
    let laws = g.met.F.Boxes.box_laws B in
    let join = join_of_laws g.S.Summary.size joined (F.entry_box B) (F.branch_box B) (F.keys_of B) (F.is_made B) (F.width B) g.met.S.Summary.join_laws laws in
    let got = c.in_ok-get.ensures in
    let way = c.in_ok-way.way in
    let tree : IsTrue (P.is_known c.get.new.self) → CanTake (HasCorners joined (F.entry_box B) (F.keys_of B)) (F.entry_box B) (P.in_pool c.get.new.self) c.args.e.now.entry
    (P.page_at c.get.new.self) (P.free c.get.new.self) (c.args.level - 1) way.branch.child =
    λ is.
    let known : IsTrue (P.is_known c.args.pages.now) = sym got.told ∙ is in
    can-moved (HasCorners joined (F.entry_box B) (F.keys_of B)) (F.entry_box B) c.args.e.now.entry (c.args.level - 1) way.branch.child
    (P.in_pool c.args.pages.now) (P.in_pool c.get.new.self) (P.page_at c.args.pages.now) (P.page_at c.get.new.self) (P.free c.args.pages.now) (P.free c.get.new.self)
    got.map.1 (got.pages known) got.free.0
    (way-can joined (F.entry_box B) (F.branch_box B) (F.keys_of B) (F.is_made B) laws.entry_made laws.back join (P.in_pool c.args.pages.now) c.args.e.now (P.page_at c.args.pages.now) (P.free c.args.pages.now) c.args.level c.args.n c.if-level-eq0.false (c.requires.tree known) c.get.new.into (got.data known) way c.in_ok-way.ensures.way) in
    let live = sym c.is_live.ensures.live ∙ c.if-not-is_live.false in
    let enough : (c.args.level - 1) + 1 ≤ length (P.free c.get.new.self) = omega (arith, c.requires.free, ap length got.free.0) in
    let room : length (P.put_pages c.get.new.self) + 2 * ((c.args.level - 1) + 1) ≤ 80 = omega (arith, c.requires.put, ap length got.open.1) in
    let is_open : IsTrue (P.is_open c.get.new.self) = got.open.0 ∙ c.requires.open in
    search (rules, tree, live, enough, room, is_open)

pub restore-requires-clause-live : goal.restore-requires-clause-live
restore-requires-clause-live g t c =
    let P = g.P.Pages in
    let got = c.in_ok-get.ensures in
    let grown = c.in_ok-grown.ensures.pages in
    subst (λ (pool : ℕ → Bool). IsTrue (is_live pool (P.free c.insert_below.new.pages) c.args.n)) (sym (grown.change.pool ∙ got.map.1))
    (live_stays (P.in_pool c.args.pages.now) (P.free c.args.pages.now) (P.free c.insert_below.new.pages) c.args.n
    (λ m. subst (λ (free : List ℕ). times m (P.free c.insert_below.new.pages) ≤ times m free) got.free.0 (grown.fewer m)) c.requires.live)

pub returns-clause-grows : goal.returns-clause-grows
returns-clause-grows g t c = λ known.
    let P = g.P.Pages in
    let F = g.F.Boxes in
    let B = c.args.boxes.now in
    let joined = g.S.Summary.joined in
    let laws = g.met.F.Boxes.box_laws B in
    let join = join_of_laws g.S.Summary.size joined (F.entry_box B) (F.branch_box B) (F.keys_of B) (F.is_made B) (F.width B) g.met.S.Summary.join_laws laws in
    let got = c.in_ok-get.ensures in
    let way = c.in_ok-way.way in
    let grows : Grows joined (F.entry_box B) (F.keys_of B) c.args.e.now.entry (P.page_at c.args.pages.now) (P.page_at c.insert_below.new.pages) (P.free c.args.pages.now)
    (P.free c.insert_below.new.pages) (c.args.level - 1) way.branch.child (Ok c.in_ok-grown.grown) =
    grows-moved joined (F.entry_box B) (F.keys_of B) c.args.e.now.entry (P.page_at c.get.new.self) (P.page_at c.args.pages.now) (P.page_at c.insert_below.new.pages) (P.free c.get.new.self)
    (P.free c.args.pages.now) (P.free c.insert_below.new.pages) (c.args.level - 1) way.branch.child (Ok c.in_ok-grown.grown) (got.pages known) got.free.0
    (c.in_ok-grown.ensures.grows (got.told ∙ known)) in
    way-grows joined (F.entry_box B) (F.branch_box B) (F.keys_of B) (F.is_made B) laws.entry_made laws.back join (P.in_pool c.args.pages.now) c.args.e.now (P.page_at c.args.pages.now) (P.free c.args.pages.now) c.args.level c.args.n c.if-level-eq0.false (c.requires.tree known) c.get.new.into (got.data known) way c.in_ok-way.ensures.way c.requires.summary
    (P.page_at c.insert_below.new.pages) (P.free c.insert_below.new.pages) c.in_ok-grown.grown grows (P.page_at c.restore.new.pages) (P.free c.restore.new.pages) c.restore.result c.restore.ensures.stores

pub returns-clause-sound : goal.returns-clause-sound
returns-clause-sound g t c = λ known.
    let P = g.P.Pages in
    let F = g.F.Boxes in
    let B = c.args.boxes.now in
    let joined = g.S.Summary.joined in
    let laws = g.met.F.Boxes.box_laws B in
    let join = join_of_laws g.S.Summary.size joined (F.entry_box B) (F.branch_box B) (F.keys_of B) (F.is_made B) (F.width B) g.met.S.Summary.join_laws laws in
    let got = c.in_ok-get.ensures in
    let way = c.in_ok-way.way in
    let grows : Grows joined (F.entry_box B) (F.keys_of B) c.args.e.now.entry (P.page_at c.args.pages.now) (P.page_at c.insert_below.new.pages) (P.free c.args.pages.now)
    (P.free c.insert_below.new.pages) (c.args.level - 1) way.branch.child (Ok c.in_ok-grown.grown) =
    grows-moved joined (F.entry_box B) (F.keys_of B) c.args.e.now.entry (P.page_at c.get.new.self) (P.page_at c.args.pages.now) (P.page_at c.insert_below.new.pages) (P.free c.get.new.self)
    (P.free c.args.pages.now) (P.free c.insert_below.new.pages) (c.args.level - 1) way.branch.child (Ok c.in_ok-grown.grown) (got.pages known) got.free.0
    (c.in_ok-grown.ensures.grows (got.told ∙ known)) in
    c.restore.ensures.sound
    (way-boxes joined (F.entry_box B) (F.branch_box B) (F.keys_of B) (F.is_made B) laws.entry_made laws.back join (P.in_pool c.args.pages.now) c.args.e.now (P.page_at c.args.pages.now) (P.free c.args.pages.now) c.args.level c.args.n c.if-level-eq0.false (c.requires.tree known) c.get.new.into (got.data known) way c.in_ok-way.ensures.way c.requires.summary
    (P.page_at c.insert_below.new.pages) (P.free c.insert_below.new.pages) c.in_ok-grown.grown grows)
