use Rattle.std.proofs.Common.{refl}
use Rattle.node_edit.specs.Rows.{entries_on}
use Rattle.std.specs.List.{insert as inserted}
use Rattle.std.specs.Prelude.{Ok}
use Rattle.bptree_insert.specs.declared.grown.Grown.TheVariants.{Whole}
use Rattle.bptree_insert.proofs.LeafSteps.{leaf-there, leaf-boxes, leaf-grown}
use Rattle.bptree_insert.proofs.leaf.insert_in_leaf.Goals as goal

pub returns-clause-grows : goal.returns-clause-grows
returns-clause-grows g c = λ known.
    let spot = c.in_ok-spot.ensures.spot in
    let here = entries_on c.args.page.now in
    leaf-grown g.S.Summary.joined (g.F.Boxes.entry_box c.args.boxes.now) (g.F.Boxes.keys_of c.args.boxes.now) (g.P.Pages.in_pool c.args.pages.now) c.args.e.now.entry
    (g.P.Pages.page_at c.args.pages.now) (g.P.Pages.free c.args.pages.now) c.args.n (c.requires.tree known) c.args.page.now (c.requires.page known)
    here spot.leaf c.in_ok-spot.spot.at here (inserted here c.in_ok-spot.spot.at c.args.e.now.entry) refl refl spot.place spot.late spot.early
    (g.P.Pages.page_at c.put_node.new.pages) (g.P.Pages.free c.put_node.new.pages) (Ok Whole)
    (record { written = c.put_node.ensures.written _ c.insert_entry.ensures; free = c.put_node.ensures.free })

pub returns-in_err-spot-clause-sound : goal.returns-in_err-spot-clause-sound
returns-in_err-spot-clause-sound g c = λ known.
    absurd (leaf-there g.S.Summary.joined (g.F.Boxes.entry_box c.args.boxes.now) (g.F.Boxes.keys_of c.args.boxes.now) (g.P.Pages.in_pool c.args.pages.now) c.args.e.now.entry
    (g.P.Pages.page_at c.args.pages.now) (g.P.Pages.free c.args.pages.now) c.args.n (c.requires.tree known) c.args.page.now (c.requires.page known) c.in_err-spot.ensures.spot.1)

pub returns-then-spot-clause-grows : goal.returns-then-spot-clause-grows
returns-then-spot-clause-grows g c = λ known.
    let spot = c.in_ok-spot.ensures.spot in
    let here = entries_on c.args.page.now in
    leaf-grown g.S.Summary.joined (g.F.Boxes.entry_box c.args.boxes.now) (g.F.Boxes.keys_of c.args.boxes.now) (g.P.Pages.in_pool c.args.pages.now) c.args.e.now.entry
    (g.P.Pages.page_at c.args.pages.now) (g.P.Pages.free c.args.pages.now) c.args.n (c.requires.tree known) c.args.page.now (c.requires.page known)
    here spot.leaf c.in_ok-spot.spot.at here (inserted here c.in_ok-spot.spot.at c.args.e.now.entry) refl refl spot.place spot.late spot.early
    (g.P.Pages.page_at c.divide_leaf.new.pages) (g.P.Pages.free c.divide_leaf.new.pages) c.divide_leaf.result c.divide_leaf.ensures.stores

pub returns-then-spot-clause-sound : goal.returns-then-spot-clause-sound
returns-then-spot-clause-sound g c = λ known.
    let here = entries_on c.args.page.now in
    c.divide_leaf.ensures.sound
    (leaf-boxes g.S.Summary.joined (g.F.Boxes.entry_box c.args.boxes.now) (g.F.Boxes.keys_of c.args.boxes.now) (g.P.Pages.in_pool c.args.pages.now) c.args.e.now.entry
    (g.P.Pages.page_at c.args.pages.now) (g.P.Pages.free c.args.pages.now) c.args.n (c.requires.tree known) c.args.page.now (c.requires.page known)
    here c.in_ok-spot.ensures.spot.leaf c.in_ok-spot.spot.at c.args.e.now.summary (inserted here c.in_ok-spot.spot.at c.args.e.now.entry) refl c.requires.summary)
