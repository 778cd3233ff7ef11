use Rattle.std.proofs.Common.{[], ◌∷◌, refl, sym, subst}
use Rattle.bptree_insert.specs.declared.grown.Grown.{Grown}
use Rattle.bptree_insert.specs.Steps.{Regrows, Restores}
use Rattle.bptree_insert.proofs.Leading.{unchanged, restores-split}
use Rattle.bptree_insert.proofs.inner.restore.Goals as goal

pub returns-in-Same-clause-stores : goal.returns-in-Same-clause-stores
returns-in-Same-clause-stores g c =
    let F = g.F.Boxes in
    let B = c.args.boxes.now in
    let way = c.args.way.now in
    record {
      mid = way.branch ∷ [];
      regrows = subst (λ (k : Grown g.row.S.Denot). Regrows g.S.Summary.joined (F.branch_box B) (F.keys_of B) c.args.e.now way.branch k (way.branch ∷ [])) (sym c.in-Same.is) refl;
      stores = (unchanged c.args.page.now way c.requires.way, refl, refl);
    }

pub returns-in-Split-clause-stores : goal.returns-in-Split-clause-stores
returns-in-Split-clause-stores g c =
    let P = g.P.Pages in
    let F = g.F.Boxes in
    let B = c.args.boxes.now in
    subst (λ (k : Grown g.row.S.Denot). Restores g.S.Summary.joined (F.branch_box B) (F.keys_of B) c.args.e.now c.args.n c.args.page.now c.args.way.now k (P.page_at c.args.pages.now)
    (P.page_at c.divide.new.pages) (P.free c.args.pages.now) (P.free c.divide.new.pages) c.divide.result) (sym c.in-Split.is)
    (restores-split g.S.Summary.joined (F.branch_box B) (F.keys_of B) c.args.e.now c.args.n c.args.page.now c.args.way.now c.in-Split.left c.in-Split.right (P.page_at c.args.pages.now)
    (P.page_at c.divide.new.pages) (P.free c.args.pages.now) (P.free c.divide.new.pages) c.divide.result c.divide.ensures.stores)
