use Rattle.std.proofs.Common.{◌+◌, [], ◌∷◌, refl, ap, ◌∙◌}
use Rattle.std.specs.List.{replace_range}
use Rattle.bptree_node.specs.declared.rows.Branch.{Branch}
use Rattle.bptree_insert.specs.Ways.{branches_on}
use Rattle.bptree_insert.proofs.Leading.{unchanged}
use Rattle.bptree_insert.proofs.inner.widen.Goals as goal

pub returns-then-is_same-clause-stores : goal.returns-then-is_same-clause-stores
returns-then-is_same-clause-stores g c =
    let way = c.args.way.now in
    let bs = branches_on c.args.page.now in
    record {
      mid = c.in-Some.wide ∷ [];
      regrows = (c.in-Some.wide, (c.in-Some.ensures, refl));
      stores = (
        ap (λ (b : Branch). replace_range bs way.at (way.at + 1) (b ∷ [])) (c.is_same.ensures c.if-is_same.true) ∙ unchanged c.args.page.now way c.requires.way,
        refl,
        refl,
      );
    }

pub returns-clause-stores : goal.returns-clause-stores
returns-clause-stores g c = record {
  mid = c.in-Some.wide ∷ [];
  regrows = (c.in-Some.wide, (c.in-Some.ensures, refl));
  stores = record { written = c.put_node.ensures.written _ c.set_branch.ensures; free = c.put_node.ensures.free };
}
