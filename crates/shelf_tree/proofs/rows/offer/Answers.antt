use Rattle.std.proofs.Common.{inl, refl, sym, ap, ◌∙◌}
use Rattle.std.specs.Prelude.{nat_le}
use Rattle.near_search.specs.Least.{least_of}
use Rattle.near_search.specs.Queue.{count_before}
use Rattle.near_search.proofs.Counting.{shut-is}
use Rattle.shelf_tree.proofs.rows.offer.Goals as goal

pub returns-then-shuts_out : goal.returns-then-shuts_out
returns-then-shuts_out c =
    let best = c.args.best.now in
    inl (refl, shut-is best.most _ (sym c.if-shuts_out.true ∙ c.shuts_out.ensures ∙ ap (λ p. nat_le best.most (count_before p (least_of best))) c.key.ensures))
