use Rattle.std.proofs.Common.{◌∙◌}
use Rattle.answer_lists.specs.Order.{goes_before}
use Rattle.answer_lists.specs.OrderLaws as laws
use Rattle.near_search.proofs.best.Best.into_ranks.Goals as goal

pub returns : goal.returns
returns c = c.from.ensures ∙ laws.sorted_by-from_sort goes_before laws.pair_order _ _ c.into_sorted_vec.ensures.permutation
    (c.into_sorted_vec.ensures.sorted c.args.self.ordered)
