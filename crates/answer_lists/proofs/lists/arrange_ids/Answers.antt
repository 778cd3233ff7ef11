use Rattle.answer_lists.proofs.Arranging.{ids-from_sort}
use Rattle.answer_lists.proofs.lists.arrange_ids.Goals as goal

pub returns : goal.returns
returns c = ids-from_sort _ _ c.sort_unstable.ensures.permutation c.sort_unstable.ensures.sorted
