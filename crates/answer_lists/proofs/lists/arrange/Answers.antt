use Rattle.answer_lists.proofs.Arranging.{sorted_by-from_sort}
use Rattle.answer_lists.proofs.lists.arrange.Goals as goal

pub returns : goal.returns
returns c = sorted_by-from_sort _ _ c.sort_unstable.ensures.permutation c.sort_unstable.ensures.sorted
