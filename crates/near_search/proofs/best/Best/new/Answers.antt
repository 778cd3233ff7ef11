use Rattle.std.proofs.Common.{ap, ◌∙◌}
use Rattle.answer_lists.specs.Order.{goes_before, sorted_by}
use Rattle.near_search.proofs.Counting.{sorted_by-none}
use Rattle.near_search.proofs.best.Best.new.Goals as goal

pub returns-clause-ranks : goal.returns-clause-ranks
returns-clause-ranks c = ap (sorted_by goes_before) c.new.ensures.items ∙ sorted_by-none
