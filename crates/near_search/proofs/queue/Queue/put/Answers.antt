use Rattle.std.proofs.lemmas.List.Sorted.{IsPermutation-map}
use Rattle.near_search.proofs.Orders.{turned_back}
use Rattle.near_search.proofs.queue.Queue.put.Goals as goal

pub returns : goal.returns
returns c = IsPermutation-map turned_back _ _ c.in_ok-push.ensures.permutation
