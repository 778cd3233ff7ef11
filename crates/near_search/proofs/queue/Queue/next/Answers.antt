use Rattle.std.specs.BinaryHeap.{heap_items}
use Rattle.std.proofs.lemmas.List.Sorted.{IsPermutation-map}
use Rattle.near_search.proofs.Orders.{turned_back, top-first}
use Rattle.near_search.proofs.queue.Queue.next.Goals as goal

pub returns-in-Some-clause-some : goal.returns-in-Some-clause-some
returns-in-Some-clause-some c = IsPermutation-map turned_back _ _ c.in-Some.ensures.permutation

pub returns-in-Some-clause-first : goal.returns-in-Some-clause-first
returns-in-Some-clause-first c = top-first c.in-Some.first.0 (heap_items c.pop.new.self) (c.in-Some.ensures.below_top c.args.self.now.ordered)
