use Rattle.std.specs.BinaryHeap.{heap_items}
use Rattle.std.proofs.lemmas.List.Sorted.{IsPermutation-map}
use Rattle.near_search.proofs.Orders.{turned_back}
use Rattle.near_search.proofs.queue.Queue.of.Goals as goal

pub returns : goal.returns
returns c = IsPermutation-map turned_back c.args.items.items (heap_items c.from.result) c.from.ensures.1
