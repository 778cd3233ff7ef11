-- The items of a queue.
use Rattle.std.specs.Prelude.{List, map}
use Rattle.std.specs.BinaryHeap.{heap_items}
use Rattle.std.specs.declared.cmp.Reverse.{Reverse}
use Rattle.near_search.specs.declared.queue.Queue.{Queue}
use Rattle.near_search.specs.declared.queue.Waiting.{Waiting}

-- in no order
abbrev pub items_of : Queue → List Waiting
items_of queue = map (λ (turned : Reverse Waiting). turned.0) (heap_items queue.heap)
