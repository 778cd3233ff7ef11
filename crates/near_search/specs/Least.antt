-- The least ranks of those that were seen.
use Rattle.std.specs.Prelude.{List}
use Rattle.std.specs.BinaryHeap.{heap_items}
use Rattle.spb_defs.specs.Scans.{Rank}
use Rattle.answer_lists.specs.Order.{goes_before, sorted_by}
use Rattle.near_search.specs.declared.best.Best.{Best}

-- the ranks that are kept, in order
abbrev pub least_of : Best → List Rank
least_of best = sorted_by goes_before (heap_items best.heap)
