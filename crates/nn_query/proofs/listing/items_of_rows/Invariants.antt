use Rattle.std.proofs.Common.{◌≡◌, map, take}
use Rattle.near_search.specs.Queue.{as_waiting}
use Rattle.nn_query.specs.Listed.{candidates_for}
use Rattle.near_search.proofs.Orders.{turned_back}
use Rattle.nn_query.proofs.listing.items_of_rows.Given as goal

abbrev pub invariant-loop-place : goal.invariant-loop-place
invariant-loop-place l = map turned_back l.found.items ≡ map as_waiting (candidates_for l.asked 0 (take l.place l.rows))
