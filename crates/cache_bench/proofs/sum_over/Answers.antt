use Rattle.std.specs.List.{IsDistinct}
use Rattle.cache_bench.proofs.sum_over.Goals as goal

-- no page is free
pub new-requires-2-clause-free : goal.new-requires-2-clause-free
unfolding IsDistinct
new-requires-2-clause-free g c = record { pool = tt; distinct = tt }
