use Rattle.std.proofs.Common.{refl}
use Rattle.std.specs.List.{IsDistinct}
use Rattle.store_tests.proofs.free_numbers.the_last_free_number_is_taken.Goals as goal

pub new-requires-clause-free : goal.new-requires-clause-free
unfolding IsDistinct
new-requires-clause-free g c = record { pool = (refl, (refl, tt)); distinct = ((refl, tt), (tt, tt)) }
