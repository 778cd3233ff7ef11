-- What the tests owe of their pages.
use Rattle.std.proofs.Common.{[]}
use Rattle.std.specs.List.{IsDistinct}
use Rattle.page_laws.specs.Pages.{AreFree}
use Rattle.free_list.specs.FreeNumbers.{is_within}

-- no page of a pool of fifteen
pub none_free : AreFree (is_within 85 15) []
unfolding IsDistinct
none_free = record { pool = tt; distinct = tt }
