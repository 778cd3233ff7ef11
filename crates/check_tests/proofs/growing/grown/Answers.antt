use Rattle.std.proofs.Common.{◌∙◌}
use Rattle.check_tests.proofs.growing.grown.Goals as goal

pub checked-requires-clause-pool : goal.checked-requires-clause-pool
checked-requires-clause-pool c = c.grow.ensures.pool ∙ c.in_ok-pages.ensures.pool
