use Rattle.std.proofs.Common.{◌≡◌}
use Rattle.page_laws.specs.PlainPages.{in_pool, zeros}
use Rattle.check_tests.proofs.trees.live_pages.Given as goal

abbrev pub invariant-loop : goal.invariant-loop
invariant-loop l = in_pool l.pages ≡ in_pool (zeros l.fn.count 1)
