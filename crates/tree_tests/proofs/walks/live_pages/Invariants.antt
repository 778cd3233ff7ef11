use Rattle.std.proofs.Common.{◌≡◌}
use Rattle.page_laws.specs.PlainPages.{has, zeros}
use Rattle.tree_tests.proofs.walks.live_pages.Given as goal

abbrev pub invariant-loop : goal.invariant-loop
invariant-loop l = has l.pages ≡ has (zeros 4 1)
