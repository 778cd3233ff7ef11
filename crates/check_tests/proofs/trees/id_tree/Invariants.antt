use Rattle.std.proofs.Common.{◌≡◌}
use Rattle.page_laws.specs.PlainPages.{in_pool, zeros}
use Rattle.check_tests.proofs.trees.id_tree.Given as goal

abbrev pub invariant-loop-n : goal.invariant-loop-n
invariant-loop-n l = in_pool l.pages ≡ in_pool (zeros 19 1)
