use Rattle.std.proofs.Common.{refl, arith}
use Rattle.store_tests.proofs.NoTrees.{no_trees, three_bits}
use Rattle.store_tests.proofs.new_files.profile_of.Goals as goal

pub returns-clause-range : goal.returns-clause-range
returns-clause-range c = record {
  fit = refl;
  some_pivots = omega arith;
  few_pivots = omega arith;
  width = three_bits;
  few_bits = omega arith;
  some_cap = c.requires.0;
  few = c.requires.1;
  trees = no_trees;
}
