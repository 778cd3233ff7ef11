use Rattle.std.proofs.Common.{refl, arith}
use Rattle.metrics_builtin.specs.Space.{bit_count}
use Rattle.store_check.specs.Profile.{no_root}
use Rattle.store_check.proofs.Reading.{AreTrees, eight_roots}
use Rattle.store_tests.proofs.profiles.a_profile_is_read_and_written.Goals as goal

two_trees : AreTrees (record { page = 16469; height = 2 }) (record { page = 16470; height = 1 })
two_trees = record { curve_is = refl; ids_is = refl; paired = refl }

no_trees : AreTrees no_root no_root
no_trees = record { curve_is = refl; ids_is = refl; paired = refl }

pub write_profile-requires : goal.write_profile-requires
unfolding bit_count
write_profile-requires g c = record {
  fit = refl;
  some_pivots = omega arith;
  few_pivots = omega arith;
  width = refl;
  few_bits = omega arith;
  some_cap = omega arith;
  few = omega arith;
  trees = eight_roots _ _ _ _ _ _ _ _ two_trees no_trees no_trees no_trees;
}
