-- The store of the tests: strings of four bytes, without trees.
use Rattle.std.proofs.Common.{◌≡◌, ℕ, ◌+◌, ◌<◌, replicate, refl, sym, subst, arith}
use Rattle.std.specs.Prelude.{IsTrue, All, slice_index_or}
use Rattle.std.proofs.lemmas.List.{get_or-replicate}
use Rattle.metrics_builtin.specs.Space.{bit_count}
use Rattle.page_laws.specs.declared.root.Root.{Root}
use Rattle.store_check.specs.Profile.{AreRoots, is_root, are_paired, no_root}

abbrev pub none : Root
none = record { page = 0; height = 0 }

-- no roots
pub no_trees : AreRoots (replicate 8 none)
no_trees = record { eight = refl; each = each; paired = paired }
  where
    each : All (λ root. IsTrue (is_root root)) (replicate 8 none)
    each k d lt = subst (λ r. IsTrue (is_root r)) (sym (get_or-replicate 8 k none d lt)) refl

    paired : (c : ℕ) → c < 4 → IsTrue (are_paired (slice_index_or (replicate 8 none) c no_root) (slice_index_or (replicate 8 none) (4 + c) no_root))
    paired c lt =
        subst (λ r. IsTrue (are_paired r (slice_index_or (replicate 8 none) (4 + c) no_root))) (sym (get_or-replicate 8 c none no_root (omega (arith, lt))))
        (subst (λ r. IsTrue (are_paired none r)) (sym (get_or-replicate 8 (4 + c) none no_root (omega (arith, lt)))) refl)

-- distances of up to four take three bits
pub three_bits : 3 ≡ bit_count 4
unfolding bit_count
three_bits = refl
