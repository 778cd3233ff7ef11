-- How many pages of the pool the trees of a store leave.
use Rattle.std.proofs.Common.{◌≡◌, ℕ, zero, suc, ◌+◌, ◌*◌, ◌≤◌, Bool, List, [], ◌∷◌, ◌++◌, length, arith}
use Rattle.std.specs.Prelude.{sum_by}
use Rattle.std.specs.List.{flat_map, range_with_len, AllByRecursion}
use Rattle.std.specs.List.Sorted.{IsPermutation}
use Rattle.std.proofs.lemmas.List.{length-append}
use Rattle.std.proofs.lemmas.List.FromFn.{length-range_with_len}
use Rattle.std.proofs.lemmas.List.Sorted.{length_permutation}
use Rattle.std.proofs.lemmas.List.Sums.{sum_by-cons}
use Rattle.page_laws.specs.declared.root.Root.{Root}
use Rattle.bptree_node.specs.Trees.{list_at, pages_at, IsBPlusTree}
use Rattle.store_check.specs.Layout.{pool_pages}
use Rattle.tree_bounds.proofs.FewPages.{few-pages}

module _ (pages : ℕ → List ℕ) (is_live : ℕ → Bool) where
  few-in-all : (roots : List Root) → AllByRecursion (λ (root : Root). IsBPlusTree pages is_live root) roots
      → 15 * length (flat_map (λ (root : Root). pages_at pages root) roots) ≤ 2 * sum_by (λ (root : Root). length (list_at pages root)) roots + 15 * length roots
  few-in-all [] are = omega arith
  few-in-all (root ∷ roots) are =
      omega (
        arith,
        length-append (pages_at pages root) (flat_map (λ (root : Root). pages_at pages root) roots),
        sum_by-cons (λ (root : Root). length (list_at pages root)) root roots,
        few-pages pages is_live root are.0,
        few-in-all roots are.1,
      )

  pub room-left : (cap : ℕ) (roots : List Root) → length roots ≤ 8 → AllByRecursion (λ (root : Root). IsBPlusTree pages is_live root) roots
      → sum_by (λ (root : Root). length (list_at pages root)) roots ≤ 2 * cap
      → length (flat_map (λ (root : Root). pages_at pages root) roots) + 29 ≤ pool_pages cap
  room-left cap roots eight are entries = omega (arith, eight, entries, few-in-all roots are)

  pub free-left : (cap first : ℕ) (roots : List Root) (free : List ℕ) → length roots ≤ 8 → AllByRecursion (λ (root : Root). IsBPlusTree pages is_live root) roots
      → sum_by (λ (root : Root). length (list_at pages root)) roots ≤ 2 * cap
      → IsPermutation (free ++ flat_map (λ (root : Root). pages_at pages root) roots) (range_with_len first (pool_pages cap)) → 29 ≤ length free
  free-left cap first roots free eight are entries all =
      let used = flat_map (λ (root : Root). pages_at pages root) roots in
      omega (
        arith,
        room-left cap roots eight are entries,
        length-append free used,
        length_permutation (free ++ used) (range_with_len first (pool_pages cap)) all,
        length-range_with_len first (pool_pages cap),
      )
