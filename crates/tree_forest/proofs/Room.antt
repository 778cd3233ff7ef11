-- The trees of a store leave pages of the pool free.
use Rattle.std.proofs.Common.{◌≡◌, ℕ, zero, suc, ◌+◌, ◌*◌, ◌≤◌, ◌<◌, ◌==◌, ◌||◌, Bool, true, false, List, [], ◌∷◌, ◌++◌, length, get_or, refl, sym, ap, subst, ◌∙◌, arith}
use Rattle.std.specs.Prelude.{IsTrue, sum_by, if◌then◌else◌}
use Rattle.std.specs.List.{AllByRecursion, range_with_len}
use Rattle.std.specs.Set.{is_member}
use Rattle.std.proofs.lemmas.Bool.Decides.{nat_tests}
use Rattle.std.proofs.lemmas.Cmp.{nat_eq_equiv}
use Rattle.std.proofs.lemmas.List.{length-append}
use Rattle.std.proofs.lemmas.List.FromFn.{length-range_with_len}
use Rattle.std.proofs.lemmas.Map.Made.{length-le_from_is_member}
use Rattle.page_laws.specs.declared.root.Root.{Root}
use Rattle.page_laws.specs.FreeLaws.{among_all, range_free}
use Rattle.page_laws.specs.Pages.{is_among}
use Rattle.free_list.specs.FreeNumbers.{is_within}
use Rattle.bptree_node.specs.declared.rows.Entry.{Entry}
use Rattle.bptree_node.specs.Trees.{IsBPlusTree, list_at}
use Rattle.bptree_edit.specs.NodesAt.{times}
use Rattle.bptree_edit.proofs.Counts.{times-append, times-among}
use Rattle.store_check.specs.Layout.{pool_pages}
use Rattle.store_check.specs.Profile.{no_root}
use Rattle.tree_bounds.proofs.Room.{room-left}
use Rattle.tree_state.specs.StoreTrees.{tree_pages}
use Rattle.tree_forest.specs.Forests.{root_at, FillPool, IsForest}

turned : (n : ℕ) (xs : List ℕ) → is_among n xs ≡ is_member (λ a b. a == b) xs n
turned n [] = refl
turned n (x ∷ xs) = ap (λ b. b || is_among n xs) (nat_eq_equiv.symm x n) ∙ ap (λ b. (n == x) || b) (turned n xs)

all_roots : (P : Root → Type 0) (roots : List Root) → ((k : ℕ) → k < length roots → P (get_or roots k no_root)) → AllByRecursion P roots
all_roots P [] each = tt
all_roots P (r ∷ rs) each = (each 0 (omega arith), all_roots P rs (λ k below. each (suc k) (omega (arith, below))))

inside : (first count n : ℕ) → first ≤ n → n < first + count → is_within first count n ≡ true
inside first count n least below = grind (arith, nat_tests, least, below)

-- a pool that free and used pages fill has no more pages than these
pub pool_counted : (first count : ℕ) (free used : List ℕ) → FillPool (is_within first count) free used → count ≤ length free + length used
pool_counted first count free used fill =
    let all = range_free (is_within first count) first count (inside first count) in
    let most : length (range_with_len first count) ≤ length (free ++ used) =
    length-le_from_is_member nat_eq_equiv (range_with_len first count) (free ++ used) all.distinct (λ n is.
    let there = among_all (λ m. IsTrue (is_within first count m)) n (range_with_len first count) all.pool (turned n (range_with_len first count) ∙ is) in
    let one : times n free + times n used ≡ 1 = fill n ∙ ap (λ b. if b then 1 else 0) there in
    sym (turned n (free ++ used)) ∙ times-among n (free ++ used) (omega (arith, one, times-append n free used))) in
    omega (arith, most, length-range_with_len first count, length-append free used)

pub room : (are_corners : ℕ → List Entry → ℕ → ℕ → Type 0) (cap first : ℕ) (home : ℕ → List ℕ) (free : List ℕ) (roots : List Root)
    → IsForest are_corners home (is_within first (pool_pages cap)) free roots → length roots ≤ 8
    → sum_by (λ (root : Root). length (list_at home root)) roots ≤ 2 * cap → 29 ≤ length free
room are_corners cap first home free roots forest eight entries =
    let pool = is_within first (pool_pages cap) in
    let trees = all_roots (λ (root : Root). IsBPlusTree home pool root) roots (λ k below. (forest.trees k below).tree) in
    omega (arith, room-left home pool cap roots eight trees entries, pool_counted first (pool_pages cap) free (tree_pages home roots) forest.pages)
