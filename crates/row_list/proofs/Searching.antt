-- What a search by halves says of rows in order.
use Rattle.std.proofs.Common.{◌≡◌, ℕ, ◌<◌, ◌≤◌, Result, Ok, Err, List, length, get_or, MatchResult, ⊎_elim, ap, subst, arith}
use Rattle.std.specs.Ordering.{nat_cmp, ordering_index, MatchOrdering}
use Rattle.std.specs.List.Sorted.{IsBinarySearchResult, IsSearchInRange}
use Rattle.std.specs.Cmp.{ranks}
use Rattle.std.specs.declared.cmp.Ordering.{Ordering}
use Rattle.std.specs.declared.cmp.Ordering.TheVariants.{Less, Equal, Greater}
use Rattle.std.proofs.lemmas.Bool.{cases_eq}
use Rattle.std.proofs.lemmas.Bool.Decides.{nat_tests}
use Rattle.pivot_map.specs.declared.row.Row.{Row}
use Rattle.row_list.specs.Lists.{IsInOrder, IsPlaceOf, IsPlaceFor}

compared : (m n : ℕ) (order : Ordering) → nat_cmp m n ≡ order → MatchOrdering order (m < n) (m ≡ n) (n < m)
compared m n order is = subst (λ o. MatchOrdering o (m < n) (m ≡ n) (n < m)) is (ranks m n)

higher : (a b id : ℕ) → a ≤ b → ordering_index (nat_cmp a id) ≤ ordering_index (nat_cmp b id)
higher a b id le = grind (arith, nat_tests)

pub rows_searched : (rows : List Row) (id : ℕ) (answer : Result ℕ ℕ) → IsInOrder rows → IsSearchInRange answer (length rows)
    → IsBinarySearchResult (λ (row : Row). nat_cmp row.id id) rows answer → MatchResult answer (IsPlaceOf rows id) (IsPlaceFor rows id)
rows_searched rows id (Ok place) order within found = record {
  within = within;
  is = λ d. compared (get_or rows place d).id id Equal (found d);
}
rows_searched rows id (Err place) order within parted =
    let parts = parted (λ i j d le below. higher (get_or rows i d).id (get_or rows j d).id id
    (⊎_elim (λ same. omega (arith, ap (λ n. (get_or rows n d).id) same))
    (λ apart. omega (arith, order i j d (omega (arith, le, apart)) below)) (cases_eq i j))) in
    record {
      within = within;
      lower = λ k d less. compared (get_or rows k d).id id Less (parts.0 k d (omega arith) less);
      greater = λ k d le below. compared (get_or rows k d).id id Greater (parts.1 k d le below);
    }
