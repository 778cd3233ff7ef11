-- The pages that a check marks.
use Rattle.std.proofs.Common.{◌≡◌, ℕ, ◌+◌, Bool, length, ap, subst, sym, ◌∙◌, arith}
use Rattle.std.specs.Prelude.{IsTrue, ◌&&◌, nat_le, nat_lt, replicate}
use Rattle.std.proofs.lemmas.Bool.{and_parts}
use Rattle.std.proofs.lemmas.List.{length-replicate}
use Rattle.std.proofs.lemmas.Bool.Decides.{nat_tests}
use Rattle.page_laws.specs.declared.pages.TheConstants.{PAGE_SIZE}
use Rattle.free_list.specs.FreeNumbers.{is_within}
use Rattle.page_laws.specs.PlainPages.{in_pool, zeros}
use Rattle.tree_check.specs.PageSets.{Marks, covers, CoversPool, HasSameRange}

-- those of another state still have the pool
pub kept : (old_pool new_pool : ℕ → Bool) (old new : Marks) → new_pool ≡ old_pool → HasSameRange old new → CoversPool old_pool old → CoversPool new_pool new
kept old_pool new_pool old new pool range all = λ n inside.
    let first : covers new n ≡ (nat_le old.first n && nat_lt n (old.first + length new.marks)) = ap (λ (f : ℕ). nat_le f n && nat_lt n (f + length new.marks)) range.first in
    let count : (nat_le old.first n && nat_lt n (old.first + length new.marks)) ≡ covers old n = ap (λ (k : ℕ). nat_le old.first n && nat_lt n (old.first + k)) range.count in
    subst IsTrue (sym (first ∙ count)) (all n (subst (λ (there : ℕ → Bool). IsTrue (there n)) pool inside))

-- those of all pages have the pool behind the first one
pub new_covers : (pool : ℕ → Bool) (count : ℕ) (used : Marks) → pool ≡ in_pool (zeros count 1) → ((n : ℕ) → covers used n ≡ is_within 0 count n) → CoversPool pool used
new_covers pool count used is range = λ n inside.
    let there : IsTrue (in_pool (zeros count 1) n) = subst (λ (p : ℕ → Bool). IsTrue (p n)) is inside in
    let long = length-replicate count (replicate PAGE_SIZE 0) in
    subst IsTrue (sym (range n)) (within n (subst (λ (k : ℕ). IsTrue (nat_lt n k)) long (and_parts (nat_le 1 n) (nat_lt n (length (replicate count (replicate PAGE_SIZE 0)))) there).1))
  where
    within : (n : ℕ) → IsTrue (nat_lt n count) → IsTrue (is_within 0 count n)
    within n below = grind (arith, nat_tests, below)
