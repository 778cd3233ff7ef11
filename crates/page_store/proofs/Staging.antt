-- A page that is staged, as one that is put in a change.
use Rattle.std.proofs.Common.{◌≡◌, inl, inr, ℕ, ◌+◌, ◌<◌, ◌==◌, true, false, not, ◌||◌, List, [], ◌∷◌, length, cond, Option, Some, None, Bor, refl, sym, ap, ◌∙◌, arith}
use Rattle.std.specs.Prelude.{count_by, is_some, MatchOption}
use Rattle.std.specs.Map.{lookup, keys_of}
use Rattle.std.proofs.lemmas.Bool.{cases_eq, false≢true}
use Rattle.std.proofs.lemmas.Bool.Decides.{nat_tests}
use Rattle.std.proofs.lemmas.List.Sums.{sum_by-cons}
use Rattle.std.proofs.lemmas.Map.Entries.{length-keys_of}
use Rattle.std.proofs.lemmas.Map.Made.{is_some-lookup}
use Rattle.page_laws.specs.Pages.{is_among, HasRoom, JoinsAtMost}
use Rattle.redo_journal.specs.Staging.{AddsOne}

different : (m n : ℕ) → (m ≡ n → ⊥) → (m == n) ≡ false
different m n other = grind (arith, nat_tests)

equal : (m n : ℕ) → m ≡ n → (m == n) ≡ true
equal m n is = grind (arith, nat_tests)

none_equal : (n : ℕ) (ks : List ℕ) → is_among n ks ≡ false → count_by (λ m. not (m == n)) ks ≡ length ks
none_equal n [] none = refl
none_equal n (k ∷ ks) none = elim (cases_eq k n) [
  | inl same ↦ absurd (false≢true (sym none ∙ ap (λ b. b || is_among n ks) (equal k n same)))
  | inr other ↦
      let apart = different k n other in
      let rest : is_among n ks ≡ false = sym (ap (λ b. b || is_among n ks) apart) ∙ none in
      let first : count_by (λ m. not (m == n)) (k ∷ ks) ≡ 1 + count_by (λ m. not (m == n)) ks =
      sum_by-cons (λ m. cond (not (m == n)) 1 0) k ks ∙ ap (λ b. cond (not b) 1 0 + count_by (λ m. not (m == n)) ks) apart in
      omega (arith, first, none_equal n ks rest)
]

-- if there is room for a page that isn't there, fewer are there than a change may have
pub absent_room : (n : ℕ) (es : List (ℕ × List ℕ)) → lookup (λ m. m == n) es ≡ None → HasRoom n (keys_of es) → length es < 80
absent_room n es absent room =
    let none : is_among n (keys_of es) ≡ false = sym (is_some-lookup (λ m. m == n) es) ∙ ap is_some absent in
    let all : count_by (λ m. not (m == n)) (keys_of es) ≡ length es = none_equal n (keys_of es) none ∙ length-keys_of es in
    omega (arith, room, all)

-- no number but this one joins those of a change
pub joins : (n : ℕ) (old new : List (ℕ × List ℕ)) → AddsOne n old new → JoinsAtMost n (keys_of old) (keys_of new)
joins n old new adds = record {
  others_are = λ m other. adds.numbers_are m ∙ ap (λ b. b || is_among m (keys_of old)) (different n m (λ is. other (sym is)));
  one_more = omega (arith, adds.one_more, length-keys_of old, length-keys_of new);
}

-- whether a staged page was found is whether it is there
pub staged_found : (n : ℕ) (es : List (ℕ × List ℕ)) (o : Option (Bor (List ℕ)))
    → MatchOption o (lookup (λ m. m == n) es ≡ None) (λ page. lookup (λ m. m == n) es ≡ Some page.now) → is_some o ≡ is_among n (keys_of es)
staged_found n es None is = ap is_some (sym is) ∙ is_some-lookup (λ m. m == n) es
staged_found n es (Some page) is = ap is_some (sym is) ∙ is_some-lookup (λ m. m == n) es
