-- What staging a page does to the pages of a change, and which page is found by its number.
use Rattle.std.proofs.Common.{◌≡◌, inl, inr, ⊎_elim, Result, Ok, Err, ℕ, zero, suc, ◌+◌, ◌<◌, ◌≤◌, ◌==◌, ◌||◌, Bool, true, false, cond, Option, Some, None, IsSome, List, [], ◌∷◌, ◌++◌, length, take, drop, get_or, refl, sym, ◌∙◌, ap, subst, arith}
use Rattle.std.specs.Map.{keys_of, lookup}
use Rattle.std.specs.Ordering.{nat_cmp, match_ordering}
use Rattle.std.specs.declared.cmp.Ordering.{Ordering}
use Rattle.std.specs.declared.cmp.Ordering.TheVariants.{Less, Equal, Greater}
use Rattle.std.specs.Cmp.{nat_cmp_is}
use Rattle.std.proofs.lemmas.Bool.{cases_lt}
use Rattle.std.proofs.lemmas.Bool.Decides.{nat_tests}
use Rattle.redo_journal.specs.Header.{AreHomes}
use Rattle.redo_journal.specs.Redo.{overlay, page_or, is_listed}
use Rattle.redo_journal.specs.Staging.{AddsOne, OverlaysOne}
use Rattle.redo_journal.specs.Change.{with_page}

not_equal : (m n : ℕ) → (m ≡ n → ⊥) → (m == n) ≡ false
not_equal m n apart = grind (arith, nat_tests)

same_number : (m n : ℕ) → m ≡ n → (m == n) ≡ true
same_number m n is = grind (arith, nat_tests)

-- the three ways of a page into a list
module _ (n m : ℕ) (page first : List ℕ) (es : List (ℕ × List ℕ)) (P : List (ℕ × List ℕ) → Type 0) where
  pub by_order : (n < m → P ((n, page) ∷ (m, first) ∷ es)) → (n ≡ m → P ((m, page) ∷ es)) → (m < n → P ((m, first) ∷ with_page es n page))
      → P (with_page ((m, first) ∷ es) n page)
  by_order lower same higher =
      ⊎_elim (λ lt. at Less (nat_cmp_is n m Less lt) (lower lt))
      (λ ge. ⊎_elim (λ lt. at Greater (nat_cmp_is n m Greater lt) (higher lt))
      (λ le. at Equal (nat_cmp_is n m Equal (omega (arith, ge, le))) (same (omega (arith, ge, le)))) (cases_lt m n)) (cases_lt n m)
    where
      at : (o : Ordering) → o ≡ nat_cmp n m → P (match_ordering o ((n, page) ∷ (m, first) ∷ es) ((m, page) ∷ es) ((m, first) ∷ with_page es n page))
          → P (with_page ((m, first) ∷ es) n page)
      at o is has = subst (λ (order : Ordering). P (match_ordering order ((n, page) ∷ (m, first) ∷ es) ((m, page) ∷ es) ((m, first) ∷ with_page es n page)))
          is has

-- the page of its own number, and of any other
pub finds_page : (es : List (ℕ × List ℕ)) (n : ℕ) (page : List ℕ) → lookup (λ m. m == n) (with_page es n page) ≡ Some page
finds_page [] n page = ap (λ b. cond b (Some page) None) (same_number n n refl)
finds_page (e ∷ es) n page = by_order n e.0 page e.1 es (λ l. lookup (λ m. m == n) l ≡ Some page)
    (λ lt. ap (λ b. cond b (Some page) (lookup (λ m. m == n) (e ∷ es))) (same_number n n refl))
    (λ is. ap (λ b. cond b (Some page) (lookup (λ m. m == n) es)) (same_number e.0 n (sym is)))
    (λ lt. ap (λ b. cond b (Some e.1) (lookup (λ m. m == n) (with_page es n page))) (not_equal e.0 n (λ is. omega (arith, lt, is))) ∙ finds_page es n page)

pub finds_others : (es : List (ℕ × List ℕ)) (n k : ℕ) (page : List ℕ) → (k ≡ n → ⊥) → lookup (λ m. m == k) (with_page es n page) ≡ lookup (λ m. m == k) es
finds_others [] n k page other = ap (λ b. cond b (Some page) None) (not_equal n k (λ is. other (sym is)))
finds_others (e ∷ es) n k page other = by_order n e.0 page e.1 es (λ l. lookup (λ m. m == k) l ≡ lookup (λ m. m == k) (e ∷ es))
    (λ lt. ap (λ b. cond b (Some page) (lookup (λ m. m == k) (e ∷ es))) (not_equal n k (λ is. other (sym is))))
    (λ is.
    let apart : (e.0 == k) ≡ false = not_equal e.0 k (λ same. other (sym same ∙ sym is)) in
    ap (λ b. cond b (Some page) (lookup (λ m. m == k) es)) apart ∙ sym (ap (λ b. cond b (Some e.1) (lookup (λ m. m == k) es)) apart))
    (λ lt. ap (λ found. cond (e.0 == k) (Some e.1) found) (finds_others es n k page other))

pub lays_one : (es : List (ℕ × List ℕ)) (n : ℕ) (page : List ℕ) → OverlaysOne n page es (with_page es n page)
lays_one es n page = record {
  here = λ pages. ap (λ found. page_or found (pages n)) (finds_page es n page);
  elsewhere = λ pages m other. ap (λ found. page_or found (pages m)) (finds_others es n m page other);
}

-- how many there are then, and which
longer : (es : List (ℕ × List ℕ)) (n : ℕ) (page : List ℕ) → (length es ≤ length (with_page es n page)) × (length (with_page es n page) ≤ length es + 1)
longer [] n page = (omega arith, omega arith)
longer (e ∷ es) n page = by_order n e.0 page e.1 es (λ l. (length (e ∷ es) ≤ length l) × (length l ≤ length (e ∷ es) + 1))
    (λ lt. (omega arith, omega arith)) (λ is. (omega arith, omega arith)) (λ lt. (omega (arith, (longer es n page).0), omega (arith, (longer es n page).1)))

swapped : (a b c : Bool) → (a || (b || c)) ≡ (b || (a || c))
swapped true true c = refl
swapped true false c = refl
swapped false true c = refl
swapped false false c = refl

twice : (a b : Bool) → (a || (a || b)) ≡ (a || b)
twice true b = refl
twice false b = refl

numbers_then : (es : List (ℕ × List ℕ)) (n : ℕ) (page : List ℕ) (m : ℕ) → is_listed m (keys_of (with_page es n page)) ≡ (n == m || is_listed m (keys_of es))
numbers_then [] n page m = refl
numbers_then (e ∷ es) n page m = by_order n e.0 page e.1 es (λ l. is_listed m (keys_of l) ≡ (n == m || is_listed m (keys_of (e ∷ es))))
    (λ lt. refl)
    (λ is. sym (ap (λ k. (k == m || (e.0 == m || is_listed m (keys_of es)))) is ∙ twice (e.0 == m) (is_listed m (keys_of es))))
    (λ lt. ap (λ b. e.0 == m || b) (numbers_then es n page m) ∙ swapped (e.0 == m) (n == m) (is_listed m (keys_of es)))

pub joins_one : (es : List (ℕ × List ℕ)) (n : ℕ) (page : List ℕ) → AddsOne n es (with_page es n page)
joins_one es n page = record { no_fewer = (longer es n page).0; one_more = (longer es n page).1; numbers_are = numbers_then es n page }

-- an entry among ascending ones is found by its number
pub found_among : (total last n : ℕ) (page : List ℕ) (before after : List (ℕ × List ℕ)) → AreHomes total last (keys_of (before ++ (n, page) ∷ after))
    → (lookup (λ m. m == n) (before ++ (n, page) ∷ after) ≡ Some page) × (last < n)
found_among total last n page [] after homes = (ap (λ b. cond b (Some page) (lookup (λ m. m == n) after)) (same_number n n refl), homes.1)
found_among total last n page (e ∷ before) after homes =
    let rest = found_among total e.0 n page before after homes.2 in (
      ap (λ b. cond b (Some e.1) (lookup (λ m. m == n) (before ++ (n, page) ∷ after))) (not_equal e.0 n (λ is. omega (arith, rest.1, is))) ∙ rest.0,
      omega (arith, homes.1, rest.1),
    )

pub found_at : (total n m place : ℕ) (page : List ℕ) (es : List (ℕ × List ℕ)) → AreHomes total 0 (keys_of es)
    → es ≡ take place es ++ (m, page) ∷ drop (place + 1) es → m ≡ n
    → lookup (λ k. k == n) es ≡ Some page
found_at total n m place page es homes is same =
    subst (λ (k : ℕ). lookup (λ j. j == k) es ≡ Some page) same
    (ap (λ l. lookup (λ j. j == m) l) is
    ∙ (found_among total 0 m page (take place es) (drop (place + 1) es) (subst (λ l. AreHomes total 0 (keys_of l)) is homes)).0)
