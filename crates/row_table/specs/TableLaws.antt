-- Rows by their ids, if no two have the same id.
use Rattle.std.proofs.Common.{◌≡◌, ◌≢◌, ℕ, ◌+◌, ◌<◌, ◌≤◌, Bool, true, false, not, cond, Option, Some, None, List, [], ◌∷◌, ◌++◌, length, get_or, All, Contains, IsPermutation, swap, ⊎_elim, refl, sym, ap, ◌∙◌, zero, suc, arith, if◌then◌else◌, ◌==◌}
use Rattle.std.specs.Option.{option_or}
use Rattle.std.proofs.lemmas.Bool.Decides.{nat_tests}
use Rattle.std.proofs.lemmas.List.{get_or_default}
use Rattle.std.proofs.lemmas.List.Folds.{find-append}
use Rattle.std.proofs.lemmas.List.Kept.{AllPairs-filter}
use Rattle.std.proofs.lemmas.List.Quantifiers.{all_pairs_push}
use Rattle.std.proofs.lemmas.List.Sorted.{IsPermutation-sym, IsPermutation-swap, IsPermutation-keeps, Contains-permutation, length_permutation}
use Rattle.std.proofs.lemmas.List.Edits.{Swapped, swapped_from_swap}
use Rattle.std.proofs.lemmas.Bool.{cases_eq, cases_order}
use Rattle.pivot_map.specs.declared.row.Row.{Row}
use Rattle.row_table.specs.Tables.{has_id, row_with, rows_without, HasDistinctIds}
use Rattle.row_table.specs.Finding.{find-at, find-none}
use Rattle.answer_lists.specs.Permutations.{permutation-filter}

pub not_equal : (m n : ℕ) → m ≢ n → (m == n) ≡ false
not_equal m n h = grind (arith, nat_tests)

pub equal : (m n : ℕ) → m ≡ n → (m == n) ≡ true
equal m n h = grind (arith, nat_tests)

pub from_equal : (m n : ℕ) → (m == n) ≡ true → m ≡ n
from_equal m n h = grind (arith, nat_tests)

pub none_is_row : (row : Row) → ◌≡◌ {A = Option Row} None (Some row) → ⊥
none_is_row row h = cc

same_row : (a b : Row) → ◌≡◌ {A = Option Row} (Some a) (Some b) → a ≡ b
same_row a b h = cc

false_is_true : ◌≡◌ {A = Bool} false true → ⊥
false_is_true h = cc

-- ---- the row with an id

-- what a look-up finds, by whether the first row has the id
pub row_with-cons : (row : Row) (rows : List Row) (id : ℕ) (b : Bool) → has_id id row ≡ b → row_with id (row ∷ rows) ≡ cond b (Some row) (row_with id rows)
row_with-cons row rows id b is = ap (λ b. cond b (Some row) (row_with id rows)) is

-- a row of the table is that of its id
pub row_with-Contains : (rows : List Row) → HasDistinctIds rows → (row : Row) → Contains rows row → row_with row.id rows ≡ Some row
row_with-Contains rows distinct row (place, below, at) =
    find-at (has_id row.id) rows place row below (sym at) (equal row.id row.id refl) (λ k d before. not_equal (get_or rows k d).id row.id (λ same.
    distinct k place d before below (same ∙ ap (λ (r : Row). r.id) (sym at ∙ get_or_default rows place row d below))))

-- the row with an id has it
pub row_with-id : (rows : List Row) (id : ℕ) (row : Row) → row_with id rows ≡ Some row → row.id ≡ id
row_with-id [] id row there = absurd (none_is_row row there)
row_with-id (r ∷ rs) id row there = from (has_id id r) refl (row_with-id rs id row)
  where
    from : (b : Bool) → has_id id r ≡ b → (row_with id rs ≡ Some row → row.id ≡ id) → row.id ≡ id
    from true is rest = ap (λ (r : Row). r.id) (sym (same_row r row (sym (row_with-cons r rs id true is) ∙ there))) ∙ from_equal r.id id is
    from false is rest = rest (sym (row_with-cons r rs id false is) ∙ there)

-- and is a row of the table
pub Contains-row_with : (rows : List Row) (id : ℕ) (row : Row) → row_with id rows ≡ Some row → Contains rows row
Contains-row_with [] id row there = absurd (none_is_row row there)
Contains-row_with (r ∷ rs) id row there = from (has_id id r) refl (Contains-row_with rs id row)
  where
    from : (b : Bool) → has_id id r ≡ b → (row_with id rs ≡ Some row → Contains rs row) → Contains (r ∷ rs) row
    from true is rest = (0, omega arith, same_row r row (sym (row_with-cons r rs id true is) ∙ there))
    from false is rest =
        let inner = rest (sym (row_with-cons r rs id false is) ∙ there) in
        (suc inner.0, (let below = inner.1 in omega (arith, below)), inner.2)

-- if none is found, no row has the id
pub row_with-none : (rows : List Row) (id : ℕ) → row_with id rows ≡ None → All (λ (row : Row). row.id ≢ id) rows
row_with-none [] id none = λ k d below. absurd (omega (arith, below))
row_with-none (r ∷ rs) id none = from (has_id id r) refl (row_with-none rs id)
  where
    from : (b : Bool) → has_id id r ≡ b → (row_with id rs ≡ None → All (λ (row : Row). row.id ≢ id) rs) → All (λ (row : Row). row.id ≢ id) (r ∷ rs)
    from true is rest = absurd (none_is_row r (sym none ∙ row_with-cons r rs id true is))
    from false is rest = at
      where
        behind : All (λ (row : Row). row.id ≢ id) rs
        behind = rest (sym (row_with-cons r rs id false is) ∙ none)

        at : (k : ℕ) (d : Row) → k < length (r ∷ rs) → (get_or (r ∷ rs) k d).id ≢ id
        at zero d below mine = false_is_true (sym is ∙ equal r.id id mine)
        at (suc k) d below mine = behind k d (omega (arith, below)) mine

-- the order of the rows doesn't matter to it
pub row_with-permutation : (rows others : List Row) → HasDistinctIds rows → IsPermutation rows others → (id : ℕ) → row_with id others ≡ row_with id rows
row_with-permutation rows others distinct same id = from (row_with id others) refl
  where
    -- a row that is found among the others is found among the rows
    back : (row : Row) → row_with id others ≡ Some row → row_with id rows ≡ Some row
    back row there =
        ap (λ n. row_with n rows) (sym (row_with-id others id row there))
        ∙ row_with-Contains rows distinct row
        (Contains-permutation others rows row (IsPermutation-sym rows others same) (Contains-row_with others id row there))

    -- and if there is none among them, there is none among the rows
    nowhere : row_with id others ≡ None → (k : ℕ) (d : Row) → k < length rows → has_id id (get_or rows k d) ≡ false
    nowhere none k d below = not_equal (get_or rows k d).id id (λ mine.
        let r = get_or rows k d in
        let there = Contains-permutation rows others r same (k, below, get_or_default rows k r d below) in
        row_with-none others id none there.0 r there.1 (ap (λ (r : Row). r.id) there.2 ∙ mine))

    from : (b : Option Row) → row_with id others ≡ b → row_with id others ≡ row_with id rows
    from (Some row) there = there ∙ sym (back row there)
    from None none = none ∙ sym (find-none (has_id id) rows (nowhere none))

-- ---- one more row after the others

pub HasDistinctIds-push : (rows : List Row) (row : Row) → HasDistinctIds rows → row_with row.id rows ≡ None → HasDistinctIds (rows ++ row ∷ [])
HasDistinctIds-push rows row distinct none = all_pairs_push (λ (a b : Row). a.id ≢ b.id) rows row distinct (row_with-none rows row.id none)

-- the new row is found by its id, and the others as before
pub row_with-push : (rows : List Row) (row : Row) (id : ℕ) → row_with row.id rows ≡ None
    → row_with id (rows ++ row ∷ []) ≡ (if row.id == id then Some row else row_with id rows)
row_with-push rows row id none = find-append (has_id id) rows (row ∷ []) ∙ from (row.id == id) refl
  where
    nothing : (found : Option Row) → option_or found None ≡ found
    nothing None = refl
    nothing (Some r) = refl

    from : (b : Bool) → (row.id == id) ≡ b → option_or (row_with id rows) (row_with id (row ∷ [])) ≡ (if row.id == id then Some row else row_with id rows)
    from true is =
        ap (λ found. option_or found (row_with id (row ∷ []))) (ap (λ n. row_with n rows) (sym (from_equal row.id id is)) ∙ none)
        ∙ row_with-cons row [] id true is ∙ sym (ap (λ b. if b then Some row else row_with id rows) is)
    from false is =
        ap (option_or (row_with id rows)) (row_with-cons row [] id false is) ∙ nothing (row_with id rows)
        ∙ sym (ap (λ b. if b then Some row else row_with id rows) is)

-- ---- the rows without an id

-- the rows without an id, by whether the first has it
pub rows_without-cons : (row : Row) (rows : List Row) (id : ℕ) (b : Bool) → has_id id row ≡ b
    → rows_without id (row ∷ rows) ≡ cond b (rows_without id rows) (row ∷ rows_without id rows)
rows_without-cons row rows id b is = ap (λ b. cond (not b) (row ∷ rows_without id rows) (rows_without id rows)) is ∙ turned b
  where
    turned : (b : Bool) → cond (not b) (row ∷ rows_without id rows) (rows_without id rows) ≡ cond b (rows_without id rows) (row ∷ rows_without id rows)
    turned true = refl
    turned false = refl

pub rows_without-permutation : (rows others : List Row) (id : ℕ) → IsPermutation rows others → IsPermutation (rows_without id rows) (rows_without id others)
rows_without-permutation rows others id same = permutation-filter (λ row. not (has_id id row)) rows others same

pub HasDistinctIds-rows_without : (rows : List Row) (id : ℕ) → HasDistinctIds rows → HasDistinctIds (rows_without id rows)
HasDistinctIds-rows_without rows id distinct = AllPairs-filter (λ (a b : Row). a.id ≢ b.id) (λ row. not (has_id id row)) rows distinct

-- if no row has the id, these are all
pub without_absent : (rows : List Row) (id : ℕ) → row_with id rows ≡ None → rows_without id rows ≡ rows
without_absent [] id none = refl
without_absent (r ∷ rs) id none = from (has_id id r) refl (without_absent rs id)
  where
    from : (b : Bool) → has_id id r ≡ b → (row_with id rs ≡ None → rows_without id rs ≡ rs) → rows_without id (r ∷ rs) ≡ r ∷ rs
    from true is rest = absurd (none_is_row r (sym none ∙ row_with-cons r rs id true is))
    from false is rest = rows_without-cons r rs id false is ∙ ap (λ xs. r ∷ xs) (rest (sym (row_with-cons r rs id false is) ∙ none))

-- the others are found as before
pub row_with-rows_without : (rows : List Row) (id other : ℕ) → row_with other (rows_without id rows) ≡ (if other == id then None else row_with other rows)
row_with-rows_without [] id other = none (other == id)
  where
    none : (b : Bool) → ◌≡◌ {A = Option Row} None (if b then None else None)
    none true = refl
    none false = refl
row_with-rows_without (r ∷ rs) id other = from (has_id id r) (has_id other r) (row_with-rows_without rs id other) refl refl
  where
    from : (b d : Bool) → row_with other (rows_without id rs) ≡ (if other == id then None else row_with other rs) → has_id id r ≡ b → has_id other r ≡ d
        → row_with other (rows_without id (r ∷ rs)) ≡ (if other == id then None else row_with other (r ∷ rs))
    from true true rest here there =
        let same : (other == id) ≡ true = equal other id (sym (from_equal r.id other there) ∙ from_equal r.id id here) in
        ap (row_with other) (rows_without-cons r rs id true here) ∙ rest ∙ ap (λ b. if b then None else row_with other rs) same
        ∙ sym (ap (λ b. if b then None else row_with other (r ∷ rs)) same)
    from true false rest here there =
        ap (row_with other) (rows_without-cons r rs id true here) ∙ rest
        ∙ ap (λ found. if other == id then None else found) (sym (row_with-cons r rs other false there))
    from false true rest here there =
        let apart : (other == id) ≡ false = not_equal other id (λ same. false_is_true (sym here ∙ equal r.id id (from_equal r.id other there ∙ same))) in
        ap (row_with other) (rows_without-cons r rs id false here) ∙ row_with-cons r (rows_without id rs) other true there
        ∙ sym (ap (λ b. if b then None else row_with other (r ∷ rs)) apart ∙ row_with-cons r rs other true there)
    from false false rest here there =
        ap (row_with other) (rows_without-cons r rs id false here) ∙ row_with-cons r (rows_without id rs) other false there ∙ rest
        ∙ ap (λ found. if other == id then None else found) (sym (row_with-cons r rs other false there))

-- they are no more than all
pub rows_without-length : (rows : List Row) (id : ℕ) → length (rows_without id rows) ≤ length rows
rows_without-length [] id = omega arith
rows_without-length (row ∷ rows) id = from (not (has_id id row)) (rows_without-length rows id)
  where
    from : (b : Bool) → length (rows_without id rows) ≤ length rows → length (cond b (row ∷ rows_without id rows) (rows_without id rows)) ≤ suc (length rows)
    from true h = omega (arith, h)
    from false h = omega (arith, h)

-- if a row has the id, they are one fewer
pub length-rows_without : (rows : List Row) → HasDistinctIds rows → (id : ℕ) (row : Row) → row_with id rows ≡ Some row
    → length (rows_without id rows) + 1 ≡ length rows
length-rows_without [] distinct id row there = absurd (none_is_row row there)
length-rows_without (r ∷ rs) distinct id row there =
    from (has_id id r) refl (length-rows_without rs (λ i j d less below. distinct (suc i) (suc j) d (omega (arith, less)) (omega (arith, below))) id row)
  where
    from : (b : Bool) → has_id id r ≡ b → (row_with id rs ≡ Some row → length (rows_without id rs) + 1 ≡ length rs)
        → length (rows_without id (r ∷ rs)) + 1 ≡ length (r ∷ rs)
    from true is rest =
        let none = find-none (has_id id) rs (λ k d below. not_equal (get_or rs k d).id id (λ same.
        distinct 0 (suc k) d (omega arith) (omega (arith, below)) (from_equal r.id id is ∙ sym same))) in
        let all : length (rows_without id (r ∷ rs)) ≡ length rs = ap length (rows_without-cons r rs id true is ∙ without_absent rs id none) in
        omega (arith, all)
    from false is rest =
        let inner = rest (sym (row_with-cons r rs id false is) ∙ there) in
        let all : length (rows_without id (r ∷ rs)) ≡ suc (length (rows_without id rs)) = ap length (rows_without-cons r rs id false is) in
        omega (arith, inner, all)

-- ---- the order of the rows

-- where the item at a place is after the items at two places are swapped
exchanged : ℕ → ℕ → ℕ → ℕ
exchanged a b k = if k == a then b else (if k == b then a else k)

exchanged-apart : (a b i j : ℕ) → i ≢ j → exchanged a b i ≢ exchanged a b j
unfolding exchanged
exchanged-apart a b i j other same = grind (arith, nat_tests)

exchanged-below : (a b k n : ℕ) → a < n → b < n → k < n → exchanged a b k < n
unfolding exchanged
exchanged-below a b k n left right below = grind (arith, nat_tests)

at_first : (a b k : ℕ) → k ≡ a → exchanged a b k ≡ b
unfolding exchanged
at_first a b k is = grind (arith, nat_tests)

at_second : (a b k : ℕ) → k ≢ a → k ≡ b → exchanged a b k ≡ a
unfolding exchanged
at_second a b k other is = grind (arith, nat_tests)

elsewhere : (a b k : ℕ) → k ≢ a → k ≢ b → exchanged a b k ≡ k
unfolding exchanged
elsewhere a b k other another = grind (arith, nat_tests)

exchanged-read : {X : Type 0} (f g : ℕ → X) (a b : ℕ) → Swapped f g a b → (k : ℕ) → g k ≡ f (exchanged a b k)
exchanged-read f g a b swapped k =
    ⊎_elim (λ is. ap g is ∙ swapped.0 ∙ ap f (sym (at_first a b k is)))
    (λ other. ⊎_elim (λ is. ap g is ∙ swapped.1 ∙ ap f (sym (at_second a b k other is)))
    (λ another. swapped.2 k other another ∙ ap f (sym (elsewhere a b k other another))) (cases_eq k b)) (cases_eq k a)

-- the rows at any two places have two ids
abbrev Differ : List Row → Type 0
Differ rows = (i j : ℕ) (d : Row) → i ≢ j → i < length rows → j < length rows → (get_or rows i d).id ≢ (get_or rows j d).id

differ : (rows : List Row) → HasDistinctIds rows → Differ rows
differ rows distinct i j d other left right same =
    ⊎_elim (λ is. other is) (⊎_elim (λ less. distinct i j d less right same) (λ more. distinct j i d more left (sym same))) (cases_order i j)

differ-swap : (rows : List Row) (a b : ℕ) → a < length rows → b < length rows → Differ rows → Differ (swap rows a b)
differ-swap rows a b left right apart i j d other below under same =
    let swapped = swapped_from_swap rows (swap rows a b) a b d left right refl in
    let read = exchanged-read (λ k. get_or rows k d) (λ k. get_or (swap rows a b) k d) a b swapped in
    let count = length_permutation rows (swap rows a b) (IsPermutation-swap rows (swap rows a b) a b left right refl) in
    apart (exchanged a b i) (exchanged a b j) d (exchanged-apart a b i j other)
    (exchanged-below a b i (length rows) left right (omega (arith, below, count)))
    (exchanged-below a b j (length rows) left right (omega (arith, under, count)))
    (ap (λ (r : Row). r.id) (sym (read i)) ∙ same ∙ ap (λ (r : Row). r.id) (read j))

pub HasDistinctIds-permutation : (rows others : List Row) → HasDistinctIds rows → IsPermutation rows others → HasDistinctIds others
HasDistinctIds-permutation rows others distinct same i j d less below =
    IsPermutation-keeps rows Differ (differ rows distinct) (λ zs a b left right apart. differ-swap zs a b left right apart) others same
    i j d (λ is. omega (arith, less, is)) (omega (arith, less, below)) below
