-- One pass that adds the distances from one more chosen sample, place by place.
use Rattle.std.proofs.Common.{◌≡◌, ◌≢◌, ℕ, ◌+◌, ◌<◌, ◌≤◌, List, [], ◌∷◌, ◌++◌, length, map, take, set, get_or, ◌==◌, slice_index, count_by, refl, sym, ap, ◌∙◌, arith, Bool, true, false, zero, suc, append-nil}
use Rattle.std.specs.List.{filter, range_with_len}
use Rattle.std.proofs.lemmas.Bool.Decides.{nat_tests}
use Rattle.std.proofs.lemmas.List.{get_or-set_same, get_or-set_other, map-append}
use Rattle.std.proofs.lemmas.List.Edits.{fill_by_more}
use Rattle.std.proofs.lemmas.List.Elements.{filter-append}
use Rattle.std.proofs.lemmas.List.Sums.{count_by_more_no, count_by_more_yes}
use Rattle.metric_laws.specs.Log.{each_with}
use Rattle.spb_defs.specs.Choice.{sample_at}
use Rattle.pivot_choice.specs.Worths.{is_unchosen, updated_worth, unchosen_among_first}

pub updated_worth-none : (dist : List ℕ → List ℕ → ℕ) (samples : List (List ℕ)) (chosen place worth : ℕ) → worth ≡ 0
    → updated_worth dist samples chosen place worth ≡ 0
updated_worth-none dist samples chosen place worth none = grind (arith, nat_tests)

pub updated_worth-some : (dist : List ℕ → List ℕ → ℕ) (samples : List (List ℕ)) (chosen place worth : ℕ) → 0 < worth
    → updated_worth dist samples chosen place worth ≡ worth + dist (sample_at samples chosen) (sample_at samples place)
updated_worth-some dist samples chosen place worth some = grind (arith, nat_tests)

-- a value that is written at a place
pub set-passed : (f : ℕ → ℕ) (xs : List ℕ) (i v : ℕ) → i < length xs → v ≡ f i → ((k : ℕ) → k < i → get_or xs k 0 ≡ f k) → (k : ℕ) → k < i + 1
    → get_or (set xs i v) k 0 ≡ f k
set-passed f xs i v inside is passed k below = ap (λ (w : ℕ). get_or (set xs i w) k 0) is ∙ fill_by_more f xs i 0 inside passed k below

pub set-ahead : (xs old : List ℕ) (i v : ℕ) → ((k : ℕ) → i ≤ k → get_or xs k 0 ≡ get_or old k 0) → (k : ℕ) → i + 1 ≤ k
    → get_or (set xs i v) k 0 ≡ get_or old k 0
set-ahead xs old i v ahead k above =
    let other : k ≢ i = λ (e : k ≡ i). omega arith in
    get_or-set_other xs i k v 0 other ∙ ahead k (omega arith)

pub set-rise : (xs old : List ℕ) (i v most : ℕ) → i < length xs → v ≤ get_or old i 0 + most → ((k : ℕ) → get_or xs k 0 ≤ get_or old k 0 + most) → (k : ℕ)
    → get_or (set xs i v) k 0 ≤ get_or old k 0 + most
set-rise xs old i v most inside low rise k = either (k == i) refl
  where
    either : (b : Bool) → (k == i) ≡ b → get_or (set xs i v) k 0 ≤ get_or old k 0 + most
    either true is =
        let same : k ≡ i = grind (arith, nat_tests) in
        let here : get_or (set xs i v) k 0 ≡ v = ap (λ (j : ℕ). get_or (set xs i v) j 0) same ∙ get_or-set_same xs i v 0 inside in
        let there : get_or old k 0 ≡ get_or old i 0 = ap (λ (j : ℕ). get_or old j 0) same in
        omega arith
    either false not =
        let other : k ≢ i = λ (e : k ≡ i). grind (arith, nat_tests) in
        let here : get_or (set xs i v) k 0 ≡ get_or xs k 0 = get_or-set_other xs i k v 0 other in
        let before = rise k in
        omega arith

-- the numbers below one more
range-from : (a n : ℕ) → range_with_len a (suc n) ≡ range_with_len a n ++ (a + n) ∷ []
range-from a zero = let e : a ≡ a + 0 = omega arith in ap (λ (k : ℕ). k ∷ []) e
range-from a (suc n) =
    let e : a + 1 + n ≡ a + suc n = omega arith in
    ap (λ (ks : List ℕ). a ∷ ks) (range-from (a + 1) n ∙ ap (λ (k : ℕ). range_with_len (a + 1) n ++ k ∷ []) e)

pub range-more : (n : ℕ) → range_with_len 0 (n + 1) ≡ range_with_len 0 n ++ n ∷ []
range-more n =
    let e : n + 1 ≡ suc n = omega arith in
    let last : 0 + n ≡ n = omega arith in
    ap (range_with_len 0) e ∙ range-from 0 n ∙ ap (λ (k : ℕ). range_with_len 0 n ++ k ∷ []) last

-- one more place that is tried
filter-more-no : (p : ℕ → Bool) (i : ℕ) → p i ≡ false → filter p (range_with_len 0 (i + 1)) ≡ filter p (range_with_len 0 i)
filter-more-no p i fails =
    let last : filter p (i ∷ []) ≡ [] = rw fails refl in
    ap (filter p) (range-more i) ∙ filter-append p (range_with_len 0 i) (i ∷ []) ∙ ap (λ (ks : List ℕ). filter p (range_with_len 0 i) ++ ks) last ∙ append-nil _

filter-more-yes : (p : ℕ → Bool) (i : ℕ) → p i ≡ true → filter p (range_with_len 0 (i + 1)) ≡ filter p (range_with_len 0 i) ++ i ∷ []
filter-more-yes p i passes =
    let last : filter p (i ∷ []) ≡ i ∷ [] = rw passes refl in
    ap (filter p) (range-more i) ∙ filter-append p (range_with_len 0 i) (i ∷ []) ∙ ap (λ (ks : List ℕ). filter p (range_with_len 0 i) ++ ks) last

-- one more place, that is worth nothing
pub open-none : (old : List ℕ) (samples : List (List ℕ)) (i : ℕ) → get_or old i 0 ≡ 0
    → unchosen_among_first old samples i ≡ unchosen_among_first old samples (i + 1)
open-none old samples i none =
    let fails : is_unchosen (get_or old i 0) ≡ false = grind (arith, nat_tests) in
    ap (map (sample_at samples)) (sym (filter-more-no (λ (place : ℕ). is_unchosen (slice_index old place)) i fails))

-- one more place, that is worth something
pub open-some : (old : List ℕ) (samples : List (List ℕ)) (from : List ℕ) (i : ℕ) → 0 < get_or old i 0
    → each_with from (unchosen_among_first old samples i) ++ (from, sample_at samples i) ∷ [] ≡ each_with from (unchosen_among_first old samples (i + 1))
open-some old samples from i some =
    let passes : is_unchosen (get_or old i 0) ≡ true = grind (arith, nat_tests) in
    let places = filter-more-yes (λ (place : ℕ). is_unchosen (slice_index old place)) i passes in
    let objects = ap (map (sample_at samples)) places
    ∙ map-append (sample_at samples) (filter (λ (place : ℕ). is_unchosen (slice_index old place)) (range_with_len 0 i)) (i ∷ []) in
    sym (ap (each_with from) objects ∙ map-append (λ (other : List ℕ). (from, other)) (unchosen_among_first old samples i) (sample_at samples i ∷ []))

pub count-none : (old : List ℕ) (i : ℕ) → i < length old → get_or old i 0 ≡ 0 → count_by is_unchosen (take (i + 1) old) ≡ count_by is_unchosen (take i old)
count-none old i inside none = count_by_more_no is_unchosen old i 0 inside (grind (arith, nat_tests))

pub count-some : (old : List ℕ) (i : ℕ) → i < length old → 0 < get_or old i 0 → count_by is_unchosen (take (i + 1) old) ≡ count_by is_unchosen (take i old) + 1
count-some old i inside some = count_by_more_yes is_unchosen old i 0 inside (grind (arith, nat_tests))
