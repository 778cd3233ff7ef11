-- The choice, pivot by pivot.
use Rattle.std.proofs.Common.{◌≡◌, ◌≢◌, ℕ, ◌+◌, ◌-◌, ◌*◌, ◌<◌, ◌≤◌, List, [], ◌∷◌, ◌++◌, length, map, set, get_or, replicate, cond, nat_eq, not, ◌||◌, ◌==◌, count_by, sum_by, refl, sym, ap, subst, ◌∙◌, arith, Bool, true, false, zero, suc}
use Rattle.std.proofs.Math.Bool.{or-false}
use Rattle.std.specs.Prelude.{if◌then◌else◌}
use Rattle.std.specs.List.{IsDistinct, filter, list_any, range_with_len}
use Rattle.std.proofs.lemmas.Bool.Decides.{nat_tests}
use Rattle.std.proofs.lemmas.List.{get_or-set_same, get_or-set_other, get_or-replicate, length-set, length-replicate}
use Rattle.std.proofs.lemmas.List.Elements.{filter-append}
use Rattle.std.proofs.lemmas.List.Folds.{list_any-append, sum_by-replicate}
use Rattle.std.proofs.lemmas.List.Sums.{sum_by-append, sum_by-cons, sum_by-set}
use Rattle.std.proofs.lemmas.List.FromFn.{fill_by_all}
use Rattle.std.specs.Cmp.{nat_eq_equiv}
use Rattle.std.proofs.lemmas.Map.Keys.{IsDistinct-push}
use Rattle.metric_laws.specs.Log.{each_with}
use Rattle.metrics_builtin.specs.Vectors.{greatest}
use Rattle.spb_defs.specs.Choice.{sample_at, worth, first_place, next_place, chosen_places, choice_evals}
use Rattle.spb_defs.specs.Farthest.{IsFarthestFirst}
use Rattle.pivot_choice.specs.Worths.{is_unchosen, updated_worth, unchosen_among_first, unchosen_samples, choice_visits}
use Rattle.spb_defs.specs.ChoiceLaws.{greatest-cons, first_place-within, first_place-holds}
use Rattle.pivot_choice.proofs.Passing.{updated_worth-none, range-more, set-rise}

-- one more place of the choice
pub chosen-more : (dist : List ℕ → List ℕ → ℕ) (samples : List (List ℕ)) (n : ℕ)
    → chosen_places dist samples (n + 1) ≡ chosen_places dist samples n ++ next_place dist samples (chosen_places dist samples n) ∷ []
unfolding chosen_places
chosen-more dist samples n = let e : n + 1 ≡ suc n = omega arith in ap (chosen_places dist samples) e

pub chosen-none : (dist : List ℕ → List ℕ → ℕ) (samples : List (List ℕ)) → chosen_places dist samples 0 ≡ []
unfolding chosen_places
chosen-none dist samples = refl

pub evals-more : (m n : ℕ) → choice_evals m (n + 2) ≡ choice_evals m (n + 1) + (m - (n + 1))
evals-more m n =
    let e : n + 2 ≡ suc (suc n) = omega arith in
    let f : suc n ≡ n + 1 = omega arith in
    ap (choice_evals m) e ∙ ap (λ (k : ℕ). choice_evals m k + (m - k)) f

-- never more than one for each pair
pub evals-most : (m n : ℕ) → m ≤ 2147483648 → choice_evals m n ≤ n * 2147483648
evals-most m zero few = omega arith
evals-most m (suc zero) few = omega arith
evals-most m (suc (suc n)) few =
    let rest = evals-most m (suc n) few in
    omega arith

pub visits-more : (dist : List ℕ → List ℕ → ℕ) (samples : List (List ℕ)) (n : ℕ) →
    choice_visits dist samples (n + 2)
    ≡ choice_visits dist samples (n + 1) ++ each_with (sample_at samples (next_place dist samples (chosen_places dist samples n)))
    (unchosen_samples samples (chosen_places dist samples (n + 1)))
visits-more dist samples n =
    let e : n + 2 ≡ suc (suc n) = omega arith in
    let f : suc n ≡ n + 1 = omega arith in
    ap (choice_visits dist samples) e
    ∙ ap (λ (k : ℕ). choice_visits dist samples k
    ++ each_with (sample_at samples (next_place dist samples (chosen_places dist samples n))) (unchosen_samples samples (chosen_places dist samples k))) f

-- the place to choose, by the worths
pub next-by-worths : (dist : List ℕ → List ℕ → ℕ) (samples : List (List ℕ)) (chosen worths : List ℕ) → length worths ≡ length samples
    → ((k : ℕ) → k < length samples → get_or worths k 0 ≡ worth dist samples chosen k) → first_place (greatest worths) worths ≡ next_place dist samples chosen
next-by-worths dist samples chosen worths same each =
    let all : worths ≡ map (worth dist samples chosen) (range_with_len 0 (length samples)) =
    fill_by_all (worth dist samples chosen) worths (length samples) 0 same each in
    ap (λ (ws : List ℕ). first_place (greatest ws) ws) all

-- what a place is worth once one more is chosen
same-number : (a b : ℕ) → a ≡ b → (a == b) ≡ true
same-number a b is = grind (arith, nat_tests)

other-number : (a b : ℕ) → a ≢ b → (a == b) ≡ false
other-number a b differs = grind (arith, nat_tests)

any-more : (chosen : List ℕ) (c k : ℕ) → list_any (λ (other : ℕ). other == k) (chosen ++ c ∷ []) ≡ (list_any (λ (other : ℕ). other == k) chosen || (c == k))
any-more chosen c k =
    let tail : list_any (λ (other : ℕ). other == k) (c ∷ []) ≡ (c == k) = or-false (c == k) in
    list_any-append (λ (other : ℕ). other == k) chosen (c ∷ []) ∙ ap (λ (b : Bool). list_any (λ (other : ℕ). other == k) chosen || b) tail

or-true : (b : Bool) → (b || true) ≡ true
or-true true = refl
or-true false = refl

pub worth-taken : (dist : List ℕ → List ℕ → ℕ) (samples : List (List ℕ)) (chosen : List ℕ) (c k : ℕ) → c ≡ k → worth dist samples (chosen ++ c ∷ []) k ≡ 0
worth-taken dist samples chosen c k is =
    let any = any-more chosen c k ∙ ap (λ (b : Bool). list_any (λ (other : ℕ). other == k) chosen || b) (same-number c k is)
    ∙ or-true (list_any (λ (other : ℕ). other == k) chosen) in
    let sum = sum_by (λ (other : ℕ). dist (sample_at samples other) (sample_at samples k)) (chosen ++ c ∷ []) in
    ap (λ (b : Bool). if b then 0 else 1 + sum) any

with-one-more : (a : Bool) (s d : ℕ) → (if a then 0 else 1 + (s + d)) ≡ (if (if a then 0 else 1 + s) == 0 then 0 else (if a then 0 else 1 + s) + d)
with-one-more true s d = refl
with-one-more false s d = grind (arith, nat_tests)

pub worth-other : (dist : List ℕ → List ℕ → ℕ) (samples : List (List ℕ)) (chosen : List ℕ) (c k : ℕ) → c ≢ k
    → worth dist samples (chosen ++ c ∷ []) k ≡ updated_worth dist samples c k (worth dist samples chosen k)
worth-other dist samples chosen c k differs =
    let any = any-more chosen c k ∙ ap (λ (b : Bool). list_any (λ (other : ℕ). other == k) chosen || b) (other-number c k differs)
    ∙ or-false (list_any (λ (other : ℕ). other == k) chosen) in
    let f = λ (other : ℕ). dist (sample_at samples other) (sample_at samples k) in
    let one : sum_by f (c ∷ []) ≡ f c = omega (arith, sum_by-cons f c []) in
    let sum : sum_by f (chosen ++ c ∷ []) ≡ sum_by f chosen + f c = sum_by-append f chosen (c ∷ []) ∙ ap (λ (n : ℕ). sum_by f chosen + n) one in
    ap (λ (b : Bool). if b then 0 else 1 + sum_by f (chosen ++ c ∷ [])) any
    ∙ ap (λ (n : ℕ). if list_any (λ (other : ℕ). other == k) chosen then 0 else 1 + n) sum
    ∙ with-one-more (list_any (λ (other : ℕ). other == k) chosen) (sum_by f chosen) (f c)

-- a place is open exactly if it isn't chosen
open-when : (a : Bool) (s : ℕ) → is_unchosen (if a then 0 else 1 + s) ≡ not a
open-when true s = refl
open-when false s = grind (arith, nat_tests)

pub worth-open : (dist : List ℕ → List ℕ → ℕ) (samples : List (List ℕ)) (chosen : List ℕ) (k : ℕ)
    → is_unchosen (worth dist samples chosen k) ≡ not (list_any (λ other. other == k) chosen)
worth-open dist samples chosen k = open-when (list_any (λ (other : ℕ). other == k) chosen)
    (sum_by (λ (other : ℕ). dist (sample_at samples other) (sample_at samples k)) chosen)

updated_worth-open : (dist : List ℕ → List ℕ → ℕ) (samples : List (List ℕ)) (c k w : ℕ) → is_unchosen (updated_worth dist samples c k w) ≡ is_unchosen w
updated_worth-open dist samples c k w = grind (arith, nat_tests)

-- how many places are open
count-cons : (x : ℕ) (xs : List ℕ) → count_by is_unchosen (x ∷ xs) ≡ cond (is_unchosen x) 1 0 + count_by is_unchosen xs
count-cons x xs = sum_by-cons (λ (w : ℕ). cond (is_unchosen w) 1 0) x xs

count-first : (m : ℕ) → count_by is_unchosen (replicate m 1) ≡ m
count-first m = omega (arith, sum_by-replicate (λ (w : ℕ). cond (is_unchosen w) 1 0) m 1)

count-taken : (worths : List ℕ) (c : ℕ) → c < length worths → 0 < get_or worths c 0 → count_by is_unchosen (set worths c 0) + 1 ≡ count_by is_unchosen worths
count-taken worths c inside some =
    let all : count_by is_unchosen (set worths c 0) + cond (is_unchosen (get_or worths c 0)) 1 0 ≡ count_by is_unchosen worths + cond (is_unchosen 0) 1 0 =
    sum_by-set (λ (w : ℕ). cond (is_unchosen w) 1 0) worths c 0 0 inside in
    let is : is_unchosen (get_or worths c 0) ≡ true = grind (arith, nat_tests) in
    ap (λ (b : Bool). count_by is_unchosen (set worths c 0) + cond b 1 0) (sym is) ∙ all ∙ omega arith

count-same : (xs ys : List ℕ) → length xs ≡ length ys → ((k : ℕ) → k < length ys → is_unchosen (get_or xs k 0) ≡ is_unchosen (get_or ys k 0))
    → count_by is_unchosen xs ≡ count_by is_unchosen ys
count-same [] [] same each = refl
count-same [] (y ∷ ys) same each = absurd (omega arith)
count-same (x ∷ xs) [] same each = absurd (omega arith)
count-same (x ∷ xs) (y ∷ ys) same each =
    let rest = count-same xs ys (omega arith) (λ (k : ℕ) (below : k < length ys). each (suc k) (omega arith)) in
    let first : is_unchosen x ≡ is_unchosen y = each 0 (omega arith) in
    count-cons x xs ∙ ap (λ (b : Bool). cond b 1 0 + count_by is_unchosen xs) first ∙ ap (λ (n : ℕ). cond (is_unchosen y) 1 0 + n) rest ∙ sym (count-cons y ys)

greatest-some : (xs : List ℕ) → 0 < count_by is_unchosen xs → 0 < greatest xs
greatest-some [] some = omega arith
greatest-some (zero ∷ xs) some =
    let rest = greatest-some xs some in
    let all = greatest-cons 0 xs in
    omega arith
greatest-some (suc x ∷ xs) some = let all = greatest-cons (suc x) xs in omega arith

-- the numbers below n that pass one test or another
filter-same : (p q : ℕ → Bool) (n : ℕ) → ((k : ℕ) → k < n → p k ≡ q k) → filter p (range_with_len 0 n) ≡ filter q (range_with_len 0 n)
filter-same p q zero each = refl
filter-same p q (suc n) each =
    let e : suc n ≡ n + 1 = omega arith in
    let whole = ap (range_with_len 0) e ∙ range-more n in
    let front = filter-same p q n (λ (k : ℕ) (below : k < n). each k (omega arith)) in
    let last : filter p (n ∷ []) ≡ filter q (n ∷ []) = ap (λ (b : Bool). cond b (n ∷ []) []) (each n (omega arith)) in
    ap (filter p) whole
    ∙ filter-append p (range_with_len 0 n) (n ∷ [])
    ∙ ap (λ (ks : List ℕ). ks ++ filter p (n ∷ [])) front
    ∙ ap (λ (ks : List ℕ). filter q (range_with_len 0 n) ++ ks) last
    ∙ sym (filter-append q (range_with_len 0 n) (n ∷ []))
    ∙ ap (filter q) (sym whole)

-- What is known between two iterations: `before` places are chosen and their distances are added, and the place that is
-- chosen next is known.
pub record Choosing (dist : List ℕ → List ℕ → ℕ) (samples : List (List ℕ)) (before : ℕ) (worths places : List ℕ) (chosen : ℕ) : Type 0 where
  pub same_length : length worths ≡ length samples
  pub each : (k : ℕ) → k < length samples → get_or worths k 0 ≡ worth dist samples (chosen_places dist samples before) k
  pub low : (k : ℕ) → k < length samples → get_or worths k 0 ≤ 1 + before * 4294967295
  pub open_ones : count_by is_unchosen worths + before ≡ length samples
  pub is_next : chosen ≡ next_place dist samples (chosen_places dist samples before)
  pub within : chosen < length samples
  pub still : 0 < get_or worths chosen 0
  pub places_are : places ≡ chosen_places dist samples (before + 1)
  pub distinct : IsDistinct nat_eq places

-- no places are distinct
pub none-distinct : IsDistinct nat_eq []
unfolding IsDistinct
none-distinct = tt

-- no places are the farthest first
pub none-farthest : (dist : List ℕ → List ℕ → ℕ) (samples : List (List ℕ)) → IsFarthestFirst dist samples []
none-farthest dist samples turn place within inside new = absurd (omega arith)

-- a place that is worth something isn't chosen yet
not-chosen-when : (a : Bool) (s : ℕ) → 0 < (if a then 0 else 1 + s) → a ≡ false
not-chosen-when true s some = absurd (omega arith)
not-chosen-when false s some = refl

any-flip : (y : ℕ) (xs : List ℕ) → list_any (nat_eq y) xs ≡ list_any (λ (other : ℕ). other == y) xs
any-flip y [] = refl
any-flip y (x ∷ xs) =
    let first : nat_eq y x ≡ (x == y) = grind (arith, nat_tests) in
    ap (λ (b : Bool). b || list_any (nat_eq y) xs) first ∙ ap (λ (b : Bool). (x == y) || b) (any-flip y xs)

distinct-more : (dist : List ℕ → List ℕ → ℕ) (samples : List (List ℕ)) (chosen : List ℕ) (k : ℕ) → IsDistinct nat_eq chosen → 0 < worth dist samples chosen k
    → IsDistinct nat_eq (chosen ++ k ∷ [])
distinct-more dist samples chosen k distinct some =
    let new = not-chosen-when (list_any (λ (other : ℕ). other == k) chosen)
    (sum_by (λ (other : ℕ). dist (sample_at samples other) (sample_at samples k)) chosen) some in
    IsDistinct-push nat_eq_equiv chosen k distinct (any-flip k chosen ∙ new)

-- from what is known of the worths and of the best of them
chosen-by : (dist : List ℕ → List ℕ → ℕ) (samples : List (List ℕ)) (before : ℕ) (worths places front : List ℕ) (chosen : ℕ) →
    before < length samples →
    length worths ≡ length samples →
    ((k : ℕ) → k < length samples → get_or worths k 0 ≡ worth dist samples (chosen_places dist samples before) k) →
    ((k : ℕ) → k < length samples → get_or worths k 0 ≤ 1 + before * 4294967295) →
    count_by is_unchosen worths + before ≡ length samples →
    chosen ≡ first_place (greatest worths) worths →
    front ≡ chosen_places dist samples before →
    IsDistinct nat_eq front →
    places ≡ front ++ chosen ∷ [] →
    Choosing dist samples before worths places chosen
chosen-by dist samples before worths places front chosen room same each low open_ones best front_is distinct more =
    let next = best ∙ next-by-worths dist samples (chosen_places dist samples before) worths same each in
    let some : 0 < length worths = omega arith in
    let greatest_is = greatest-some worths (omega arith) in
    let place = first_place-within worths some in
    let inside : chosen < length samples = omega arith in
    let holds : get_or worths chosen 0 ≡ greatest worths = ap (λ (k : ℕ). get_or worths k 0) best ∙ first_place-holds worths in
    let front_worth : get_or worths chosen 0 ≡ worth dist samples front chosen = each chosen inside
    ∙ ap (λ (cs : List ℕ). worth dist samples cs chosen) (sym front_is) in
    record {
      same_length = same;
      each = each;
      low = low;
      open_ones = open_ones;
      is_next = next;
      within = inside;
      still = omega arith;
      places_are = more ∙ ap (λ (ps : List ℕ). ps ++ chosen ∷ []) front_is ∙ ap (λ (c : ℕ). chosen_places dist samples before ++ c ∷ []) next
          ∙ sym (chosen-more dist samples before);
      distinct = subst (IsDistinct nat_eq) (sym more) (distinct-more dist samples front chosen distinct (omega arith));
    }

pub Choosing-start : (dist : List ℕ → List ℕ → ℕ) (samples : List (List ℕ)) (worths places : List ℕ) (chosen : ℕ) → 0 < length samples
    → worths ≡ replicate (length samples) 1 → chosen ≡ first_place (greatest worths) worths → places ≡ chosen ∷ []
    → Choosing dist samples 0 worths places chosen
Choosing-start dist samples worths places chosen some ones best more =
    let each : (k : ℕ) → k < length samples → get_or worths k 0 ≡ 1 = λ (k : ℕ) (below : k < length samples). ap (λ (ws : List ℕ). get_or ws k 0) ones
    ∙ get_or-replicate (length samples) k 1 0 below in
    let worth_is : (k : ℕ) → worth dist samples (chosen_places dist samples 0) k ≡ 1 =
    λ (k : ℕ). ap (λ (cs : List ℕ). worth dist samples cs k) (chosen-none dist samples) in
    let count : count_by is_unchosen worths ≡ length samples = ap (count_by is_unchosen) ones ∙ count-first (length samples) in
    chosen-by dist samples 0 worths places [] chosen some (ap length ones ∙ length-replicate (length samples) 1)
    (λ (k : ℕ) (below : k < length samples). each k below ∙ sym (worth_is k))
    (λ (k : ℕ) (below : k < length samples). omega (arith, each k below))
    (omega arith) best (sym (chosen-none dist samples)) none-distinct more

-- what the places are worth once the chosen one is taken out and its distances are added
pub taken : (dist : List ℕ → List ℕ → ℕ) (samples : List (List ℕ)) (before : ℕ) (worths places : List ℕ) (chosen : ℕ)
    → Choosing dist samples before worths places chosen → (k : ℕ) → k < length samples
    → updated_worth dist samples chosen k (get_or (set worths chosen 0) k 0) ≡ worth dist samples (chosen_places dist samples (before + 1)) k
taken dist samples before worths places chosen kept k below = either (chosen == k) refl
  where
    front : List ℕ
    front = chosen_places dist samples before

    after : worth dist samples (chosen_places dist samples (before + 1)) k ≡ worth dist samples (chosen_places dist samples before ++ chosen ∷ []) k
    after = ap (λ (cs : List ℕ). worth dist samples cs k) (chosen-more dist samples before
        ∙ ap (λ (c : ℕ). chosen_places dist samples before ++ c ∷ []) (sym kept.is_next))

    either : (b : Bool) → (chosen == k) ≡ b
        → updated_worth dist samples chosen k (get_or (set worths chosen 0) k 0) ≡ worth dist samples (chosen_places dist samples (before + 1)) k
    either true is =
        let same : chosen ≡ k = grind (arith, nat_tests) in
        let none : get_or (set worths chosen 0) k 0 ≡ 0 = ap (λ (j : ℕ). get_or (set worths chosen 0) j 0) (sym same)
        ∙ get_or-set_same worths chosen 0 0 (omega (arith, kept.same_length, kept.within)) in
        updated_worth-none dist samples chosen k _ none ∙ sym (after ∙ worth-taken dist samples front chosen k same)
    either false is =
        let differs : chosen ≢ k = λ (e : chosen ≡ k). grind (arith, nat_tests) in
        let apart : k ≢ chosen = λ (e : k ≡ chosen). differs (sym e) in
        let as_before : get_or (set worths chosen 0) k 0 ≡ worth dist samples front k = get_or-set_other worths chosen k 0 0 apart ∙ kept.each k below in
        ap (updated_worth dist samples chosen k) as_before ∙ sym (after ∙ worth-other dist samples front chosen k differs)

pub others : (dist : List ℕ → List ℕ → ℕ) (samples : List (List ℕ)) (before : ℕ) (worths places : List ℕ) (chosen : ℕ)
    → Choosing dist samples before worths places chosen
    → unchosen_among_first (set worths chosen 0) samples (length samples) ≡ unchosen_samples samples (chosen_places dist samples (before + 1))
others dist samples before worths places chosen kept =
    let after = chosen_places dist samples (before + 1) in
    let each = λ (k : ℕ) (below : k < length samples).
    sym (updated_worth-open dist samples chosen k (get_or (set worths chosen 0) k 0))
    ∙ ap is_unchosen (taken dist samples before worths places chosen kept k below)
    ∙ worth-open dist samples after k in
    ap (map (sample_at samples)) (filter-same (λ (k : ℕ). is_unchosen (get_or (set worths chosen 0) k 0))
    (λ (k : ℕ). not (list_any (λ (other : ℕ). other == k) after)) (length samples) each)

pub Choosing-more : (dist : List ℕ → List ℕ → ℕ) (samples : List (List ℕ)) (before : ℕ) (worths places : List ℕ) (chosen : ℕ) (after more : List ℕ) (next : ℕ) →
    Choosing dist samples before worths places chosen →
    before + 1 < length samples →
    length after ≡ length (set worths chosen 0) →
    ((k : ℕ) → k < length after → get_or after k 0 ≡ updated_worth dist samples chosen k (get_or (set worths chosen 0) k 0)) →
    ((k : ℕ) → k < length after → get_or after k 0 ≤ get_or (set worths chosen 0) k 0 + 4294967295) →
    next ≡ first_place (greatest after) after →
    more ≡ places ++ next ∷ [] →
    Choosing dist samples (before + 1) after more next
Choosing-more dist samples before worths places chosen after more next kept room same each rise best more_is =
    let inside : chosen < length worths = omega (arith, kept.same_length, kept.within) in
    let length_is : length after ≡ length samples = same ∙ length-set worths chosen 0 ∙ kept.same_length in
    let one_less = count-taken worths chosen inside kept.still in
    let as_many = count-same after (set worths chosen 0) same (λ (k : ℕ) (below : k < length (set worths chosen 0)).
    ap is_unchosen (each k (omega arith)) ∙ updated_worth-open dist samples chosen k (get_or (set worths chosen 0) k 0)) in
    let open_ones = kept.open_ones in
    chosen-by dist samples (before + 1) after more places next room length_is
    (λ (k : ℕ) (below : k < length samples). each k (omega arith) ∙ taken dist samples before worths places chosen kept k below)
    (λ (k : ℕ) (below : k < length samples).
    let first = rise k (omega arith) in
    let then' = set-rise worths worths chosen 0 0 inside (omega arith) (λ (j : ℕ). omega arith) k in
    let low = kept.low k below in
    omega arith)
    (omega arith) best kept.places_are kept.distinct more_is

-- how many distances the pass measures
pub count-pass : (dist : List ℕ → List ℕ → ℕ) (samples : List (List ℕ)) (before : ℕ) (worths places : List ℕ) (chosen : ℕ)
    → Choosing dist samples before worths places chosen
    → choice_evals (length samples) (before + 1) + count_by is_unchosen (set worths chosen 0) ≡ choice_evals (length samples) (before + 1 + 1)
count-pass dist samples before worths places chosen kept =
    let inside : chosen < length worths = omega (arith, kept.same_length, kept.within) in
    let one_less = count-taken worths chosen inside kept.still in
    let open_ones = kept.open_ones in
    let e : before + 1 + 1 ≡ before + 2 = omega arith in
    let all = ap (choice_evals (length samples)) e ∙ evals-more (length samples) before in
    omega arith

-- and which
pub visits-pass : (dist : List ℕ → List ℕ → ℕ) (samples : List (List ℕ)) (before : ℕ) (worths places : List ℕ) (chosen : ℕ)
    → Choosing dist samples before worths places chosen →
    choice_visits dist samples (before + 1) ++ each_with (sample_at samples chosen) (unchosen_among_first (set worths chosen 0) samples (length samples))
    ≡ choice_visits dist samples (before + 1 + 1)
visits-pass dist samples before worths places chosen kept =
    let e : before + 1 + 1 ≡ before + 2 = omega arith in
    let front = choice_visits dist samples (before + 1) in
    sym (
    ap (choice_visits dist samples) e
    ∙ visits-more dist samples before
    ∙ ap (λ (c : ℕ). front ++ each_with (sample_at samples c) (unchosen_samples samples (chosen_places dist samples (before + 1)))) (sym kept.is_next)
    ∙ ap (λ (os : List (List ℕ)). front ++ each_with (sample_at samples chosen) os) (sym (others dist samples before worths places chosen kept)))
