-- The choice of pivots: each place is the first of the farthest ones, and no other places are so.
use Rattle.std.proofs.Common.{◌≡◌, ℕ, ◌+◌, ◌<◌, ◌≤◌, List, [], ◌∷◌, ◌++◌, length, map, take, get_or, ◌==◌, ◌||◌, nat_eq, refl, sym, ap, subst, ◌∙◌, arith, Bool, true, false, zero, suc}
use Rattle.std.specs.Prelude.{if◌then◌else◌}
use Rattle.std.specs.List.{list_any, range_with_len, IsDistinct}
use Rattle.std.specs.Set.{is_member}
use Rattle.std.proofs.lemmas.Bool.Decides.{nat_tests}
use Rattle.std.proofs.lemmas.Cmp.{nat_eq_equiv}
use Rattle.std.proofs.lemmas.List.{take_all, take_more, take-append-le, get_or_append_left, get_or-take, length-take-le, nil_from_length}
use Rattle.std.proofs.Math.Seq.{get_or-append_seam}
use Rattle.std.proofs.lemmas.List.Elements.{All-from_get_or}
use Rattle.std.proofs.lemmas.List.Folds.{Any-from_list_any, list_any_none}
use Rattle.std.proofs.lemmas.List.FromFn.{get_or-map-range_with_len, length-map-range_with_len, get_or-range_with_len, length-range_with_len}
use Rattle.std.proofs.lemmas.Map.Keys.{IsDistinct-push, IsDistinct-from_apart, apart_from_distinct}
use Rattle.std.proofs.lemmas.Map.Made.{length-le_from_is_member}
use Rattle.metrics_builtin.specs.Vectors.{greatest}
use Rattle.spb_defs.specs.Choice.{worth, first_place, next_place, chosen_places}
use Rattle.spb_defs.specs.ChoiceLaws.{first_place-holds, first_place-within, greatest-above, chosen-length, next-within, chosen-within}
use Rattle.spb_defs.specs.Farthest.{sum_to, IsFarthestFirst, IsChoice}

-- ---- each place is the first of the farthest

-- no earlier place holds the number
first_place-earliest : (n : ℕ) (xs : List ℕ) (k : ℕ) → k < length xs → get_or xs k 0 ≡ n → first_place n xs ≤ k
first_place-earliest n [] k inside is = absurd (omega arith)
first_place-earliest n (x ∷ xs) zero inside is = grind (arith, nat_tests)
first_place-earliest n (x ∷ xs) (suc k) inside is =
    let rest = first_place-earliest n xs k (omega arith) is in
    grind (arith, nat_tests)

-- a prefix of the choice is the choice of fewer
take-whole : (dist : List ℕ → List ℕ → ℕ) (samples : List (List ℕ)) (turn n : ℕ) → turn ≡ n
    → take turn (chosen_places dist samples n) ≡ chosen_places dist samples turn
take-whole dist samples turn n is =
    let many = chosen-length dist samples n in
    take_all turn (chosen_places dist samples n) (omega arith) ∙ ap (chosen_places dist samples) (sym is)

take-front : (dist : List ℕ → List ℕ → ℕ) (samples : List (List ℕ)) (turn n : ℕ) → turn ≤ n
    → take turn (chosen_places dist samples (suc n)) ≡ take turn (chosen_places dist samples n)
unfolding chosen_places
take-front dist samples turn n within =
    let front = chosen_places dist samples n in
    let many = chosen-length dist samples n in
    take-append-le turn front (next_place dist samples front ∷ []) (omega arith)

take-chosen : (dist : List ℕ → List ℕ → ℕ) (samples : List (List ℕ)) (turn n : ℕ) → turn ≤ n
    → take turn (chosen_places dist samples n) ≡ chosen_places dist samples turn
take-chosen dist samples turn zero within = take-whole dist samples turn 0 (omega arith)
take-chosen dist samples turn (suc n) within = either (λ (below : turn ≤ n). take-chosen dist samples turn n below) (turn == suc n) refl
  where
    either : (turn ≤ n → take turn (chosen_places dist samples n) ≡ chosen_places dist samples turn) → (b : Bool) → (turn == suc n) ≡ b
        → take turn (chosen_places dist samples (suc n)) ≡ chosen_places dist samples turn
    either rest true is = take-whole dist samples turn (suc n) (grind (arith, nat_tests))
    either rest false is =
        let below : turn ≤ n = grind (arith, nat_tests) in
        take-front dist samples turn n below ∙ rest below

-- and each place is the next one after them
at-last : (dist : List ℕ → List ℕ → ℕ) (samples : List (List ℕ)) (n : ℕ)
    → get_or (chosen_places dist samples (suc n)) n 0 ≡ next_place dist samples (chosen_places dist samples n)
unfolding chosen_places
at-last dist samples n =
    let front = chosen_places dist samples n in
    let next = next_place dist samples front in
    ap (λ (k : ℕ). get_or (front ++ next ∷ []) k 0) (sym (chosen-length dist samples n)) ∙ get_or-append_seam front next [] 0

at-front : (dist : List ℕ → List ℕ → ℕ) (samples : List (List ℕ)) (turn n : ℕ) → turn < n
    → get_or (chosen_places dist samples (suc n)) turn 0 ≡ get_or (chosen_places dist samples n) turn 0
unfolding chosen_places
at-front dist samples turn n within =
    let front = chosen_places dist samples n in
    let many = chosen-length dist samples n in
    get_or_append_left front (next_place dist samples front ∷ []) 0 turn (omega arith)

at-chosen : (dist : List ℕ → List ℕ → ℕ) (samples : List (List ℕ)) (turn n : ℕ) → turn < n
    → get_or (chosen_places dist samples n) turn 0 ≡ next_place dist samples (chosen_places dist samples turn)
at-chosen dist samples turn zero within = absurd (omega arith)
at-chosen dist samples turn (suc n) within = either (λ (below : turn < n). at-chosen dist samples turn n below) (turn == n) refl
  where
    either : (turn < n → get_or (chosen_places dist samples n) turn 0 ≡ next_place dist samples (chosen_places dist samples turn)) → (b : Bool)
        → (turn == n) ≡ b → get_or (chosen_places dist samples (suc n)) turn 0 ≡ next_place dist samples (chosen_places dist samples turn)
    either rest true is =
        let same : turn ≡ n = grind (arith, nat_tests) in
        ap (λ (k : ℕ). get_or (chosen_places dist samples (suc n)) k 0) same ∙ at-last dist samples n
        ∙ ap (λ (k : ℕ). next_place dist samples (chosen_places dist samples k)) (sym same)
    either rest false is =
        let below : turn < n = grind (arith, nat_tests) in
        at-front dist samples turn n below ∙ rest below

-- what a place is worth by the sum
worth-of-sum : (a : Bool) (s : ℕ) → a ≡ false → (if a then 0 else 1 + s) ≡ 1 + s
worth-of-sum true s open-one = absurd (grind (arith, nat_tests))
worth-of-sum false s open-one = refl

sum-of-worth : (a : Bool) (s w : ℕ) → w ≡ (if a then 0 else 1 + s) → 0 < w → w ≡ 1 + s
sum-of-worth true s w is some = absurd (omega arith)
sum-of-worth false s w is some = is

next-farthest : (dist : List ℕ → List ℕ → ℕ) (samples : List (List ℕ)) (chosen : List ℕ) (place : ℕ) → place < length samples
    → list_any (λ (other : ℕ). other == place) chosen ≡ false →
    (sum_to dist samples chosen place ≤ sum_to dist samples chosen (next_place dist samples chosen))
    × (sum_to dist samples chosen place ≡ sum_to dist samples chosen (next_place dist samples chosen) → next_place dist samples chosen ≤ place)
next-farthest dist samples chosen place inside new =
    let f = worth dist samples chosen in
    let worths = map f (range_with_len 0 (length samples)) in
    let many : length worths ≡ length samples = length-map-range_with_len f 0 (length samples) in
    let best = first_place (greatest worths) worths in
    let within : best < length worths = first_place-within worths (omega arith) in
    let here : get_or worths place 0 ≡ f place = get_or-map-range_with_len f 0 (length samples) place place 0 inside (omega arith) in
    let there : get_or worths best 0 ≡ f best = get_or-map-range_with_len f 0 (length samples) best best 0 (omega arith) (omega arith) in
    let holds : get_or worths best 0 ≡ greatest worths = first_place-holds worths in
    let above : get_or worths place 0 ≤ greatest worths = greatest-above worths place in
    let sum : f place ≡ 1 + sum_to dist samples chosen place =
    worth-of-sum (list_any (λ (other : ℕ). other == place) chosen) (sum_to dist samples chosen place) new in
    let sum_of_best : greatest worths ≡ 1 + sum_to dist samples chosen best =
    sum-of-worth (list_any (λ (other : ℕ). other == best) chosen) (sum_to dist samples chosen best) (greatest worths) (sym holds ∙ there) (omega arith) in (
      omega arith,
      λ (equal : sum_to dist samples chosen place ≡ sum_to dist samples chosen best).
          first_place-earliest (greatest worths) worths place (omega arith) (omega arith),
    )

-- the clause's claim at one turn
unfoldable at-turn : (List ℕ → List ℕ → ℕ) → List (List ℕ) → ℕ → List ℕ → ℕ → Type 0
at-turn dist samples place chosen next =
    (sum_to dist samples chosen place ≤ sum_to dist samples chosen next)
    × (sum_to dist samples chosen place ≡ sum_to dist samples chosen next → next ≤ place)

pub chosen-farthest : (dist : List ℕ → List ℕ → ℕ) (samples : List (List ℕ)) (n : ℕ) → IsFarthestFirst dist samples (chosen_places dist samples n)
unfolding at-turn
chosen-farthest dist samples n turn place within inside new =
    let many = chosen-length dist samples n in
    let front = take-chosen dist samples turn n (omega arith) in
    let next = at-chosen dist samples turn n (omega arith) in
    let fewer = chosen_places dist samples turn in
    let farthest = next-farthest dist samples fewer place inside (ap (list_any (λ (other : ℕ). other == place)) (sym front) ∙ new) in
    subst (λ (chosen : List ℕ). at-turn dist samples place chosen (get_or (chosen_places dist samples n) turn 0)) (sym front)
    (subst (λ (p : ℕ). at-turn dist samples place fewer p) (sym next) farthest)

-- ---- no place is chosen twice

any_flip : (y : ℕ) (xs : List ℕ) → list_any (nat_eq y) xs ≡ list_any (λ (other : ℕ). other == y) xs
any_flip y [] = refl
any_flip y (x ∷ xs) =
    let first : nat_eq y x ≡ (x == y) = grind (arith, nat_tests) in
    ap (λ (b : Bool). b || list_any (nat_eq y) xs) first ∙ ap (λ (b : Bool). (x == y) || b) (any_flip y xs)

apart : (i j : ℕ) → i < j → nat_eq i j ≡ false
apart i j below = grind (arith, nat_tests)

range-distinct : (m : ℕ) → IsDistinct nat_eq (range_with_len 0 m)
range-distinct m = IsDistinct-from_apart nat_eq (range_with_len 0 m) (λ i j d below inside.
    let many : length (range_with_len 0 m) ≡ m = length-range_with_len 0 m in
    let first : get_or (range_with_len 0 m) i d ≡ 0 + i = get_or-range_with_len 0 m i d (omega arith) in
    let second : get_or (range_with_len 0 m) j d ≡ 0 + j = get_or-range_with_len 0 m j d (omega arith) in
    apart (get_or (range_with_len 0 m) i d) (get_or (range_with_len 0 m) j d) (omega arith))

equal : (q x : ℕ) → nat_eq q x ≡ true → q ≡ x
equal q x e = grind (arith, nat_tests)

member-below : (m q : ℕ) → is_member nat_eq (range_with_len 0 m) q ≡ true → q < m
member-below m q e =
    let a = Any-from_list_any (nat_eq q) (range_with_len 0 m) e in
    let many : length (range_with_len 0 m) ≡ m = length-range_with_len 0 m in
    let inside : a.0 < length (range_with_len 0 m) = a.2 in
    let at : get_or (range_with_len 0 m) a.0 a.1 ≡ 0 + a.0 = get_or-range_with_len 0 m a.0 a.1 (omega arith) in
    let is : get_or (range_with_len 0 m) a.0 a.1 ≡ a.1 = a.3 in
    let same : q ≡ a.1 = equal q a.1 a.4 in
    omega arith

worth-none : (a : Bool) (s : ℕ) → (if a then 0 else 1 + s) ≤ 0 → a ≡ true
worth-none true s low = refl
worth-none false s low = absurd (omega arith)

-- fewer places than there are samples leave one that is worth something
greatest-some : (dist : List ℕ → List ℕ → ℕ) (samples : List (List ℕ)) (chosen : List ℕ) → length chosen < length samples
    → 0 < greatest (map (worth dist samples chosen) (range_with_len 0 (length samples)))
greatest-some dist samples chosen fewer = by (greatest worths) refl
  where
    worths : List ℕ
    worths = map (worth dist samples chosen) (range_with_len 0 (length samples))

    is_chosen : greatest worths ≡ 0 → (q : ℕ) → is_member nat_eq (range_with_len 0 (length samples)) q ≡ true → is_member nat_eq chosen q ≡ true
    is_chosen none q member =
        let inside = member-below (length samples) q member in
        let here : get_or worths q 0 ≡ worth dist samples chosen q =
        get_or-map-range_with_len (worth dist samples chosen) 0 (length samples) q q 0 inside (omega arith) in
        let above : get_or worths q 0 ≤ greatest worths = greatest-above worths q in
        any_flip q chosen ∙ worth-none (list_any (λ (other : ℕ). other == q) chosen) (sum_to dist samples chosen q) (omega arith)

    by : (g : ℕ) → greatest worths ≡ g → 0 < greatest worths
    by zero e =
        let few = length-le_from_is_member nat_eq_equiv (range_with_len 0 (length samples)) chosen (range-distinct (length samples)) (is_chosen e) in
        let many : length (range_with_len 0 (length samples)) ≡ length samples = length-range_with_len 0 (length samples) in
        absurd (omega arith)
    by (suc g) e = omega arith

not-chosen-when : (a : Bool) (s : ℕ) → 0 < (if a then 0 else 1 + s) → a ≡ false
not-chosen-when true s some = absurd (omega arith)
not-chosen-when false s some = refl

next-new : (dist : List ℕ → List ℕ → ℕ) (samples : List (List ℕ)) (chosen : List ℕ) → length chosen < length samples
    → list_any (λ (other : ℕ). other == next_place dist samples chosen) chosen ≡ false
next-new dist samples chosen fewer =
    let f = worth dist samples chosen in
    let worths = map f (range_with_len 0 (length samples)) in
    let best = next_place dist samples chosen in
    let inside : best < length samples = next-within dist samples chosen (omega arith) in
    let there : get_or worths best 0 ≡ f best = get_or-map-range_with_len f 0 (length samples) best best 0 inside (omega arith) in
    let holds : get_or worths best 0 ≡ greatest worths = first_place-holds worths in
    let some : 0 < greatest worths = greatest-some dist samples chosen fewer in
    not-chosen-when (list_any (λ (other : ℕ). other == best) chosen) (sum_to dist samples chosen best) (omega arith)

none-distinct : IsDistinct nat_eq []
unfolding IsDistinct
none-distinct = tt

chosen-distinct : (dist : List ℕ → List ℕ → ℕ) (samples : List (List ℕ)) (n : ℕ) → n ≤ length samples → IsDistinct nat_eq (chosen_places dist samples n)
unfolding chosen_places
chosen-distinct dist samples zero enough = none-distinct
chosen-distinct dist samples (suc n) enough =
    let front = chosen_places dist samples n in
    let many : length front ≡ n = chosen-length dist samples n in
    let new = next-new dist samples front (omega arith) in
    IsDistinct-push nat_eq_equiv front (next_place dist samples front) (chosen-distinct dist samples n (omega arith))
    (any_flip (next_place dist samples front) front ∙ new)

pub is_choice : (dist : List ℕ → List ℕ → ℕ) (samples : List (List ℕ)) (n : ℕ) → n ≤ length samples → IsChoice dist samples n (chosen_places dist samples n)
is_choice dist samples n enough = record {
  count = chosen-length dist samples n;
  within = chosen-within dist samples n enough;
  distinct = chosen-distinct dist samples n enough;
  farthest = chosen-farthest dist samples n;
}

-- ---- no other places are a choice

take-twice : (turn n : ℕ) (xs : List ℕ) → turn ≤ n → take turn (take n xs) ≡ take turn xs
take-twice zero n xs within = refl
take-twice (suc turn) zero xs within = absurd (omega arith)
take-twice (suc turn) (suc n) [] within = refl
take-twice (suc turn) (suc n) (x ∷ xs) within = ap (λ (ys : List ℕ). x ∷ ys) (take-twice turn n xs (omega arith))

-- the places but the last
choice-front : (dist : List ℕ → List ℕ → ℕ) (samples : List (List ℕ)) (n : ℕ) (places : List ℕ) → IsChoice dist samples (suc n) places
    → IsChoice dist samples n (take n places)
unfolding at-turn
choice-front dist samples n places c =
    let count = c.count in
    let many : length (take n places) ≡ n = length-take-le n places (omega arith) in
    record {
      count = many;
      within = All-from_get_or (λ (place : ℕ). place < length samples) (take n places) 0 (λ k inside.
          let same : get_or (take n places) k 0 ≡ get_or places k 0 = get_or-take n places k 0 (omega arith) in
          let low : get_or places k 0 < length samples = c.within k 0 (omega arith) in
          omega arith);
      distinct = IsDistinct-from_apart nat_eq (take n places) (λ i j d below inside.
          let first : get_or (take n places) i d ≡ get_or places i d = get_or-take n places i d (omega arith) in
          let second : get_or (take n places) j d ≡ get_or places j d = get_or-take n places j d (omega arith) in
          ap (λ (k : ℕ). nat_eq k (get_or (take n places) j d)) first ∙ ap (nat_eq (get_or places i d)) second
          ∙ apart_from_distinct nat_eq places i j d c.distinct below (omega arith));
      farthest = λ turn place within inside new.
          let front : take turn (take n places) ≡ take turn places = take-twice turn n places (omega arith) in
          let next : get_or (take n places) turn 0 ≡ get_or places turn 0 = get_or-take n places turn 0 (omega arith) in
          let farthest = c.farthest turn place (omega arith) inside (ap (list_any (λ (other : ℕ). other == place)) (sym front) ∙ new) in
          subst (λ (chosen : List ℕ). at-turn dist samples place chosen (get_or (take n places) turn 0)) (sym front)
          (subst (λ (p : ℕ). at-turn dist samples place (take turn places) p) (sym next) farthest);
    }

flip-apart : (i j : ℕ) → nat_eq i j ≡ false → (i == j) ≡ false
flip-apart i j e = grind (arith, nat_tests)

last-new : (n : ℕ) (places : List ℕ) → IsDistinct nat_eq places → length places ≡ suc n
    → list_any (λ (other : ℕ). other == get_or places n 0) (take n places) ≡ false
last-new n places distinct many =
    let last = get_or places n 0 in
    let fewer : length (take n places) ≡ n = length-take-le n places (omega arith) in
    list_any_none (λ (other : ℕ). other == last) (take n places) (All-from_get_or (λ (other : ℕ). (other == last) ≡ false) (take n places) 0 (λ k inside.
    let same : get_or (take n places) k 0 ≡ get_or places k 0 = get_or-take n places k 0 (omega arith) in
    ap (λ (other : ℕ). other == last) same
    ∙ flip-apart (get_or places k 0) last (apart_from_distinct nat_eq places k n 0 distinct (omega arith) (omega arith))))

last-is-next : (dist : List ℕ → List ℕ → ℕ) (samples : List (List ℕ)) (n : ℕ) (places : List ℕ) → IsChoice dist samples (suc n) places → suc n ≤ length samples
    → get_or places n 0 ≡ next_place dist samples (take n places)
last-is-next dist samples n places c enough =
    let front = take n places in
    let last = get_or places n 0 in
    let next = next_place dist samples front in
    let count = c.count in
    let fewer : length front ≡ n = length-take-le n places (omega arith) in
    let last_inside : last < length samples = c.within n 0 (omega arith) in
    let next_inside : next < length samples = next-within dist samples front (omega arith) in
    let one = next-farthest dist samples front last last_inside (last-new n places c.distinct count) in
    let other = c.farthest n next (omega arith) next_inside (next-new dist samples front (omega arith)) in
    let sums : sum_to dist samples front last ≡ sum_to dist samples front next = let a = one.0 in let b = other.0 in omega arith in
    let next_first : next ≤ last = one.1 sums in
    let last_first : last ≤ next = other.1 (sym sums) in
    omega arith

pub no_other : (dist : List ℕ → List ℕ → ℕ) (samples : List (List ℕ)) (n : ℕ) (places : List ℕ) → n ≤ length samples → IsChoice dist samples n places
    → places ≡ chosen_places dist samples n
unfolding chosen_places
no_other dist samples zero places enough c = nil_from_length places c.count
no_other dist samples (suc n) places enough c =
    let count = c.count in
    let fewer : n + 1 ≡ length places = omega arith in
    let whole : places ≡ take n places ++ get_or places n 0 ∷ [] = sym (take_all (n + 1) places (omega arith)) ∙ take_more places n 0 (omega arith) in
    let front : take n places ≡ chosen_places dist samples n = no_other dist samples n (take n places) (omega arith) (choice-front dist samples n places c) in
    let last = last-is-next dist samples n places c enough in
    whole ∙ ap (λ (k : ℕ). take n places ++ k ∷ []) last ∙ ap (λ (ps : List ℕ). ps ++ next_place dist samples ps ∷ []) front
