-- Laws of lists in order, for any order.
use Rattle.std.proofs.Common.{◌≡◌, ℕ, zero, suc, ◌+◌, ◌-◌, ◌≤◌, ◌<◌, ◌==◌, Bool, true, false, not, ◌&&◌, ◌||◌, cond, List, [], ◌∷◌, ◌++◌, map, length, get_or, take, drop, refl, sym, ap, subst, ◌∙◌, inl, inr, ⊎_elim, append_assoc, take-append-drop, true≢false, arith}
use Rattle.std.specs.Prelude.{nat_lt, if◌then◌else◌, count_by, All, Some}
use Rattle.std.specs.List.{AllByRecursion, AllPairs, Contains, IsDistinct, filter, sum_by, slice_get}
use Rattle.std.specs.List.Sorted.{IsPermutation, IsSortedBy, ties}
use Rattle.std.specs.Ordering.{is_lt, ordering_then}
use Rattle.std.specs.declared.cmp.Ordering.TheVariants.{Less, Equal, Greater}
use Rattle.std.specs.Cmp.{IsStrictWeakOrder}
use Rattle.std.proofs.lemmas.Bool.{cases_Bool, cases_eq, cases_lt, false_from_ne_true}
use Rattle.std.proofs.lemmas.Bool.Decides.{nat_tests}
use Rattle.std.proofs.lemmas.List.Elements.{Contains-get_or, recursion_from_All}
use Rattle.std.proofs.lemmas.List.Sorted.{IsPermutation-refl, IsPermutation-sym, IsPermutation-trans, IsPermutation-cons, IsPermutation-append, IsPermutation-map, IsPermutation-middle, sorted_far, sum_by-IsPermutation, length_permutation, All-permutation, Contains-permutation}
use Rattle.std.proofs.lemmas.List.Sums.{sum_by-cons}
use Rattle.std.proofs.lemmas.List.{get_or_default, get_or-map, length-take-le, ext_get_or}
use Rattle.std.proofs.lemmas.Map.Keys.{IsDistinct-IsPermutation, IsDistinct-from_apart, apart_from_distinct}
use Rattle.std.proofs.lemmas.Option.{get_or_from_slice_get, slice_get_within}
use Rattle.std.proofs.Math.Seq.{take-append_seam}
use Rattle.answer_lists.specs.Order.{goes_before, with_inserted, sorted_by}

-- a strict total order of items
pub record IsStrictOrder {A : Type 0} (before : A → A → Bool) : Type 0 where
  -- none goes before itself
  pub never_itself : (a : A) → before a a ≡ false
  -- what goes before an item goes before all that it goes before
  pub transitive : (a b c : A) → before a b ≡ true → before b c ≡ true → before a c ≡ true
  -- of two items one goes before the other, or they are one
  pub decides : (a b : A) → before a b ≡ false → before b a ≡ false → a ≡ b

-- none goes before an earlier one
abbrev pub IsInOrder : {A : Type 0} → (A → A → Bool) → List A → Type 0
IsInOrder before [] = Unit {0}
IsInOrder before (x ∷ xs) = AllByRecursion (λ y. before y x ≡ false) xs × IsInOrder before xs

-- none of the second list goes before one of the first
abbrev pub AreAllAfter : {A : Type 0} → (A → A → Bool) → List A → List A → Type 0
AreAllAfter before front back = AllByRecursion (λ x. AllByRecursion (λ y. before y x ≡ false) back) front

-- ---- what holds by any test

module _ {A : Type 0} (before : A → A → Bool) where
  all_if : (P : A → Type 0) (b : Bool) (x y : A) (ys more : List A) → P x → P y → AllByRecursion P ys → AllByRecursion P more
      → AllByRecursion P (if b then y ∷ more else x ∷ y ∷ ys)
  all_if P true x y ys more p q all others = (q, others)
  all_if P false x y ys more p q all others = (p, (q, all))

  pub all-with_inserted : (P : A → Type 0) (x : A) (ys : List A) → P x → AllByRecursion P ys → AllByRecursion P (with_inserted before x ys)
  all-with_inserted P x [] p all = (p, tt)
  all-with_inserted P x (y ∷ ys) p all = all_if P (before y x) x y ys (with_inserted before x ys) p all.0 all.1 (all-with_inserted P x ys p all.1)

  pub all-sorted_by : (P : A → Type 0) (xs : List A) → AllByRecursion P xs → AllByRecursion P (sorted_by before xs)
  unfolding sorted_by
  all-sorted_by P [] all = tt
  all-sorted_by P (x ∷ xs) all = all-with_inserted P x (sorted_by before xs) all.0 (all-sorted_by P xs all.1)

  moved_if : (b : Bool) (x y : A) (ys more : List A) → IsPermutation more (x ∷ ys) → IsPermutation (if b then y ∷ more else x ∷ y ∷ ys) (x ∷ y ∷ ys)
  moved_if true x y ys more h = IsPermutation-trans _ _ _ (IsPermutation-cons y more (x ∷ ys) h) (IsPermutation-middle (y ∷ []) x ys)
  moved_if false x y ys more h = IsPermutation-refl (x ∷ y ∷ ys)

  with_inserted-permutation : (x : A) (ys : List A) → IsPermutation (with_inserted before x ys) (x ∷ ys)
  with_inserted-permutation x [] = IsPermutation-refl (x ∷ [])
  with_inserted-permutation x (y ∷ ys) = moved_if (before y x) x y ys (with_inserted before x ys) (with_inserted-permutation x ys)

  -- the sorted list has the items of the list
  pub sorted_by-permutation : (xs : List A) → IsPermutation (sorted_by before xs) xs
  unfolding sorted_by
  sorted_by-permutation [] = IsPermutation-refl []
  sorted_by-permutation (x ∷ xs) = IsPermutation-trans _ _ _ (with_inserted-permutation x (sorted_by before xs))
      (IsPermutation-cons x (sorted_by before xs) xs (sorted_by-permutation xs))

  pub permutation-sorted_by : (xs : List A) → IsPermutation xs (sorted_by before xs)
  permutation-sorted_by xs = IsPermutation-sym _ _ (sorted_by-permutation xs)

  pub sorted_by-length : (xs : List A) → length (sorted_by before xs) ≡ length xs
  sorted_by-length xs = length_permutation xs (sorted_by before xs) (permutation-sorted_by xs)

  pub sorted_by-sum : (f : A → ℕ) (xs : List A) → sum_by f (sorted_by before xs) ≡ sum_by f xs
  sorted_by-sum f xs = sum_by-IsPermutation f xs (sorted_by before xs) (permutation-sorted_by xs)

  pub sorted_by-count : (p : A → Bool) (xs : List A) → count_by p (sorted_by before xs) ≡ count_by p xs
  sorted_by-count p xs = sum_by-IsPermutation _ xs (sorted_by before xs) (permutation-sorted_by xs)

  pub sorted_by-contains : (xs : List A) (x : A) → Contains xs x → Contains (sorted_by before xs) x
  sorted_by-contains xs x h = Contains-permutation xs (sorted_by before xs) x (permutation-sorted_by xs) h

  pub contains-sorted_by : (xs : List A) (x : A) → Contains (sorted_by before xs) x → Contains xs x
  contains-sorted_by xs x h = Contains-permutation (sorted_by before xs) xs x (sorted_by-permutation xs) h

  pub sorted_by-all : (P : A → Type 0) (xs : List A) → All P xs → All P (sorted_by before xs)
  sorted_by-all P xs h = All-permutation P xs (sorted_by before xs) (permutation-sorted_by xs) h

-- an order by a key is one of the keys
module _ {A B : Type 0} (before : B → B → Bool) (key : A → B) where
  map_if : (b : Bool) (x y : A) (ys more : List A) (more' : List B) → map key more ≡ more'
      → map key (if b then y ∷ more else x ∷ y ∷ ys) ≡ (if b then key y ∷ more' else key x ∷ key y ∷ map key ys)
  map_if true x y ys more more' h = ap (λ zs. key y ∷ zs) h
  map_if false x y ys more more' h = refl

  map-with_inserted : (x : A) (ys : List A) → map key (with_inserted (λ a b. before (key a) (key b)) x ys) ≡ with_inserted before (key x) (map key ys)
  map-with_inserted x [] = refl
  map-with_inserted x (y ∷ ys) = map_if (before (key y) (key x)) x y ys (with_inserted (λ a b. before (key a) (key b)) x ys)
      (with_inserted before (key x) (map key ys)) (map-with_inserted x ys)

  pub sorted_by-map : (xs : List A) → map key (sorted_by (λ a b. before (key a) (key b)) xs) ≡ sorted_by before (map key xs)
  unfolding sorted_by
  sorted_by-map [] = refl
  sorted_by-map (x ∷ xs) = map-with_inserted x (sorted_by (λ a b. before (key a) (key b)) xs) ∙ ap (with_inserted before (key x)) (sorted_by-map xs)

-- ---- what holds if any two items compare

module _ {A : Type 0} (before : A → A → Bool) (w : IsStrictWeakOrder before) where
  further : (x y : A) (ys : List A) → before y x ≡ false → AllByRecursion (λ z. before z y ≡ false) ys → AllByRecursion (λ z. before z x ≡ false) ys
  further x y [] h all = tt
  further x y (z ∷ zs) h all = (w.chain z y x all.0 h, further x y zs h all.1)

  ordered_if : (b : Bool) (x y : A) (ys : List A) → before y x ≡ b → IsInOrder before (y ∷ ys) → IsInOrder before (with_inserted before x ys)
      → IsInOrder before (if b then y ∷ with_inserted before x ys else x ∷ y ∷ ys)
  ordered_if true x y ys is up more = (all-with_inserted before (λ z. before z y ≡ false) x ys (w.one_way y x is) up.0, more)
  ordered_if false x y ys is up more = ((is, further x y ys is up.0), up)

  in_order-with_inserted : (x : A) (ys : List A) → IsInOrder before ys → IsInOrder before (with_inserted before x ys)
  in_order-with_inserted x [] up = (tt, tt)
  in_order-with_inserted x (y ∷ ys) up = ordered_if (before y x) x y ys refl up (in_order-with_inserted x ys up.1)

  -- the sorted list is in order
  pub in_order-sorted_by : (xs : List A) → IsInOrder before (sorted_by before xs)
  unfolding sorted_by
  in_order-sorted_by [] = tt
  in_order-sorted_by (x ∷ xs) = in_order-with_inserted x (sorted_by before xs) (in_order-sorted_by xs)

  -- in order by places, as a sort says it
  at_least : (x : A) (ys : List A) → ((k : ℕ) (d : A) → k < length ys → before (get_or ys k d) x ≡ false) → AllByRecursion (λ y. before y x ≡ false) ys
  at_least x [] h = tt
  at_least x (y ∷ ys) h = (h 0 y (omega arith), at_least x ys (λ k d below. h (suc k) d (omega (arith, below))))

  in_order-far : (xs : List A) → ((i j : ℕ) (d : A) → i ≤ j → j < length xs → before (get_or xs j d) (get_or xs i d) ≡ false) → IsInOrder before xs
  in_order-far [] h = tt
  in_order-far (x ∷ xs) h = (
    at_least x xs (λ k d below. h 0 (suc k) d (omega arith) (omega (arith, below))),
    in_order-far xs (λ i j d le below. h (suc i) (suc j) d (omega (arith, le)) (omega (arith, below))),
  )

  pub in_order-from_sorted : (xs : List A) → IsSortedBy before xs → IsInOrder before xs
  in_order-from_sorted xs sorted = in_order-far xs (sorted_far before w xs sorted)

  sorted_next : (x : A) (ys : List A) → AllByRecursion (λ y. before y x ≡ false) ys → (d : A) → 0 < length ys → before (get_or ys 0 d) x ≡ false
  sorted_next x [] all d inside = absurd (omega (arith, inside))
  sorted_next x (y ∷ ys) all d inside = all.0

  sorted-from_in_order : (xs : List A) → IsInOrder before xs → (k : ℕ) (d : A) → k + 1 < length xs → before (get_or xs (k + 1) d) (get_or xs k d) ≡ false
  sorted-from_in_order [] up k d inside = absurd (omega (arith, inside))
  sorted-from_in_order (x ∷ xs) up zero d inside = sorted_next x xs up.0 d (omega (arith, inside))
  sorted-from_in_order (x ∷ xs) up (suc k) d inside =
      let next : k + 1 + 1 ≡ suc (k + 1) = omega arith in
      let e : suc k + 1 ≡ suc (k + 1) = omega arith in
      subst (λ n. before (get_or (x ∷ xs) n d) (get_or xs k d) ≡ false) (sym e) (sorted-from_in_order xs up.1 k d (omega (arith, inside)))

  -- as std's sorts say it
  pub sorted_by-in_order : (xs : List A) → IsInOrder before xs → IsSortedBy before xs
  sorted_by-in_order xs up k d low inside = sorted-from_in_order xs up k d inside

  pub sorted_by-sorted : (xs : List A) → IsSortedBy before (sorted_by before xs)
  sorted_by-sorted xs = sorted_by-in_order (sorted_by before xs) (in_order-sorted_by xs)

  -- if none goes before the item, it comes first
  with_inserted-first : (x : A) (ys : List A) → AllByRecursion (λ y. before y x ≡ false) ys → with_inserted before x ys ≡ x ∷ ys
  with_inserted-first x [] all = refl
  with_inserted-first x (y ∷ ys) all = ap (λ b. if b then y ∷ with_inserted before x ys else x ∷ y ∷ ys) all.0

  -- a list in order is its own sorted list
  pub sorted_by-already : (xs : List A) → IsInOrder before xs → sorted_by before xs ≡ xs
  unfolding sorted_by
  sorted_by-already [] up = refl
  sorted_by-already (x ∷ xs) up = ap (with_inserted before x) (sorted_by-already xs up.1) ∙ with_inserted-first x xs up.0

  pub sorted_by-twice : (xs : List A) → sorted_by before (sorted_by before xs) ≡ sorted_by before xs
  sorted_by-twice xs = sorted_by-already (sorted_by before xs) (in_order-sorted_by xs)

  -- ---- filters

  all-filter : (P : A → Type 0) (p : A → Bool) (b : Bool) (x : A) (xs : List A) → P x → AllByRecursion P xs → AllByRecursion P (cond b (x ∷ xs) xs)
  all-filter P p true x xs h all = (h, all)
  all-filter P p false x xs h all = all

  all-filtered : (P : A → Type 0) (p : A → Bool) (xs : List A) → AllByRecursion P xs → AllByRecursion P (filter p xs)
  all-filtered P p [] all = tt
  all-filtered P p (x ∷ xs) all = all-filter P p (p x) x (filter p xs) all.0 (all-filtered P p xs all.1)

  -- b: y goes before x; s: x passes; t: y passes
  filtered_if : (p : A → Bool) (b s t : Bool) (x y : A) (ys : List A) → p x ≡ s → p y ≡ t → before y x ≡ b → AllByRecursion (λ z. before z y ≡ false) ys
      → filter p (with_inserted before x ys) ≡ cond s (with_inserted before x (filter p ys)) (filter p ys)
      → filter p (if b then y ∷ with_inserted before x ys else x ∷ y ∷ ys)
      ≡ cond s (with_inserted before x (cond t (y ∷ filter p ys) (filter p ys))) (cond t (y ∷ filter p ys) (filter p ys))
  filtered_if p true true true x y ys hx hy is up more =
      ap (λ c. cond c (y ∷ filter p (with_inserted before x ys)) (filter p (with_inserted before x ys))) hy
      ∙ ap (λ zs. y ∷ zs) more
      ∙ sym (ap (λ c. if c then y ∷ with_inserted before x (filter p ys) else x ∷ y ∷ filter p ys) is)
  filtered_if p true true false x y ys hx hy is up more =
      ap (λ c. cond c (y ∷ filter p (with_inserted before x ys)) (filter p (with_inserted before x ys))) hy ∙ more
  filtered_if p true false true x y ys hx hy is up more =
      ap (λ c. cond c (y ∷ filter p (with_inserted before x ys)) (filter p (with_inserted before x ys))) hy
      ∙ ap (λ zs. y ∷ zs) more
  filtered_if p true false false x y ys hx hy is up more =
      ap (λ c. cond c (y ∷ filter p (with_inserted before x ys)) (filter p (with_inserted before x ys))) hy ∙ more
  filtered_if p false true true x y ys hx hy is up more =
      ap (λ c. cond c (x ∷ cond (p y) (y ∷ filter p ys) (filter p ys)) (cond (p y) (y ∷ filter p ys) (filter p ys))) hx
      ∙ ap (λ c. x ∷ cond c (y ∷ filter p ys) (filter p ys)) hy
      ∙ sym (ap (λ c. if c then y ∷ with_inserted before x (filter p ys) else x ∷ y ∷ filter p ys) is)
  filtered_if p false true false x y ys hx hy is up more =
      ap (λ c. cond c (x ∷ cond (p y) (y ∷ filter p ys) (filter p ys)) (cond (p y) (y ∷ filter p ys) (filter p ys))) hx
      ∙ ap (λ c. x ∷ cond c (y ∷ filter p ys) (filter p ys)) hy
      ∙ sym (with_inserted-first x (filter p ys) (all-filtered (λ z. before z x ≡ false) p ys (further x y ys is up)))
  filtered_if p false false t x y ys hx hy is up more =
      ap (λ c. cond c (x ∷ cond (p y) (y ∷ filter p ys) (filter p ys)) (cond (p y) (y ∷ filter p ys) (filter p ys))) hx
      ∙ ap (λ c. cond c (y ∷ filter p ys) (filter p ys)) hy

  filter-with_inserted : (p : A → Bool) (x : A) (ys : List A) → IsInOrder before ys
      → filter p (with_inserted before x ys) ≡ cond (p x) (with_inserted before x (filter p ys)) (filter p ys)
  filter-with_inserted p x [] up = refl
  filter-with_inserted p x (y ∷ ys) up = filtered_if p (before y x) (p x) (p y) x y ys refl refl refl up.0 (filter-with_inserted p x ys up.1)

  arranged_if : (b : Bool) (x : A) (ys zs : List A) → with_inserted before x ys ≡ sorted_by before (x ∷ zs) → ys ≡ sorted_by before zs
      → sorted_by before (cond b (x ∷ zs) zs) ≡ cond b (with_inserted before x ys) ys
  arranged_if true x ys zs h k = sym h
  arranged_if false x ys zs h k = sym k

  -- the items that pass, sorted, are those of the sorted list that pass
  pub sorted_by-filter : (p : A → Bool) (xs : List A) → sorted_by before (filter p xs) ≡ filter p (sorted_by before xs)
  unfolding sorted_by
  sorted_by-filter p [] = refl
  sorted_by-filter p (x ∷ xs) =
      let more = sym (sorted_by-filter p xs) in
      arranged_if (p x) x (filter p (sorted_by before xs)) (filter p xs) (ap (with_inserted before x) more) more
      ∙ sym (filter-with_inserted p x (sorted_by before xs) (in_order-sorted_by xs))

-- one list after another

module _ {A : Type 0} (before : A → A → Bool) where
  all-append : (P : A → Type 0) (xs ys : List A) → AllByRecursion P xs → AllByRecursion P ys → AllByRecursion P (xs ++ ys)
  all-append P [] ys all more = more
  all-append P (x ∷ xs) ys all more = (all.0, all-append P xs ys all.1 more)

  all-back : (P : A → Type 0) (xs ys : List A) → AllByRecursion P (xs ++ ys) → AllByRecursion P ys
  all-back P [] ys all = all
  all-back P (x ∷ xs) ys all = all-back P xs ys all.1

  all-front : (P : A → Type 0) (xs ys : List A) → AllByRecursion P (xs ++ ys) → AllByRecursion P xs
  all-front P [] ys all = tt
  all-front P (x ∷ xs) ys all = (all.0, all-front P xs ys all.1)

  pub in_order-append : (front back : List A) → IsInOrder before front → IsInOrder before back → AreAllAfter before front back
      → IsInOrder before (front ++ back)
  in_order-append [] back up more behind = more
  in_order-append (x ∷ front) back up more behind =
      (all-append (λ y. before y x ≡ false) front back up.0 behind.0, in_order-append front back up.1 more behind.1)

  -- the parts of a list in order are in order, and the second comes after the first
  pub in_order-front : (front back : List A) → IsInOrder before (front ++ back) → IsInOrder before front
  in_order-front [] back up = tt
  in_order-front (x ∷ front) back up = (all-front (λ y. before y x ≡ false) front back up.0, in_order-front front back up.1)

  pub in_order-back : (front back : List A) → IsInOrder before (front ++ back) → IsInOrder before back
  in_order-back [] back up = up
  in_order-back (x ∷ front) back up = in_order-back front back up.1

  pub in_order-behind : (front back : List A) → IsInOrder before (front ++ back) → AreAllAfter before front back
  in_order-behind [] back up = tt
  in_order-behind (x ∷ front) back up = (all-back (λ y. before y x ≡ false) front back up.0, in_order-behind front back up.1)

  pub behind-append : (front back more : List A) → AreAllAfter before front back → AreAllAfter before front more → AreAllAfter before front (back ++ more)
  behind-append [] back more a b = tt
  behind-append (x ∷ front) back more a b = (all-append (λ y. before y x ≡ false) back more a.0 b.0, behind-append front back more a.1 b.1)

  -- after the items, as after the sorted items
  pub behind-sorted_by : (front back : List A) → AreAllAfter before front back → AreAllAfter before (sorted_by before front) (sorted_by before back)
  behind-sorted_by front back h = all-sorted_by before (λ x. AllByRecursion (λ y. before y x ≡ false) (sorted_by before back)) front (each front h)
    where
      each : (xs : List A) → AreAllAfter before xs back → AllByRecursion (λ x. AllByRecursion (λ y. before y x ≡ false) (sorted_by before back)) xs
      each [] h = tt
      each (x ∷ xs) h = (all-sorted_by before (λ y. before y x ≡ false) back h.0, each xs h.1)

-- ---- what holds by an order

module _ {A : Type 0} (before : A → A → Bool) (o : IsStrictOrder before) where
  pub weak : IsStrictWeakOrder before
  weak = record {
    one_way = λ x y h. elim (cases_Bool (before y x)) [
      | inl back ↦ absurd (true≢false (sym (o.transitive x y x h back) ∙ o.never_itself x))
      | inr stays ↦ stays
    ];
    chain = λ x y z a b. elim (cases_Bool (before x z)) [
      | inl less ↦ elim (cases_Bool (before y x)) [
        | inl first ↦ absurd (true≢false (sym (o.transitive y x z first less) ∙ b))
        | inr other ↦ absurd (true≢false (sym less ∙ ap (λ t. before t z) (o.decides x y a other) ∙ b))
      ]
      | inr stays ↦ stays
    ];
  }

  -- how often a list has an item

  abbrev pub times : A → List A → ℕ
  times a xs = count_by (ties before a) xs

  times-cons : (a b : A) (bs : List A) → times a (b ∷ bs) ≡ cond (ties before a b) 1 0 + times a bs
  times-cons a b bs = sum_by-cons _ b bs

  ties-itself : (a : A) → ties before a a ≡ true
  ties-itself a = ap (λ b. not b && not b) (o.never_itself a)

  both_false : (b c : Bool) → (not b && not c) ≡ true → (b ≡ false) × (c ≡ false)
  both_false true c h = absurd (true≢false (sym h))
  both_false false true h = absurd (true≢false (sym h))
  both_false false false h = (refl, refl)

  ties-is : (a b : A) → ties before a b ≡ true → a ≡ b
  ties-is a b h = let parts = both_false (before a b) (before b a) h in o.decides a b parts.0 parts.1

  times-itself : (a : A) (bs : List A) → times a (a ∷ bs) ≡ 1 + times a bs
  times-itself a bs = times-cons a a bs ∙ ap {B = ℕ} (λ b. cond b 1 0 + times a bs) (ties-itself a)

  -- what all items of a list are, an item of it is
  held_by : (P : A → Type 0) (a b : A) (bs : List A) (t : Bool) → ties before a b ≡ t → P b → (1 ≤ times a bs → P a) → 1 ≤ cond t 1 0 + times a bs → P a
  held_by P a b bs true is first others some = subst P (sym (ties-is a b is)) first
  held_by P a b bs false is first others some = others (omega (arith, some))

  held : (P : A → Type 0) (a : A) (bs : List A) → AllByRecursion P bs → 1 ≤ times a bs → P a
  held P a [] all some = absurd (omega (arith, some))
  held P a (b ∷ bs) all some =
      let count = times-cons a b bs in
      held_by P a b bs (ties before a b) refl all.0 (held P a bs all.1) (subst (λ n. 1 ≤ n) count some)

  -- two lists in order that have each item equally often are one
  pub one_list : (xs ys : List A) → IsInOrder before xs → IsInOrder before ys → ((a : A) → times a xs ≡ times a ys) → xs ≡ ys
  one_list [] [] a b equal = refl
  one_list [] (y ∷ ys) a b equal = absurd (omega (arith, equal y, times-itself y ys))
  one_list (x ∷ xs) [] a b equal = absurd (omega (arith, equal x, times-itself x xs))
  one_list (x ∷ xs) (y ∷ ys) a b equal =
      let first : x ≡ y =
      let left = held (λ z. before z y ≡ false) x (y ∷ ys) (o.never_itself y, b.0) (let e = equal x in let f = times-itself x xs in omega (arith, e, f)) in
      let right = held (λ z. before z x ≡ false) y (x ∷ xs) (o.never_itself x, a.0) (let e = equal y in let f = times-itself y ys in omega (arith, e, f)) in
      o.decides x y left right in
      let rest : xs ≡ ys = one_list xs ys a.1 b.1 (λ p.
      let e = equal p in
      let f = times-cons p x xs in
      let g = times-cons p y ys in
      let h = ap {B = ℕ} (λ z. cond (ties before p z) 1 0) first in omega (arith, e, f, g, h)) in
      ap (λ z. z ∷ xs) first ∙ ap (λ zs. y ∷ zs) rest

  -- two lists in order of the same items are one
  pub in_order-same : (xs ys : List A) → IsInOrder before xs → IsInOrder before ys → IsPermutation xs ys → xs ≡ ys
  in_order-same xs ys a b moved = one_list xs ys a b (λ p. sym (sum_by-IsPermutation _ xs ys moved))

  -- a list in order of the items of xs is the sorted list
  pub sorted_by-unique : (xs ys : List A) → IsPermutation xs ys → IsInOrder before ys → ys ≡ sorted_by before xs
  sorted_by-unique xs ys moved up =
      in_order-same ys (sorted_by before xs) up (in_order-sorted_by before weak xs)
      (IsPermutation-trans _ _ _ (IsPermutation-sym _ _ moved) (permutation-sorted_by before xs))

  -- what a sort gives
  pub sorted_by-from_sort : (xs ys : List A) → IsPermutation xs ys → IsSortedBy before ys → ys ≡ sorted_by before xs
  sorted_by-from_sort xs ys moved sorted = sorted_by-unique xs ys moved (in_order-from_sorted before weak ys sorted)

  -- the order of the items in a list doesn't change the sorted list
  pub sorted_by-same : (xs ys : List A) → IsPermutation xs ys → sorted_by before xs ≡ sorted_by before ys
  sorted_by-same xs ys moved =
      sorted_by-unique ys (sorted_by before xs) (IsPermutation-trans _ _ _ (IsPermutation-sym _ _ moved) (permutation-sorted_by before xs))
      (in_order-sorted_by before weak xs)

  -- if the second list comes after the first, each is sorted by itself
  pub sorted_by-append : (front back : List A) → AreAllAfter before front back
      → sorted_by before (front ++ back) ≡ sorted_by before front ++ sorted_by before back
  sorted_by-append front back behind =
      sym
      (sorted_by-unique (front ++ back) (sorted_by before front ++ sorted_by before back)
      (IsPermutation-append _ _ _ _ (permutation-sorted_by before front) (permutation-sorted_by before back))
      (in_order-append before (sorted_by before front) (sorted_by before back) (in_order-sorted_by before weak front) (in_order-sorted_by before weak back)
      (behind-sorted_by before front back behind)))

  -- a prefix of the sorted list stays if all that is added comes after it
  pub sorted_by-more : (xs more front back : List A) → sorted_by before xs ≡ front ++ back → AreAllAfter before front more
      → sorted_by before (xs ++ more) ≡ front ++ sorted_by before (back ++ more)
  sorted_by-more xs more front back parts behind =
      let up : IsInOrder before (front ++ back) = subst (IsInOrder before) parts (in_order-sorted_by before weak xs) in
      let moved : IsPermutation xs (front ++ back) = subst (IsPermutation xs) parts (permutation-sorted_by before xs) in
      sorted_by-same (xs ++ more) (front ++ (back ++ more))
      (subst (IsPermutation (xs ++ more)) (append_assoc front back more) (IsPermutation-append _ _ _ _ moved (IsPermutation-refl more)))
      ∙ sorted_by-append front (back ++ more) (behind-append before front back more (in_order-behind before front back up) behind)
      ∙ ap (λ zs. zs ++ sorted_by before (back ++ more)) (sorted_by-already before weak front (in_order-front before front back up))

  -- the parts of the sorted list are in order, and the second comes after the first
  pub sorted_by-parts : (xs front back : List A) → sorted_by before xs ≡ front ++ back → IsInOrder before front × IsInOrder before back
      × AreAllAfter before front back
  sorted_by-parts xs front back parts =
      let up : IsInOrder before (front ++ back) = subst (IsInOrder before) parts (in_order-sorted_by before weak xs) in
      (in_order-front before front back up, in_order-back before front back up, in_order-behind before front back up)

  -- ---- the first of the sorted list

  -- items of which none of the others goes before one are the first
  pub sorted_by-first : (xs front back : List A) → IsPermutation xs (front ++ back) → AreAllAfter before front back
      → take (length front) (sorted_by before xs) ≡ sorted_by before front
  sorted_by-first xs front back moved behind =
      ap (take (length front)) (sorted_by-same xs (front ++ back) moved ∙ sorted_by-append front back behind)
      ∙ ap (λ n. take n (sorted_by before front ++ sorted_by before back)) (sym (sorted_by-length before front))
      ∙ take-append_seam (sorted_by before front) (sorted_by before back)

  -- an item that doesn't go before the last of a list in order goes before none of it
  behind_all : (front : List A) (last : A) (more : List A) → AllByRecursion (λ x. before last x ≡ false) front
      → AllByRecursion (λ y. before y last ≡ false) more → AreAllAfter before front more
  behind_all [] last more all others = tt
  behind_all (x ∷ front) last more all others = (each more others, behind_all front last more all.1 others)
    where
      each : (ys : List A) → AllByRecursion (λ y. before y last ≡ false) ys → AllByRecursion (λ y. before y x ≡ false) ys
      each [] h = tt
      each (y ∷ ys) h = (weak.chain y last x h.0 all.0, each ys h.1)

  -- the item at a place goes before none of those up to it
  up_to : (xs : List A) (k : ℕ) (last : A) → IsInOrder before xs → slice_get xs k ≡ Some last → AllByRecursion (λ x. before last x ≡ false) (take (suc k) xs)
  up_to xs k last up is = upto xs k last (get_or_from_slice_get xs k last last is) (slice_get_within xs k last is) up
    where
      first_of : (x : A) (xs : List A) (k : ℕ) → AllByRecursion (λ y. before y x ≡ false) xs → k < length xs → before (get_or xs k x) x ≡ false
      first_of x [] k all inside = absurd (omega (arith, inside))
      first_of x (y ∷ ys) zero all inside = all.0
      first_of x (y ∷ ys) (suc k) all inside = first_of x ys k all.1 (omega (arith, inside))

      upto : (xs : List A) (k : ℕ) (last : A) → get_or xs k last ≡ last → k < length xs → IsInOrder before xs
          → AllByRecursion (λ x. before last x ≡ false) (take (suc k) xs)
      upto [] k last is inside up = tt
      upto (x ∷ xs) zero last is inside up = (subst (λ z. before last z ≡ false) (sym is) (o.never_itself last), tt)
      upto (x ∷ xs) (suc k) last is inside up =
          let inner : k < length xs = omega (arith, inside) in
          let there : get_or xs k x ≡ last = get_or_default xs k x last inner ∙ is in
          (subst (λ z. before z x ≡ false) there (first_of x xs k up.0 inner), upto xs k last is inner up.1)

  -- the first k stay the first k if none that comes to the list goes before the k-th
  pub sorted_by-take : (k : ℕ) (xs more : List A) (last : A) → slice_get (sorted_by before xs) (k - 1) ≡ Some last → All (λ y. before y last ≡ false) more
      → take k (sorted_by before (xs ++ more)) ≡ take k (sorted_by before xs)
  sorted_by-take zero xs more last is others = refl
  sorted_by-take (suc k) xs more last is others =
      let same_place : suc k - 1 ≡ k = omega arith in
      let place : slice_get (sorted_by before xs) k ≡ Some last = subst (λ n. slice_get (sorted_by before xs) n ≡ Some last) same_place is in
      let front = take (suc k) (sorted_by before xs) in
      let back = drop (suc k) (sorted_by before xs) in
      let behind : AreAllAfter before front more = behind_all front last more (up_to (sorted_by before xs) k last (in_order-sorted_by before weak xs) place)
      (recursion_from_All (λ y. before y last ≡ false) more others) in
      let inside = slice_get_within (sorted_by before xs) k last place in
      let long : length front ≡ suc k = length-take-le (suc k) (sorted_by before xs) (omega (arith, inside)) in
      ap (take (suc k)) (sorted_by-more xs more front back (sym (take-append-drop (suc k) (sorted_by before xs))) behind)
      ∙ ap (λ n. take n (front ++ sorted_by before (back ++ more))) (sym long)
      ∙ take-append_seam front (sorted_by before (back ++ more))

  -- and the k-th stays the k-th
  pub sorted_by-place : (k : ℕ) (xs more : List A) (last : A) → slice_get (sorted_by before xs) k ≡ Some last → All (λ y. before y last ≡ false) more
      → slice_get (sorted_by before (xs ++ more)) k ≡ Some last
  sorted_by-place k xs more last is others =
      let same_place : suc k - 1 ≡ k = omega arith in
      let place : slice_get (sorted_by before xs) (suc k - 1) ≡ Some last = subst (λ n. slice_get (sorted_by before xs) n ≡ Some last) (sym same_place) is in
      sym (slice_get-take k (sorted_by before (xs ++ more)))
      ∙ ap (λ zs. slice_get zs k) (sorted_by-take (suc k) xs more last place others)
      ∙ slice_get-take k (sorted_by before xs)
      ∙ is
    where
      slice_get-take : (k : ℕ) (zs : List A) → slice_get (take (suc k) zs) k ≡ slice_get zs k
      slice_get-take k [] = refl
      slice_get-take zero (z ∷ zs) = refl
      slice_get-take (suc k) (z ∷ zs) = slice_get-take k zs

-- ---- orders by a key

-- no two items have the same key
abbrev pub HasDistinctKeys : {A B : Type 0} → (A → B) → List A → Type 0
HasDistinctKeys key xs = AllPairs (λ a b. key a ≡ key b → ⊥) xs

module _ {A B : Type 0} (before : B → B → Bool) (o : IsStrictOrder before) (key : A → B) where
  abbrev pub by_key : A → A → Bool
  by_key a b = before (key a) (key b)

  -- any two items compare by their keys
  pub weak_by_key : IsStrictWeakOrder by_key
  weak_by_key = record { one_way = λ x y h. (weak before o).one_way (key x) (key y) h; chain = λ x y z a b. (weak before o).chain (key x) (key y) (key z) a b }

  both_flip : (b c : Bool) → (not b && not c) ≡ (not c && not b)
  both_flip true true = refl
  both_flip true false = refl
  both_flip false true = refl
  both_flip false false = refl

  distinct_keys : (xs : List A) → HasDistinctKeys key xs → IsDistinct (ties by_key) xs
  distinct_keys xs h = IsDistinct-from_apart (ties by_key) xs
      (λ i j d less inside. false_from_ne_true (ties by_key (get_or xs i d) (get_or xs j d))
      (λ t. h i j d less inside (ties-is before o (key (get_or xs i d)) (key (get_or xs j d)) t)))

  keys_distinct : (xs : List A) → IsDistinct (ties by_key) xs → HasDistinctKeys key xs
  keys_distinct xs h = λ i j d less inside e.
      let one : ties before (key (get_or xs i d)) (key (get_or xs i d)) ≡ true = ties-itself before o (key (get_or xs i d)) in
      true≢false (sym one ∙ ap (λ k. ties before (key (get_or xs i d)) k) e ∙ apart_from_distinct (ties by_key) xs i j d h less inside)

  -- distinct keys stay distinct when the items change places
  pub distinct-permutation : (xs ys : List A) → IsPermutation xs ys → HasDistinctKeys key xs → HasDistinctKeys key ys
  distinct-permutation xs ys moved h = keys_distinct ys
      (IsDistinct-IsPermutation (ties by_key) (λ x y. both_flip (by_key x y) (by_key y x)) xs ys moved (distinct_keys xs h))

  same_place : (xs : List A) (i j : ℕ) (d : A) → HasDistinctKeys key xs → i < length xs → j < length xs → key (get_or xs i d) ≡ key (get_or xs j d)
      → get_or xs i d ≡ get_or xs j d
  same_place xs i j d h p q e = ⊎_elim
      (λ less. absurd (h i j d less q e))
      (λ more. ⊎_elim
      (λ equal. ap (λ n. get_or xs n d) equal)
      (λ other. let less : j < i = omega (arith, more, other) in absurd (h j i d less p (sym e)))
      (cases_eq i j))
      (cases_lt i j)

  -- items of two lists that have the same keys at the same places, and the same items at some places
  same_items : (us vs : List A) → map key us ≡ map key vs → IsPermutation us vs → HasDistinctKeys key vs → us ≡ vs
  same_items us vs keys moved h = go us refl
    where
      at : (u : A) (i : ℕ) → i < length us → get_or us i u ≡ get_or vs i u
      at u i inside =
          let long : length vs ≡ length us = length_permutation us vs moved in
          let there : Contains vs (get_or us i u) = Contains-permutation us vs (get_or us i u) moved (Contains-get_or us i u inside) in
          let x = get_or us i u in
          let j = there.0 in
          let found : get_or vs j u ≡ x = get_or_default vs j u x there.1 ∙ there.2 in
          let left : get_or (map key us) i (key u) ≡ key (get_or us i u) = get_or-map key us i u (key u) inside in
          let right : get_or (map key vs) i (key u) ≡ key (get_or vs i u) = get_or-map key vs i u (key u) (omega (arith, inside, long)) in
          let one : key (get_or vs j u) ≡ key (get_or vs i u) = ap key found ∙ sym left ∙ ap (λ ks. get_or ks i (key u)) keys ∙ right in
          sym found ∙ same_place vs j i u h there.1 (omega (arith, inside, long)) one

      go : (zs : List A) → zs ≡ us → us ≡ vs
      go [] e = sym e ∙ sym (none vs (length_permutation us vs moved ∙ ap length (sym e)))
        where
          none : (ws : List A) → length ws ≡ 0 → ws ≡ []
          none [] e = refl
          none (w ∷ ws) e = absurd (omega (arith, e))
      go (u ∷ zs) e = ext_get_or u us vs (sym (length_permutation us vs moved)) (λ i inside. at u i inside)

  -- the order of the items in a list doesn't change the sorted listby distinct keys
  pub arranged_by-same : (xs ys : List A) → IsPermutation xs ys → HasDistinctKeys key xs → sorted_by by_key xs ≡ sorted_by by_key ys
  arranged_by-same xs ys moved h =
      let whole : IsPermutation (sorted_by by_key xs) (sorted_by by_key ys) =
      IsPermutation-trans _ _ _ (sorted_by-permutation by_key xs) (IsPermutation-trans _ _ _ moved (permutation-sorted_by by_key ys)) in
      same_items (sorted_by by_key xs) (sorted_by by_key ys)
      (sorted_by-map before key xs ∙ sorted_by-same before o (map key xs) (map key ys) (IsPermutation-map key xs ys moved) ∙ sym (sorted_by-map before key ys))
      whole
      (distinct-permutation xs (sorted_by by_key ys) (IsPermutation-trans _ _ _ moved (permutation-sorted_by by_key ys)) h)

  -- a list in order by its keys, of the items of xs
  pub arranged_by-unique : (xs ys : List A) → IsPermutation xs ys → HasDistinctKeys key xs → IsInOrder by_key ys → ys ≡ sorted_by by_key xs
  arranged_by-unique xs ys moved h up = sym (arranged_by-same xs ys moved h ∙ sorted_by-already by_key weak_by_key ys up)

  -- the items that pass, sorted by their keys; equal keys are allowed
  pub arranged_by-filter : (p : A → Bool) (xs : List A) → sorted_by by_key (filter p xs) ≡ filter p (sorted_by by_key xs)
  arranged_by-filter p xs = sorted_by-filter by_key weak_by_key p xs

-- ---- the orders of ids and of ranks

above_itself : (a : ℕ) → nat_lt a a ≡ false
above_itself a = grind (arith, nat_tests)

nat_transitive : (a b c : ℕ) → nat_lt a b ≡ true → nat_lt b c ≡ true → nat_lt a c ≡ true
nat_transitive a b c h k = grind (arith, nat_tests)

nat_decides : (a b : ℕ) → nat_lt a b ≡ false → nat_lt b a ≡ false → a ≡ b
nat_decides a b h k = grind (arith, nat_tests)

pub nat_order : IsStrictOrder nat_lt
nat_order = record { never_itself = above_itself; transitive = nat_transitive; decides = nat_decides }

abbrev pub Pair : Type 0
Pair = ℕ × ℕ

is_lt-pair : (lt eq lt' eq' : Bool) → is_lt (ordering_then (cond lt Less (cond eq Equal Greater)) (cond lt' Less (cond eq' Equal Greater)))
    ≡ (lt || (eq && lt'))
is_lt-pair true eq lt' eq' = refl
is_lt-pair false false lt' eq' = refl
is_lt-pair false true true eq' = refl
is_lt-pair false true false true = refl
is_lt-pair false true false false = refl

-- the order of pairs by tests
pub goes_before-is : (a b : Pair) → goes_before a b ≡ (nat_lt a.0 b.0 || ((a.0 == b.0) && nat_lt a.1 b.1))
goes_before-is a b = is_lt-pair (nat_lt a.0 b.0) (a.0 == b.0) (nat_lt a.1 b.1) (a.1 == b.1)

alone : (a b : ℕ) → (nat_lt a a || ((a == a) && nat_lt b b)) ≡ false
alone a b = grind (arith, nat_tests)

chained : (a b c d e f : ℕ) → (nat_lt a c || ((a == c) && nat_lt b d)) ≡ true → (nat_lt c e || ((c == e) && nat_lt d f)) ≡ true
    → (nat_lt a e || ((a == e) && nat_lt b f)) ≡ true
chained a b c d e f h k = grind (arith, nat_tests)

firsts_same : (a b c d : ℕ) → (nat_lt a c || ((a == c) && nat_lt b d)) ≡ false → (nat_lt c a || ((c == a) && nat_lt d b)) ≡ false → a ≡ c
firsts_same a b c d h k = grind (arith, nat_tests)

seconds_same : (a b c d : ℕ) → (nat_lt a c || ((a == c) && nat_lt b d)) ≡ false → (nat_lt c a || ((c == a) && nat_lt d b)) ≡ false → b ≡ d
seconds_same a b c d h k = grind (arith, nat_tests)

pub pair_same : (a b c d : ℕ) → a ≡ c → b ≡ d → ◌≡◌ {A = Pair} (a, b) (c, d)
pair_same a b c d e f = cc

pair_decides : (p q : Pair) → goes_before p q ≡ false → goes_before q p ≡ false → p ≡ q
pair_decides p q h k =
    let h' = sym (goes_before-is p q) ∙ h in
    let k' = sym (goes_before-is q p) ∙ k in
    pair_same p.0 p.1 q.0 q.1 (firsts_same p.0 p.1 q.0 q.1 h' k') (seconds_same p.0 p.1 q.0 q.1 h' k')

pub pair_order : IsStrictOrder goes_before
pair_order = record {
  never_itself = λ p. goes_before-is p p ∙ alone p.0 p.1;
  transitive = λ p q r h k. goes_before-is p r ∙ chained p.0 p.1 q.0 q.1 r.0 r.1 (sym (goes_before-is p q) ∙ h) (sym (goes_before-is q r) ∙ k);
  decides = pair_decides;
}
