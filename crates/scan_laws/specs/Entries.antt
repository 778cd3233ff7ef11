-- Rows that are made of other items, such as rows that hold more than an id and an object.
use Rattle.std.proofs.Common.{◌≡◌, ◌≢◌, ℕ, zero, suc, ◌<◌, Bool, true, false, cond, List, [], ◌∷◌, length, get_or, refl, ap, ◌∙◌, arith}
use Rattle.std.specs.Prelude.{◌==◌, not, map, filter, All, AllPairs, Option, Some, option_map}
use Rattle.std.specs.List.{find}
use Rattle.std.specs.List.Sorted.{IsPermutation}
use Rattle.std.proofs.lemmas.List.Sorted.{IsPermutation-map}
use Rattle.spb_defs.specs.Scans.{Entry}
use Rattle.scan_laws.specs.Tables.{HasDistinctEntryIds, object_with_id, entries_without}

module _ {A : Type 0} (f : A → Entry) where
  found_if : (b : Bool) (x : A) (rest : Option A) → cond b (Some (f x).1) (option_map (λ y. (f y).1) rest) ≡ option_map (λ y. (f y).1) (cond b (Some x) rest)
  found_if true x rest = refl
  found_if false x rest = refl

  -- the object under an id is that of the first item with the id
  pub object_with_id-map : (xs : List A) (id : ℕ) → object_with_id (map f xs) id ≡ option_map (λ x. (f x).1) (find (λ x. (f x).0 == id) xs)
  object_with_id-map [] id = refl
  object_with_id-map (x ∷ xs) id =
      ap (λ rest. cond ((f x).0 == id) (Some (f x).1) rest) (object_with_id-map xs id) ∙ found_if ((f x).0 == id) x (find (λ x. (f x).0 == id) xs)

  kept_if : (b : Bool) (x : A) (xs : List A) → cond b (f x ∷ map f xs) (map f xs) ≡ map f (cond b (x ∷ xs) xs)
  kept_if true x xs = refl
  kept_if false x xs = refl

  -- the rows without an id are those of the items without it
  pub entries_without-map : (xs : List A) (id : ℕ) → entries_without (map f xs) id ≡ map f (filter (λ x. not ((f x).0 == id)) xs)
  entries_without-map [] id = refl
  entries_without-map (x ∷ xs) id =
      ap (λ rest. cond (not ((f x).0 == id)) (f x ∷ rest) rest) (entries_without-map xs id)
      ∙ kept_if (not ((f x).0 == id)) x (filter (λ x. not ((f x).0 == id)) xs)

  each : (P : Entry → Type 0) (xs : List A) → ((k : ℕ) (d : A) → k < length xs → P (f (get_or xs k d))) → (k : ℕ) (d : Entry) → k < length (map f xs)
      → P (get_or (map f xs) k d)
  each P [] h k d below = absurd (omega arith)
  each P (x ∷ xs) h zero d below = h 0 x (omega arith)
  each P (x ∷ xs) h (suc k) d below = each P xs (λ j e inside. h (suc j) e (omega (arith, inside))) k d (omega (arith, below))

  -- the rows of items with other ids have other ids
  pub HasDistinctEntryIds-map : (xs : List A) → AllPairs (λ a b. (f a).0 ≢ (f b).0) xs → HasDistinctEntryIds (map f xs)
  HasDistinctEntryIds-map [] h i j d less below = absurd (omega arith)
  HasDistinctEntryIds-map (x ∷ xs) h zero zero d less below = absurd (omega arith)
  HasDistinctEntryIds-map (x ∷ xs) h (suc i) zero d less below = absurd (omega arith)
  HasDistinctEntryIds-map (x ∷ xs) h zero (suc j) d less below =
      each (λ row. (f x).0 ≢ row.0) xs (λ k e inside. h 0 (suc k) e (omega arith) (omega (arith, inside))) j d (omega (arith, below))
  HasDistinctEntryIds-map (x ∷ xs) h (suc i) (suc j) d less below =
      HasDistinctEntryIds-map xs (λ k l e first inside. h (suc k) (suc l) e (omega (arith, first)) (omega (arith, inside))) i j d (omega (arith, less))
      (omega (arith, below))

  -- what is so of each item's row is so of the rows
  pub All-rows : (P : Entry → Type 0) (xs : List A) → All (λ x. P (f x)) xs → All P (map f xs)
  All-rows P xs h = λ k d below. each P xs h k d below

  -- the items without an id, in another order, give the rows without it in another order
  pub entries_without-moved : (xs ys : List A) (id : ℕ) → IsPermutation (filter (λ x. not ((f x).0 == id)) xs) ys
      → IsPermutation (entries_without (map f xs) id) (map f ys)
  entries_without-moved xs ys id moved =
      rw (entries_without-map xs id) (IsPermutation-map f (filter (λ x. not ((f x).0 == id)) xs) ys moved)
