-- Lists of the same items, through filters and lists of lists.
use Rattle.std.proofs.Common.{◌≡◌, ℕ, zero, suc, ◌<◌, Bool, true, false, cond, List, [], ◌∷◌, ◌++◌, length, get_or, set, Option, Some, None, refl, sym, ap, subst, append_assoc, arith}
use Rattle.std.specs.List.{swap, filter, filter_map, flat_map}
use Rattle.std.specs.List.Sorted.{IsPermutation}
use Rattle.std.proofs.lemmas.List.Sorted.{IsPermutation-refl, IsPermutation-trans, IsPermutation-append, IsPermutation-append_left, IsPermutation-append_right, IsPermutation-append_comm, IsPermutation-keeps}

-- the first two of three lists change places
pub permutation-fronts : {A : Type 0} (a b c : List A) → IsPermutation (a ++ (b ++ c)) (b ++ (a ++ c))
permutation-fronts a b c =
    subst (λ l. IsPermutation l (b ++ (a ++ c))) (append_assoc a b c)
    (subst (IsPermutation (a ++ b ++ c)) (append_assoc b a c) (IsPermutation-append_left c (a ++ b) (b ++ a) (IsPermutation-append_comm a b)))

module _ {A B : Type 0} (f : A → List B) where
  -- an item is put in a place, and the one there comes out
  flat_map-set : (l : List A) (j : ℕ) (x d : A) → j < length l → IsPermutation (f x ++ flat_map f l) (f (get_or l j d) ++ flat_map f (set l j x))
  flat_map-set [] j x d inside = absurd (omega (arith, inside))
  flat_map-set (z ∷ l) zero x d inside = permutation-fronts (f x) (f z) (flat_map f l)
  flat_map-set (z ∷ l) (suc j) x d inside =
      IsPermutation-trans _ _ _ (permutation-fronts (f x) (f z) (flat_map f l))
      (IsPermutation-trans _ _ _ (IsPermutation-append_right (f z) _ _ (flat_map-set l j x d (omega (arith, inside))))
      (permutation-fronts (f z) (f (get_or l j d)) (flat_map f (set l j x))))

  flat_map-exchanged : (l : List A) (i j : ℕ) (d : A) → i < length l → j < length l
      → IsPermutation (flat_map f l) (flat_map f (set (set l i (get_or l j d)) j (get_or l i d)))
  flat_map-exchanged [] i j d p q = absurd (omega (arith, p))
  flat_map-exchanged (x ∷ l) zero zero d p q = IsPermutation-refl (flat_map f (x ∷ l))
  flat_map-exchanged (x ∷ l) zero (suc j) d p q = flat_map-set l j x d (omega (arith, q))
  flat_map-exchanged (x ∷ l) (suc i) zero d p q = flat_map-set l i x d (omega (arith, p))
  flat_map-exchanged (x ∷ l) (suc i) (suc j) d p q = IsPermutation-append_right (f x) _ _ (flat_map-exchanged l i j d (omega (arith, p)) (omega (arith, q)))

  flat_map-swap : (l : List A) (i j : ℕ) → i < length l → j < length l → IsPermutation (flat_map f l) (flat_map f (swap l i j))
  flat_map-swap [] i j p q = IsPermutation-refl []
  flat_map-swap (x ∷ l) i j p q = flat_map-exchanged (x ∷ l) i j x p q

  -- the pieces of the items
  pub permutation-flat_map : (xs ys : List A) → IsPermutation xs ys → IsPermutation (flat_map f xs) (flat_map f ys)
  permutation-flat_map xs ys moved = IsPermutation-keeps xs (λ l. IsPermutation (flat_map f xs) (flat_map f l)) (IsPermutation-refl (flat_map f xs))
      (λ l i j p q h. IsPermutation-trans _ _ _ h (flat_map-swap l i j p q)) ys moved

  -- pieces of the same items each
  pub permutation-pieces : (g : A → List B) → ((a : A) → IsPermutation (f a) (g a)) → (xs : List A) → IsPermutation (flat_map f xs) (flat_map g xs)
  permutation-pieces g each [] = IsPermutation-refl []
  permutation-pieces g each (x ∷ xs) = IsPermutation-append _ _ _ _ (each x) (permutation-pieces g each xs)

module _ {A : Type 0} (p : A → Bool) where
  filter_if : (b : Bool) (x : A) (xs ys : List A) → xs ≡ ys → cond b (x ∷ xs) xs ≡ cond b (x ∷ []) [] ++ ys
  filter_if true x xs ys e = ap (λ zs. x ∷ zs) e
  filter_if false x xs ys e = e

  filter-pieces : (xs : List A) → filter p xs ≡ flat_map (λ x. cond (p x) (x ∷ []) []) xs
  filter-pieces [] = refl
  filter-pieces (x ∷ xs) = filter_if (p x) x (filter p xs) (flat_map (λ x. cond (p x) (x ∷ []) []) xs) (filter-pieces xs)

  -- the items that pass
  pub permutation-filter : (xs ys : List A) → IsPermutation xs ys → IsPermutation (filter p xs) (filter p ys)
  permutation-filter xs ys moved =
      subst (λ l. IsPermutation l (filter p ys)) (sym (filter-pieces xs))
      (subst (IsPermutation (flat_map (λ x. cond (p x) (x ∷ []) []) xs)) (sym (filter-pieces ys))
      (permutation-flat_map (λ x. cond (p x) (x ∷ []) []) xs ys moved))

module _ {A B : Type 0} (h : A → Option B) where
  piece : Option B → List B
  piece None = []
  piece (Some b) = b ∷ []

  map_if : (o : Option B) (x : A) (xs : List A) (ys : List B) → h x ≡ o → filter_map h xs ≡ ys → filter_map h (x ∷ xs) ≡ piece o ++ ys
  unfolding piece
  map_if None x xs ys is e = rw is e
  map_if (Some b) x xs ys is e = rw is (ap (λ zs. b ∷ zs) e)

  filter_map-pieces : (xs : List A) → filter_map h xs ≡ flat_map (λ x. piece (h x)) xs
  filter_map-pieces [] = refl
  filter_map-pieces (x ∷ xs) = map_if (h x) x xs (flat_map (λ x. piece (h x)) xs) refl (filter_map-pieces xs)

  -- what the items give
  pub permutation-filter_map : (xs ys : List A) → IsPermutation xs ys → IsPermutation (filter_map h xs) (filter_map h ys)
  permutation-filter_map xs ys moved =
      subst (λ l. IsPermutation l (filter_map h ys)) (sym (filter_map-pieces xs))
      (subst (IsPermutation (flat_map (λ x. piece (h x)) xs)) (sym (filter_map-pieces ys)) (permutation-flat_map (λ x. piece (h x)) xs ys moved))
