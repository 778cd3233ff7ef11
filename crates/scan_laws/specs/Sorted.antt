-- Entries that are sorted by their keys.
use Rattle.std.proofs.Common.{◌≡◌, Bool, true, false, cond, List, [], ◌∷◌, length, get_or, refl, sym, ap, ◌∙◌, true≢false, arith}
use Rattle.std.specs.Prelude.{Option, Some, None, if◌then◌else◌}
use Rattle.std.specs.List.{AllByRecursion, IsDistinct}
use Rattle.std.specs.List.Sorted.{IsPermutation, IsStrictlySortedBy}
use Rattle.std.specs.Map.{keys_of, lookup, remove_entry}
use Rattle.std.specs.BTreeMap.{is_at, insert_entry}
use Rattle.std.specs.Ordering.{is_lt, is_eq, eq_by_cmp, ordering_reverse, match_ordering}
use Rattle.std.specs.declared.cmp.Ordering.{Ordering}
use Rattle.std.specs.declared.cmp.Ordering.TheVariants.{Less, Equal, Greater}
use Rattle.std.specs.Cmp.{IsTotalOrder}
use Rattle.std.proofs.lemmas.Cmp.{eq_by_cmp_equiv}
use Rattle.std.proofs.lemmas.List.Sorted.{IsPermutation-map}
use Rattle.std.proofs.lemmas.Map.Keys.{IsDistinct-head, IsDistinct-tail, IsDistinct-IsPermutation, apart_from_distinct}
use Rattle.std.proofs.lemmas.Map.Lookups.{CmpEqualImpliesEq}
use Rattle.std.proofs.lemmas.List.{length-map, get_or-map}
use Rattle.answer_lists.specs.Order.{with_inserted, sorted_by}
use Rattle.answer_lists.specs.OrderLaws.{IsStrictOrder, HasDistinctKeys, arranged_by-same}

-- ---- tests by a key

-- Some is not None
found : {X : Type 0} (x : X) → Some x ≡ None → ⊥
found x e = cc

-- what isn't found in the entries isn't the first of them, and isn't found in the others
module _ {X : Type 0} where
  not_first : (b : Bool) (x : X) (rest : Option X) → cond b (Some x) rest ≡ None → b ≡ false
  not_first true x rest h = absurd (found x h)
  not_first false x rest h = refl

  not_later : (b : Bool) (x : X) (rest : Option X) → cond b (Some x) rest ≡ None → rest ≡ None
  not_later true x rest h = absurd (found x h)
  not_later false x rest h = h

  -- two tests of which one passes at most may change places
  either_first : (b c : Bool) (u v : X) (rest : Option X) → (b ≡ true → c ≡ true → ⊥)
      → cond b (Some u) (cond c (Some v) rest) ≡ cond c (Some v) (cond b (Some u) rest)
  either_first true true u v rest h = absurd (h refl refl)
  either_first true false u v rest h = refl
  either_first false c u v rest h = refl

module _ {K X : Type 0} (test : K → Bool) where
  -- nothing is found if no key passes
  pub lookup-absent : (es : List (K × X)) → AllByRecursion (λ k. test k ≡ false) (keys_of es) → lookup test es ≡ None
  lookup-absent [] h = refl
  lookup-absent (e ∷ es) h = ap (λ b. cond b (Some e.1) (lookup test es)) h.0 ∙ lookup-absent es h.1

  -- no key passes if nothing is found
  pub absent-lookup : (es : List (K × X)) → lookup test es ≡ None → AllByRecursion (λ k. test k ≡ false) (keys_of es)
  absent-lookup [] h = tt
  absent-lookup (e ∷ es) h = (not_first (test e.0) e.1 (lookup test es) h, absent-lookup es (not_later (test e.0) e.1 (lookup test es) h))

  -- nothing is taken out if nothing is found
  pub remove_entry-absent : (es : List (K × X)) → lookup test es ≡ None → remove_entry test es ≡ es
  remove_entry-absent [] h = refl
  remove_entry-absent (e ∷ es) h =
      ap (λ b. cond b es (e ∷ remove_entry test es)) (not_first (test e.0) e.1 (lookup test es) h)
      ∙ ap (λ l. e ∷ l) (remove_entry-absent es (not_later (test e.0) e.1 (lookup test es) h))

-- ---- a total order of keys

less : (r : Ordering) → is_lt r ≡ true → r ≡ Less
less Less h = refl
less Equal h = absurd (true≢false (sym h))
less Greater h = absurd (true≢false (sym h))

equal : (r : Ordering) → is_eq r ≡ true → r ≡ Equal
equal Less h = absurd (true≢false (sym h))
equal Equal h = refl
equal Greater h = absurd (true≢false (sym h))

module _ {K : Type 0} {R : K → K → Ordering} (o : IsTotalOrder R) where
  turned : (x y : K) → R y x ≡ ordering_reverse (R x y)
  turned x y = o.antisymm y x

  -- if a query equals both of two keys, neither is before the other
  not_both : (q x y : K) → is_lt (R x y) ≡ true → is_eq (R q x) ≡ true → is_eq (R q y) ≡ true → ⊥
  not_both q x y lt at_x at_y =
      let one : R q y ≡ R x y = o.congr q x y (equal (R q x) at_x) in
      let two : is_lt (R q y) ≡ true = ap is_lt one ∙ lt in
      let three : is_lt (R q y) ≡ false = ap is_lt (equal (R q y) at_y) in
      true≢false (sym two ∙ three)

  through : (x y z : K) → is_lt (R x y) ≡ true → is_lt (R y z) ≡ true → is_lt (R x z) ≡ true
  through x y z h k = ap is_lt (o.trans x y z (less (R x y) h) (less (R y z) k))

  -- of two other keys of which the second isn't before the first, the first is before the second
  less_by : (x y : K) (r : Ordering) → R x y ≡ r → is_eq r ≡ false → is_lt (R y x) ≡ false → r ≡ Less
  less_by x y Less is other h = refl
  less_by x y Equal is other h = absurd (true≢false other)
  less_by x y Greater is other h = absurd (true≢false (sym (ap is_lt (turned x y) ∙ ap (λ r. is_lt (ordering_reverse r)) is) ∙ h))

  below_all : (x y : K) (ks : List K) → R x y ≡ Less → AllByRecursion (λ z. R y z ≡ Less) ks → AllByRecursion (λ z. R x z ≡ Less) ks
  below_all x y [] h all = tt
  below_all x y (z ∷ ks) h all = (o.trans x y z h all.0, below_all x y ks h all.1)

  itself : (k : K) → is_at (R k) k ≡ true
  itself k = (eq_by_cmp_equiv o).refl k

  -- keys of which none is before the other are one
  one_key : CmpEqualImpliesEq R → (x y : K) (r : Ordering) → R x y ≡ r → is_lt r ≡ false → is_lt (R y x) ≡ false → x ≡ y
  one_key exact x y Less is h k = absurd (true≢false h)
  one_key exact x y Equal is h k = exact x y is
  one_key exact x y Greater is h k = absurd (true≢false (sym (ap is_lt (turned x y) ∙ ap (λ r. is_lt (ordering_reverse r)) is) ∙ k))

  order_of : CmpEqualImpliesEq R → IsStrictOrder (λ x y. is_lt (R x y))
  order_of exact = record {
    never_itself = λ x. ap is_lt (equal (R x x) (itself x));
    transitive = through;
    decides = λ x y h k. one_key exact x y (R x y) refl h k;
  }

-- ---- entries by a total order of keys

module _ {K X : Type 0} {R : K → K → Ordering} (o : IsTotalOrder R) where
  abbrev before : K × X → K × X → Bool
  before a b = is_lt (R a.0 b.0)

  -- ---- what is found

  module _ (q : K) where
    looked_if : (b : Bool) (x e : K × X) (es more : List (K × X)) → before e x ≡ b → lookup (is_at (R q)) more ≡ lookup (is_at (R q)) (x ∷ es)
        → lookup (is_at (R q)) (if b then e ∷ more else x ∷ e ∷ es) ≡ lookup (is_at (R q)) (x ∷ e ∷ es)
    looked_if true x e es more is h =
        ap (λ rest. cond (is_eq (R q e.0)) (Some e.1) rest) h
        ∙ either_first (is_eq (R q e.0)) (is_eq (R q x.0)) e.1 x.1 (lookup (is_at (R q)) es) (not_both o q e.0 x.0 is)
    looked_if false x e es more is h = refl

    lookup-with_inserted : (x : K × X) (es : List (K × X)) → lookup (is_at (R q)) (with_inserted before x es) ≡ lookup (is_at (R q)) (x ∷ es)
    lookup-with_inserted x [] = refl
    lookup-with_inserted x (e ∷ es) = looked_if (before e x) x e es (with_inserted before x es) refl (lookup-with_inserted x es)

    -- the same is found in the sorted entries
    pub lookup-sorted_by : (es : List (K × X)) → lookup (is_at (R q)) (sorted_by before es) ≡ lookup (is_at (R q)) es
    unfolding sorted_by
    lookup-sorted_by [] = refl
    lookup-sorted_by (e ∷ es) = lookup-with_inserted e (sorted_by before es) ∙ ap (λ rest. cond (is_eq (R q e.0)) (Some e.1) rest) (lookup-sorted_by es)

  -- ---- entries of distinct keys are sorted the same from any order

  -- distinct keys stay distinct
  pub distinct-moved : (xs ys : List (K × X)) → IsPermutation xs ys → IsDistinct (eq_by_cmp R) (keys_of xs) → IsDistinct (eq_by_cmp R) (keys_of ys)
  distinct-moved xs ys h d = IsDistinct-IsPermutation (eq_by_cmp R) (eq_by_cmp_equiv o).symm (keys_of xs) (keys_of ys)
      (IsPermutation-map (λ (e : K × X). e.0) xs ys h) d

  -- keys that the order tells apart are distinct
  other_keys : (xs : List (K × X)) → IsDistinct (eq_by_cmp R) (keys_of xs) → HasDistinctKeys (λ (e : K × X). e.0) xs
  other_keys xs apart = λ i j d less inside same.
      let long : length (keys_of xs) ≡ length xs = length-map xs (λ (e : K × X). e.0) in
      let differ : eq_by_cmp R (get_or (keys_of xs) i d.0) (get_or (keys_of xs) j d.0) ≡ false =
      apart_from_distinct (eq_by_cmp R) (keys_of xs) i j d.0 apart less (omega (arith, inside, long)) in
      let left : get_or (keys_of xs) i d.0 ≡ (get_or xs i d).0 = get_or-map (λ (e : K × X). e.0) xs i d d.0 (omega (arith, less, inside)) in
      let right : get_or (keys_of xs) j d.0 ≡ (get_or xs j d).0 = get_or-map (λ (e : K × X). e.0) xs j d d.0 inside in
      let one : get_or (keys_of xs) j d.0 ≡ get_or (keys_of xs) i d.0 = right ∙ sym same ∙ sym left in
      true≢false (sym (itself o (get_or (keys_of xs) i d.0)) ∙ ap (λ k. eq_by_cmp R (get_or (keys_of xs) i d.0) k) (sym one) ∙ differ)

  -- the order in which they come doesn't change the sorted list
  pub sorted_by-same_keys : CmpEqualImpliesEq R → (xs ys : List (K × X)) → IsPermutation xs ys → IsDistinct (eq_by_cmp R) (keys_of xs)
      → sorted_by before xs ≡ sorted_by before ys
  sorted_by-same_keys exact xs ys h d = arranged_by-same (λ x y. is_lt (R x y)) (order_of o exact) (λ (e : K × X). e.0) xs ys h (other_keys xs d)

  -- ---- one entry more

  inserted_by : (r : Ordering) (k : K) (v : X) (e : K × X) (es front more : List (K × X)) → cond (is_eq r) (Some e.1) (lookup (is_at (R k)) es) ≡ None
      → (lookup (is_at (R k)) es ≡ None → front ≡ more)
      → (if is_lt (ordering_reverse r) then e ∷ front else (k, v) ∷ e ∷ es) ≡ match_ordering r ((k, v) ∷ e ∷ es) ((e.0, v) ∷ es) (e ∷ more)
  inserted_by Less k v e es front more h rest = refl
  inserted_by Equal k v e es front more h rest = absurd (found e.1 h)
  inserted_by Greater k v e es front more h rest = ap (λ l. e ∷ l) (rest h)

  with_inserted-absent : (k : K) (v : X) (es : List (K × X)) → lookup (is_at (R k)) es ≡ None → with_inserted before (k, v) es ≡ insert_entry R es k v
  with_inserted-absent k v [] h = refl
  with_inserted-absent k v (e ∷ es) h =
      ap (λ r. if is_lt r then e ∷ with_inserted before (k, v) es else (k, v) ∷ e ∷ es) (turned o k e.0)
      ∙ inserted_by (R k e.0) k v e es (with_inserted before (k, v) es) (insert_entry R es k v) h (with_inserted-absent k v es)

  -- an entry of another key than the others is inserted
  pub sorted_by-inserted : (k : K) (v : X) (es : List (K × X)) → lookup (is_at (R k)) es ≡ None
      → sorted_by before ((k, v) ∷ es) ≡ insert_entry R (sorted_by before es) k v
  unfolding sorted_by
  sorted_by-inserted k v es h = with_inserted-absent k v (sorted_by before es) (lookup-sorted_by k es ∙ h)

  -- ---- one entry less

  module _ (test : K → Bool) where
    removed_if : (b : Bool) (x e : K × X) (es more : List (K × X)) → test x.0 ≡ true → test e.0 ≡ false → remove_entry test more ≡ es
        → remove_entry test (if b then e ∷ more else x ∷ e ∷ es) ≡ e ∷ es
    removed_if true x e es more here other h = ap (λ b. cond b more (e ∷ remove_entry test more)) other ∙ ap (λ l. e ∷ l) h
    removed_if false x e es more here other h = ap (λ b. cond b (e ∷ es) (x ∷ remove_entry test (e ∷ es))) here

    with_inserted-removed : (x : K × X) (es : List (K × X)) → test x.0 ≡ true → lookup test es ≡ None → remove_entry test (with_inserted before x es) ≡ es
    with_inserted-removed x [] here h = ap (λ b. cond b [] (x ∷ [])) here
    with_inserted-removed x (e ∷ es) here h =
        removed_if (before e x) x e es (with_inserted before x es) here (not_first (test e.0) e.1 (lookup test es) h)
        (with_inserted-removed x es here (not_later (test e.0) e.1 (lookup test es) h))

  -- an entry of another key than the others is taken out
  pub sorted_by-removed : (k : K) (v : X) (es : List (K × X)) → lookup (is_at (R k)) es ≡ None
      → remove_entry (is_at (R k)) (sorted_by before ((k, v) ∷ es)) ≡ sorted_by before es
  unfolding sorted_by
  sorted_by-removed k v es h = with_inserted-removed (is_at (R k)) (k, v) (sorted_by before es) (itself o k) (lookup-sorted_by k es ∙ h)

  -- ---- the sorted keys rise

  all_if : (P : K → Type 0) (b : Bool) (x e : K × X) (es more : List (K × X)) → P x.0 → P e.0 → AllByRecursion P (keys_of es) → AllByRecursion P (keys_of more)
      → AllByRecursion P (keys_of (if b then e ∷ more else x ∷ e ∷ es))
  all_if P true x e es more p q all others = (q, others)
  all_if P false x e es more p q all others = (p, (q, all))

  all-with_inserted : (P : K → Type 0) (x : K × X) (es : List (K × X)) → P x.0 → AllByRecursion P (keys_of es)
      → AllByRecursion P (keys_of (with_inserted before x es))
  all-with_inserted P x [] p all = (p, tt)
  all-with_inserted P x (e ∷ es) p all = all_if P (before e x) x e es (with_inserted before x es) p all.0 all.1 (all-with_inserted P x es p all.1)

  rising_if : (b : Bool) (x e : K × X) (es : List (K × X)) → before e x ≡ b → is_eq (R x.0 e.0) ≡ false → IsStrictlySortedBy R (keys_of (e ∷ es))
      → IsStrictlySortedBy R (keys_of (with_inserted before x es))
      → IsStrictlySortedBy R (keys_of (if b then e ∷ with_inserted before x es else x ∷ e ∷ es))
  unfolding IsStrictlySortedBy
  rising_if true x e es is other up more = (all-with_inserted (λ z. R e.0 z ≡ Less) x es (less (R e.0 x.0) is) up.0, more)
  rising_if false x e es is other up more =
      let first : R x.0 e.0 ≡ Less = less_by o x.0 e.0 (R x.0 e.0) refl other is in
      ((first, below_all o x.0 e.0 (keys_of es) first up.0), up)

  rising-with_inserted : (x : K × X) (es : List (K × X)) → AllByRecursion (λ k. is_eq (R x.0 k) ≡ false) (keys_of es) → IsStrictlySortedBy R (keys_of es)
      → IsStrictlySortedBy R (keys_of (with_inserted before x es))
  unfolding IsStrictlySortedBy
  rising-with_inserted x [] other up = (tt, tt)
  rising-with_inserted x (e ∷ es) other up = rising_if (before e x) x e es refl other.0 up (rising-with_inserted x es other.1 up.1)

  -- sorted entries of distinct keys are in ascending order
  pub rising-sorted_by : (es : List (K × X)) → IsDistinct (eq_by_cmp R) (keys_of es) → IsStrictlySortedBy R (keys_of (sorted_by before es))
  unfolding sorted_by IsStrictlySortedBy
  rising-sorted_by [] d = tt
  rising-sorted_by (e ∷ es) d =
      let apart : AllByRecursion (λ k. is_eq (R e.0 k) ≡ false) (keys_of es) = IsDistinct-head (eq_by_cmp R) e.0 (keys_of es) d in
      let none : lookup (is_at (R e.0)) (sorted_by before es) ≡ None = lookup-sorted_by e.0 es ∙ lookup-absent (is_at (R e.0)) es apart in
      rising-with_inserted e (sorted_by before es) (absent-lookup (is_at (R e.0)) (sorted_by before es) none)
      (rising-sorted_by es (IsDistinct-tail (eq_by_cmp R) e.0 (keys_of es) d))
