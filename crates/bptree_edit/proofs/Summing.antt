-- The summary of a list: of two lists one behind the other, of one item more, and in a loop.
use Rattle.std.proofs.Common.{take_all, length-drop, ◌≡◌, ℕ, zero, suc, ◌+◌, ◌-◌, ◌<◌, ◌≤◌, List, [], ◌∷◌, ◌++◌, length, take, drop, get_or, refl, sym, ap, subst, ◌∙◌, arith}
use Rattle.std.specs.Prelude.{Option, Some, None, IsSome}
use Rattle.std.specs.List.{AllByRecursion}
use Rattle.std.proofs.lemmas.List.{take_more}
use Rattle.std.proofs.lemmas.Grind.{get_or_after_one}
use Rattle.std.proofs.lemmas.Bool.{false≢true}
use Rattle.bptree_node.specs.declared.rows.Entry.{Entry}
use Rattle.bptree_node.specs.Summaries.{IsJoin, AreBoxes, joined_options, summary_of}
use Rattle.bptree_node.specs.SummaryLaws as any

-- what is made has one size and is joined in any order
pub record AreJoined {S : Type 0} (joined : S → S → S) (is_made : S → Type 0) : Type 0 where
  pub size : S → ℕ
  pub closed : (a b : S) → is_made a → is_made b → is_made (joined a b)
  pub one_size : (a b : S) → is_made a → is_made b → size a ≡ size b
  pub laws : IsJoin size joined

pub join_of_laws : {S : Type 0} (size : S → ℕ) (joined : S → S → S) (entry_box : Entry → Option S) (branch_box : ℕ → ℕ → Option S) (keys : S → ℕ × ℕ) (is_made : S → Type 0) (width : ℕ)
    → IsJoin size joined → AreBoxes size joined entry_box branch_box keys is_made width → AreJoined joined is_made
join_of_laws size joined entry_box branch_box keys is_made width laws boxes = record {
  size = size;
  closed = boxes.joined_made;
  one_size = λ a b one two. boxes.one_size a one ∙ sym (boxes.one_size b two);
  laws = laws;
}

-- two that are joined are there
pub joined_parts : {S : Type 0} (joined : S → S → S) (a b : Option S) (s : S) → joined_options joined a b ≡ Some s
    → (x : S) × ((y : S) × ((a ≡ Some x) × (b ≡ Some y) × (s ≡ joined x y)))
joined_parts joined (Some x) (Some y) s is = (x, (y, (refl, refl, cc)))
joined_parts joined (Some x) None s is = absurd (cc)
joined_parts joined None b s is = absurd (cc)

pub joined_some : {S : Type 0} (joined : S → S → S) (a b : Option S) (x y : S) → a ≡ Some x → b ≡ Some y → joined_options joined a b ≡ Some (joined x y)
joined_some joined a b x y one two = (λ i. joined_options joined (one i) (two i))

none_left : {S : Type 0} (joined : S → S → S) (a b : Option S) → a ≡ None → joined_options joined a b ≡ None
none_left joined a b none = (λ i. joined_options joined (none i) b)

none_right : {S : Type 0} (joined : S → S → S) (a b : Option S) → b ≡ None → joined_options joined a b ≡ None
none_right joined (Some x) b none = (λ i. joined_options joined (Some x) (none i))
none_right joined None b none = refl

-- the items behind the first one, as a loop over `&xs[1..]` has them
abbrev rest_of : {A : Type 0} → List A → List A
rest_of xs = take (length xs - 1) (drop 1 xs)

after_first : {A : Type 0} (xs : List A) (i : ℕ) (d : A) → i < length (rest_of xs) → (i + 1 < length xs) × (get_or (rest_of xs) i d ≡ get_or xs (i + 1) d)
after_first {A} xs i d below =
    let whole : rest_of xs ≡ drop {A = A} 1 xs = take_all {A = A} (length xs - 1) (drop {A = A} 1 xs) (omega (arith, length-drop 1 xs)) in
    let shorter : length (drop {A = A} 1 xs) ≡ length xs - 1 = length-drop 1 xs in
    let inside : i < length (drop {A = A} 1 xs) = subst (λ (zs : List A). i < length zs) whole below in
    (omega (arith, inside, shorter), ap (λ (zs : List A). get_or zs i d) whole ∙ get_or_after_one xs i d ∙ ap (λ (k : ℕ). get_or xs k d) (omega arith))

module _ {A S : Type 0} (joined : S → S → S) (box : A → Option S) where
  -- an item without a summary leaves the list without one
  pub summary-none : (xs : List A) (i : ℕ) (d : A) → i < length xs → box (get_or xs i d) ≡ None → summary_of joined box xs ≡ None
  summary-none [] i d below none = absurd (omega (arith, below))
  summary-none (x ∷ []) zero d below none = none
  summary-none (x ∷ []) (suc i) d below none = absurd (omega (arith, below))
  summary-none (x ∷ y ∷ ys) zero d below none = none_left joined (box x) (summary_of joined box (y ∷ ys)) none
  summary-none (x ∷ y ∷ ys) (suc i) d below none =
      none_right joined (box x) (summary_of joined box (y ∷ ys)) (summary-none (y ∷ ys) i d (omega (arith, below)) none)

  -- where each item has a summary, the list has one
  pub summary-some : (xs : List A) → 1 ≤ length xs → AllByRecursion (λ (x : A). IsSome (box x)) xs → summary_of joined box xs ≡ None → ⊥
  summary-some [] some all none = omega (arith, some)
  summary-some (x ∷ []) some all none = never (box x) none all.0
    where
      never : (o : Option S) → o ≡ None → IsSome o → ⊥
      never (Some y) none some = cc
      never None none some = false≢true some
  summary-some (x ∷ y ∷ ys) some all none = both (box x) (summary_of joined box (y ∷ ys)) all.0 (summary-some (y ∷ ys) (omega arith) all.1) none
    where
      both : (a b : Option S) → IsSome a → (b ≡ None → ⊥) → joined_options joined a b ≡ None → ⊥
      both (Some x) (Some y) one two none = cc
      both (Some x) None one two none = two refl
      both None b one two none = false≢true one

  module _ (is_made : S → Type 0) (made : (x : A) (s : S) → box x ≡ Some s → is_made s) (laws : AreJoined joined is_made) where
    pub summary-made : (xs : List A) (s : S) → summary_of joined box xs ≡ Some s → is_made s
    summary-made xs s is = any.summary-made laws.size joined box is_made made laws.closed xs s is

    -- one list behind the other
    pub summary-append : (xs ys : List A) (a b : S) → summary_of joined box xs ≡ Some a → summary_of joined box ys ≡ Some b → summary_of joined box (xs ++ ys) ≡ Some (joined a b)
    summary-append [] ys a b one two = absurd (cc)
    summary-append (x ∷ xs) [] a b one two = absurd (cc)
    summary-append (x ∷ xs) (y ∷ ys) a b one two =
        any.summary-append laws.size joined box is_made made laws.closed laws.one_size laws.laws x xs y ys
        ∙ joined_some joined (summary_of joined box (x ∷ xs)) (summary_of joined box (y ∷ ys)) a b one two

    some-there : (zs : List A) (s : S) → summary_of joined box zs ≡ Some s → (z : A) × ((rest : List A) × (zs ≡ z ∷ rest))
    some-there [] s is = absurd (cc)
    some-there (z ∷ rest) s is = (z, (rest, refl))

    -- one item more, anywhere
    pub summary-with : (xs ys : List A) (e : A) (s b : S) → summary_of joined box (xs ++ ys) ≡ Some s → box e ≡ Some b → summary_of joined box (xs ++ e ∷ ys) ≡ Some (joined s b)
    summary-with xs ys e s b is own =
        let there = some-there (xs ++ ys) s is in
        any.summary-inserted laws.size joined box is_made made laws.closed laws.one_size laws.laws e there.0 xs ys there.1.0 there.1.1
        ∙ joined_some joined (box e) (summary_of joined box (xs ++ ys)) b s own is
        ∙ ap (λ (a : S). Some a) (laws.laws.commutative b s (laws.one_size b s (made e b own) (summary-made (xs ++ ys) s is)))

    -- ---- in a loop from the second item on

    pub summary-more : (xs : List A) (i : ℕ) (d : A) (found : Option S) (a b now : S) → i < length (rest_of xs) → summary_of joined box (take (i + 1) xs) ≡ Some a → is_made a
        → found ≡ box (get_or (rest_of xs) i d) → found ≡ Some b → now ≡ joined a b → (summary_of joined box (take (i + 1 + 1) xs) ≡ Some now) × is_made now
    summary-more xs i d found a b now below is made_a seen some joins =
        let after = after_first xs i d below in
        let own : box (get_or (rest_of xs) i d) ≡ Some b = sym seen ∙ some in (
          subst (λ (zs : List A). summary_of joined box zs ≡ Some now) (sym (take_more xs (i + 1) d after.0))
              (summary-append (take (i + 1) xs) (get_or xs (i + 1) d ∷ []) a b is (ap box (sym after.1) ∙ own) ∙ ap (λ (s : S). Some s) (sym joins)),
          subst is_made (sym joins) (laws.closed a b made_a (made (get_or (rest_of xs) i d) b own)),
        )

  pub summary-ends : (xs : List A) (i : ℕ) (d : A) (found result : Option S) → i < length (rest_of xs) → found ≡ box (get_or (rest_of xs) i d) → found ≡ None → result ≡ None
      → result ≡ summary_of joined box xs
  summary-ends xs i d found result below seen none ends =
      let after = after_first xs i d below in
      ends ∙ sym (summary-none xs (i + 1) d after.0 (ap box (sym after.1) ∙ sym seen ∙ none))
