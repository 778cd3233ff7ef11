-- Laws of summaries: of entries or branches one after another, and of one more.
use Rattle.std.proofs.Common.{◌≡◌, ℕ, List, [], ◌∷◌, ◌++◌, refl, sym, ap, ◌∙◌}
use Rattle.std.specs.Prelude.{Option, Some, None}
use Rattle.std.proofs.lemmas.List.{append-nil}
use Rattle.bptree_node.specs.Summaries.{IsJoin, joined_options, summary_of}

module _ {A S : Type 0} (size : S → ℕ) (joined : S → S → S) (box : A → Option S) (is_made : S → Type 0) (made : (x : A) (s : S) → box x ≡ Some s → is_made s)
    (closed : (a b : S) → is_made a → is_made b → is_made (joined a b)) where
  -- if there is a summary, it is made
  abbrev IsMadeOption : Option S → Type 0
  IsMadeOption None = Unit {0}
  IsMadeOption (Some s) = is_made s

  one_made : (x : A) (o : Option S) → box x ≡ o → IsMadeOption o
  one_made x None is = tt
  one_made x (Some s) is = made x s is

  both_made : (o p : Option S) → IsMadeOption o → IsMadeOption p → IsMadeOption (joined_options joined o p)
  both_made None p one two = tt
  both_made (Some a) None one two = tt
  both_made (Some a) (Some b) one two = closed a b one two

  option-made : (es : List A) → IsMadeOption (summary_of joined box es)
  option-made [] = tt
  option-made (e ∷ []) = one_made e (box e) refl
  option-made (e ∷ f ∷ es) = both_made (box e) (summary_of joined box (f ∷ es)) (one_made e (box e) refl) (option-made (f ∷ es))

  -- the summary is made of entries or branches
  pub summary-made : (es : List A) (s : S) → summary_of joined box es ≡ Some s → is_made s
  summary-made es s is = rw is at (option-made es)

  module _ (one_size : (a b : S) → is_made a → is_made b → size a ≡ size b) (join : IsJoin size joined) where
    options-associative : (o p q : Option S) → IsMadeOption o → IsMadeOption p → IsMadeOption q
        → joined_options joined (joined_options joined o p) q ≡ joined_options joined o (joined_options joined p q)
    options-associative None p q one two three = refl
    options-associative (Some a) None q one two three = refl
    options-associative (Some a) (Some b) None one two three = refl
    options-associative (Some a) (Some b) (Some c) one two three = ap Some (join.associative a b c (one_size a b one two) (one_size b c two three))

    options-commutative : (o p : Option S) → IsMadeOption o → IsMadeOption p → joined_options joined o p ≡ joined_options joined p o
    options-commutative None None one two = refl
    options-commutative None (Some b) one two = refl
    options-commutative (Some a) None one two = refl
    options-commutative (Some a) (Some b) one two = ap Some (join.commutative a b (one_size a b one two))

    -- the summary of some and of more
    pub summary-append : (x : A) (xs : List A) (y : A) (ys : List A)
        → summary_of joined box ((x ∷ xs) ++ y ∷ ys) ≡ joined_options joined (summary_of joined box (x ∷ xs)) (summary_of joined box (y ∷ ys))
    summary-append x [] y ys = refl
    summary-append x (z ∷ xs) y ys =
        let front = summary_of joined box (z ∷ xs) in
        let back = summary_of joined box (y ∷ ys) in
        ap (joined_options joined (box x)) (summary-append z xs y ys)
        ∙ sym (options-associative (box x) front back (one_made x (box x) refl) (option-made (z ∷ xs)) (option-made (y ∷ ys)))

    -- the summary of some with one more somewhere among them
    pub summary-inserted : (e z : A) (xs ys zs : List A) → xs ++ ys ≡ z ∷ zs
        → summary_of joined box (xs ++ e ∷ ys) ≡ joined_options joined (box e) (summary_of joined box (xs ++ ys))
    summary-inserted e z [] [] zs some = absurd (cc)
    summary-inserted e z [] (y ∷ ys) zs some = refl
    summary-inserted e z (x ∷ xs) [] zs some =
        summary-append x xs e []
        ∙ options-commutative (summary_of joined box (x ∷ xs)) (box e) (option-made (x ∷ xs)) (one_made e (box e) refl)
        ∙ ap (λ es. joined_options joined (box e) (summary_of joined box es)) (sym (append-nil (x ∷ xs)))
    summary-inserted e z (x ∷ xs) (y ∷ ys) zs some =
        let front = summary_of joined box (x ∷ xs) in
        let back = summary_of joined box (y ∷ ys) in
        let front_made = option-made (x ∷ xs) in
        let back_made = option-made (y ∷ ys) in
        let own = one_made e (box e) refl in
        summary-append x xs e (y ∷ ys)
        ∙ sym (options-associative front (box e) back front_made own back_made)
        ∙ ap (λ o. joined_options joined o back) (options-commutative front (box e) front_made own)
        ∙ options-associative (box e) front back own front_made back_made
        ∙ ap (joined_options joined (box e)) (sym (summary-append x xs y ys))
