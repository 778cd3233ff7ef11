-- The text of a set is read as it, and what is read as a set is its text.
use Rattle.std.proofs.Common.{◌≡◌, ℕ, zero, suc, ◌+◌, ◌-◌, ◌^◌, ◌<◌, ◌≤◌, ◌&&◌, Bool, true, false, cond, List, [], ◌∷◌, length, get_or, refl, sym, ap, subst, ◌∙◌, arith, Option, Some, None, nat_lt, nat_le}
use Rattle.std.specs.Prelude.{option_and_then, All, codes}
use Rattle.std.specs.List.Sorted.{IsStrictlyIncreasing}
use Rattle.std.specs.Str.{bytes_eq}
use Rattle.std.proofs.lemmas.Bool.{and_parts}
use Rattle.std.proofs.lemmas.Bool.Decides.{nat_tests}
use Rattle.std.proofs.lemmas.Option.{cond_some}
use Rattle.std.proofs.lemmas.Slice.Eq.{bytes_eq-Decides}
use Rattle.metrics_builtin.specs.Vectors.{components, object_of_components}
use Rattle.metrics_builtin.specs.VectorLaws.{components-object_of_components}
use Rattle.metrics_builtin.specs.Sets.{IsSubset, IsRisingWithin}
use Rattle.metrics_builtin.specs.SetLaws.{rising-tail, components-IsSubset}
use Rattle.spb_defs.specs.ObjectText.{numbers_text, set_text, numbers_in, is_rising, set_with, set_of_text}
use Rattle.spb_defs.specs.TextLaws.{AreRead, numbers_in-text, text-numbers_in, IsFree, IsFree-numbers_text}

-- ---- ascending numbers

pub rising_from : (xs : List ℕ) → is_rising xs ≡ true → IsStrictlyIncreasing xs
rising_from [] e k h = absurd (omega arith)
rising_from (x ∷ []) e k h = absurd (omega arith)
rising_from (x ∷ y ∷ rest) e zero h = let first = (and_parts (nat_lt x y) (is_rising (y ∷ rest)) e).0 in grind (arith, nat_tests)
rising_from (x ∷ y ∷ rest) e (suc k) h =
    let step : get_or (y ∷ rest) k 0 < get_or (y ∷ rest) (k + 1) 0 =
    rising_from (y ∷ rest) (and_parts (nat_lt x y) (is_rising (y ∷ rest)) e).1 k (omega arith) in
    let next : suc (k + 1) ≡ suc k + 1 = omega arith in
    subst (λ j. get_or (y ∷ rest) k 0 < get_or (x ∷ y ∷ rest) j 0) next step

pub rising_test : (xs : List ℕ) → IsStrictlyIncreasing xs → is_rising xs ≡ true
rising_test [] h = refl
rising_test (x ∷ []) h = refl
rising_test (x ∷ y ∷ rest) h =
    let low : x < y = h 0 (omega arith) in
    let first : nat_lt x y ≡ true = grind (arith, nat_tests) in
    ap (λ b. b && is_rising (y ∷ rest)) first ∙ rising_test (y ∷ rest) (rising-tail x (y ∷ rest) h)

-- ---- what is read

none_rising : IsStrictlyIncreasing []
none_rising = λ k h. absurd (omega arith)

none_within : (universe : ℕ) → All (λ x. x < universe) []
none_within universe = λ k d h. absurd (omega arith)

empty_set : (universe most : ℕ) → IsSubset universe most []
unfolding object_of_components
empty_set universe most = record { elements = []; set = record { rising = none_rising; within = none_within universe; few = omega arith }; spelling = refl }

pub text_of_none : set_text (components []) ≡ codes "-"
unfolding components
text_of_none = refl

pub text_of_some : (ns : List ℕ) → 0 < length ns → numbers_text ns ≡ set_text ns
text_of_some [] some = absurd (omega arith)
text_of_some (n ∷ ns) some = refl

-- numbers that are read as a set
pub record IsOf (most : ℕ) (read : Option (List ℕ)) (object : List ℕ) : Type 0 where
  pub numbers : List ℕ
  pub is : read ≡ Some numbers
  pub rising : IsStrictlyIncreasing numbers
  pub few : length numbers ≤ most
  pub bytes : object_of_components numbers ≡ object

pub of : (most : ℕ) (read : Option (List ℕ)) (object : List ℕ) → option_and_then (set_with most) read ≡ Some object → IsOf most read object
of most None object e = absurd (cc)
of most (Some ns) object e =
    let test = cond_some (nat_le (length ns) most && is_rising ns) (object_of_components ns) object e in
    let parts = and_parts (nat_le (length ns) most) (is_rising ns) test.0 in
    let low : nat_le (length ns) most ≡ true = parts.0 in
    record { numbers = ns; is = refl; rising = rising_from ns parts.1; few = grind (arith, nat_tests); bytes = test.1 }

read_some : (universe most : ℕ) (text object : List ℕ) → 1 ≤ universe → universe < 2 ^ 32 → IsOf most (numbers_in (universe - 1) text) object
    → IsSubset universe most object × (text ≡ set_text (components object))
read_some universe most text object one small parts =
    let read : AreRead (universe - 1) text parts.numbers = numbers_in-text (universe - 1) text parts.numbers parts.is in
    let inside : All (λ n. n < universe) parts.numbers = λ k d h. let l : get_or parts.numbers k d ≤ universe - 1 = read.within k d h in omega arith in
    let below : All (λ n. n < 2 ^ 32) parts.numbers = λ k d h. let l : get_or parts.numbers k d ≤ universe - 1 = read.within k d h in omega arith in
    let numbers : components object ≡ parts.numbers = ap components (sym parts.bytes) ∙ components-object_of_components parts.numbers below in (
      record { elements = parts.numbers; set = record { rising = parts.rising; within = inside; few = parts.few }; spelling = sym parts.bytes },
      read.text_is ∙ text_of_some parts.numbers read.some ∙ ap set_text (sym numbers),
    )

same_object : (a b : List ℕ) → ◌≡◌ {A = Option (List ℕ)} (Some a) (Some b) → a ≡ b
same_object a b e = cc

by_test : (universe most : ℕ) (text object : List ℕ) (b : Bool) → 1 ≤ universe → universe < 2 ^ 32 → (b ≡ true → text ≡ codes "-") →
    cond b (Some []) (option_and_then (set_with most) (numbers_in (universe - 1) text)) ≡ Some object → IsSubset universe most object
    × (text ≡ set_text (components object))
by_test universe most text object true one small dash e =
    let none : [] ≡ object = same_object [] object e in
    (subst (IsSubset universe most) none (empty_set universe most), dash refl ∙ sym text_of_none ∙ ap (λ o. set_text (components o)) none)
by_test universe most text object false one small dash e = read_some universe most text object one small (of most (numbers_in (universe - 1) text) object e)

pub read_set : (universe most : ℕ) (text object : List ℕ) → 1 ≤ universe → universe < 2 ^ 32 → set_of_text universe most text ≡ Some object
    → IsSubset universe most object × (text ≡ set_text (components object))
unfolding set_of_text
read_set universe most text object one small e =
    by_test universe most text object (bytes_eq text (codes "-")) one small (bytes_eq-Decides text (codes "-")).0 e

-- ---- what is read again

not_true : (b : Bool) → (b ≡ true → ⊥) → b ≡ false
not_true true h = absurd (h refl)
not_true false h = refl

-- a text of numbers isn't `-`
no_dash : (bound : ℕ) (ns : List ℕ) → bound < 2 ^ 64 → All (λ n. n ≤ bound) ns → numbers_text ns ≡ codes "-" → ⊥
no_dash bound ns small low e =
    let free : IsFree 45 (codes "-") = subst (IsFree 45) e (IsFree-numbers_text 45 bound ns (omega arith) refl small low) in
    let same : true ≡ false = free 0 0 (omega arith) in
    absurd (cc)

at_most_last : (universe : ℕ) (ns : List ℕ) → All (λ n. n < universe) ns → All (λ n. n ≤ universe - 1) ns
at_most_last universe ns h = λ k d inside. let low : get_or ns k d < universe = h k d inside in omega arith

elements_read : (universe most : ℕ) (ns : List ℕ) → universe < 2 ^ 32 → IsRisingWithin universe most ns
    → set_of_text universe most (set_text ns) ≡ Some (object_of_components ns)
unfolding set_of_text object_of_components
elements_read universe most [] small v = refl
elements_read universe most (n ∷ ns) small v =
    let low : All (λ k. k ≤ universe - 1) (n ∷ ns) = at_most_last universe (n ∷ ns) v.within in
    let few = v.few in
    let dash : bytes_eq (numbers_text (n ∷ ns)) (codes "-") ≡ false =
    not_true _ (λ e. no_dash (universe - 1) (n ∷ ns) (omega arith) low ((bytes_eq-Decides (numbers_text (n ∷ ns)) (codes "-")).0 e)) in
    let read : numbers_in (universe - 1) (numbers_text (n ∷ ns)) ≡ Some (n ∷ ns) = text-numbers_in (universe - 1) (n ∷ ns) (omega arith) (omega arith) low in
    let many : nat_le (length (n ∷ ns)) most ≡ true = grind (arith, nat_tests) in
    let test : (nat_le (length (n ∷ ns)) most && is_rising (n ∷ ns)) ≡ true = ap (λ b. b && is_rising (n ∷ ns)) many ∙ rising_test (n ∷ ns) v.rising in
    ap (λ (b : Bool). cond b (Some []) (option_and_then (set_with most) (numbers_in (universe - 1) (numbers_text (n ∷ ns))))) dash
    ∙ ap (option_and_then (set_with most)) read
    ∙ ap (λ (b : Bool). cond b (Some (object_of_components (n ∷ ns))) None) test

pub set_read : (universe most : ℕ) (text object : List ℕ) → universe < 2 ^ 32 → IsSubset universe most object → text ≡ set_text (components object)
    → set_of_text universe most text ≡ Some object
set_read universe most text object small v e =
    let text_is : text ≡ set_text v.elements = e ∙ ap set_text (components-IsSubset universe most object small v) in
    ap (set_of_text universe most) text_is ∙ elements_read universe most v.elements small v.set ∙ ap (λ (o : List ℕ). Some o) (sym v.spelling)

-- ---- no space in a text

dash_free : IsFree 32 (codes "-")
dash_free zero d inside = refl
dash_free (suc k) d inside = absurd (omega arith)

free_elements : (universe most : ℕ) (ns : List ℕ) → universe < 2 ^ 32 → IsRisingWithin universe most ns → IsFree 32 (set_text ns)
free_elements universe most [] small v = dash_free
free_elements universe most (n ∷ ns) small v =
    IsFree-numbers_text 32 (universe - 1) (n ∷ ns) (omega arith) refl (omega arith) (at_most_last universe (n ∷ ns) v.within)

pub IsFree-set : (universe most : ℕ) (object : List ℕ) → universe < 2 ^ 32 → IsSubset universe most object → IsFree 32 (set_text (components object))
IsFree-set universe most object small v =
    subst (λ (ns : List ℕ). IsFree 32 (set_text ns)) (sym (components-IsSubset universe most object small v))
    (free_elements universe most v.elements small v.set)
