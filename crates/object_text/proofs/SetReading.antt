-- A set read from the left: its elements so far are those of the words so far.
use Rattle.std.proofs.Common.{◌≡◌, ℕ, zero, suc, ◌+◌, ◌-◌, ◌*◌, ◌<◌, ◌≤◌, ◌==◌, ◌&&◌, inl, inr, Bool, true, false, cond, List, [], ◌∷◌, ◌++◌, length, get_or, take, refl, sym, ap, ◌∙◌, arith, Option, Some, None, nat_le}
use Rattle.std.specs.Prelude.{option_and_then, codes}
use Rattle.std.specs.Int.{w32, to_be_bytes}
use Rattle.std.specs.List.{slice_split}
use Rattle.std.specs.List.Sorted.{IsStrictlyIncreasing}
use Rattle.std.specs.Str.{bytes_eq}
use Rattle.std.proofs.lemmas.Bool.{cases_lt}
use Rattle.std.proofs.lemmas.Bool.Decides.{nat_tests}
use Rattle.std.proofs.lemmas.List.{take_more, take_all, length_push, get_or-take, get_or_append_left, get_or_push, get_or_default}
use Rattle.metrics_builtin.specs.Vectors.{object_of_components}
use Rattle.metrics_builtin.specs.VectorLaws.{length-object_of_components}
use Rattle.spb_defs.specs.Numbers.{number_within}
use Rattle.spb_defs.specs.ObjectText.{numbers_within, numbers_in, is_rising, set_with, set_of_text}
use Rattle.spb_defs.specs.TextLaws.{consed, length-numbers_within}
use Rattle.object_text.proofs.Components.{object_of_components-push}
use Rattle.spb_defs.specs.SetTexts.{of, rising_test}

-- ---- numbers, word by word

-- each word spells the number in its place
number_at : (bound : ℕ) (words : List (List ℕ)) (ns : List ℕ) (k : ℕ) → numbers_within bound words ≡ Some ns → k < length words
    → number_within bound (get_or words k []) ≡ Some (get_or ns k 0)
number_at bound [] ns k e h = absurd (omega arith)
number_at bound (word ∷ words) ns zero e h =
    let parts = consed (number_within bound word) (numbers_within bound words) ns e in
    parts.here ∙ ap (λ (xs : List ℕ). Some (get_or xs 0 0)) (sym parts.both)
number_at bound (word ∷ words) ns (suc k) e h =
    let parts = consed (number_within bound word) (numbers_within bound words) ns e in
    number_at bound words parts.numbers k parts.behind (omega arith) ∙ ap (λ (xs : List ℕ). Some (get_or xs (suc k) 0)) (sym parts.both)

numbers_push : (bound : ℕ) (words : List (List ℕ)) (word : List ℕ) (ns : List ℕ) (n : ℕ) → numbers_within bound words ≡ Some ns
    → number_within bound word ≡ Some n → numbers_within bound (words ++ word ∷ []) ≡ Some (ns ++ n ∷ [])
numbers_push bound [] word ns n e f =
    let none : ns ≡ [] = cc in
    ap (λ (o : Option ℕ). option_and_then (λ k. option_and_then (λ ms. Some (k ∷ ms)) (Some [])) o) f ∙ ap (λ (xs : List ℕ). Some (xs ++ n ∷ [])) (sym none)
numbers_push bound (w ∷ words) word ns n e f =
    let parts = consed (number_within bound w) (numbers_within bound words) ns e in
    let rest : numbers_within bound (words ++ word ∷ []) ≡ Some (parts.numbers ++ n ∷ []) = numbers_push bound words word parts.numbers n parts.behind f in
    ap (λ (o : Option ℕ). option_and_then (λ k. option_and_then (λ ms. Some (k ∷ ms)) (numbers_within bound (words ++ word ∷ []))) o) parts.here
    ∙ ap (λ (o : Option (List ℕ)). option_and_then (λ ms. Some (parts.number ∷ ms)) o) rest
    ∙ ap (λ (xs : List ℕ). Some (xs ++ n ∷ [])) (sym parts.both)

rising_push : (ns : List ℕ) (n : ℕ) → IsStrictlyIncreasing ns → ((k : ℕ) → k + 1 ≡ length ns → get_or ns k 0 < n) → IsStrictlyIncreasing (ns ++ n ∷ [])
rising_push ns n rising last = λ k h.
    let long : length (ns ++ n ∷ []) ≡ length ns + 1 = length_push ns n in
    let here : get_or (ns ++ n ∷ []) k 0 ≡ get_or ns k 0 = get_or_append_left ns (n ∷ []) 0 k (omega arith) in
    elim (cases_lt (k + 1) (length ns)) [
      | inl inside ↦ omega (arith, rising k inside, get_or_append_left ns (n ∷ []) 0 (k + 1) inside)
      | inr past ↦
          let end : k + 1 ≡ length ns = omega arith in
          omega (arith, last k end, get_or_push ns n 0 (k + 1) (sym end))
    ]

-- ---- the loop

-- the words between commas
abbrev pub words_of : List ℕ → List (List ℕ)
words_of text = slice_split (λ b. b == 44) text

-- the elements of the first `done` words, and the least that the next may be
pub record IsBegun (universe most done least : ℕ) (object text : List ℕ) : Type 0 where
  pub numbers : List ℕ
  pub read : numbers_within (universe - 1) (take done (words_of text)) ≡ Some numbers
  pub count : length numbers ≡ done
  pub bytes : object ≡ object_of_components numbers
  pub rising : IsStrictlyIncreasing numbers
  pub few : length numbers ≤ most
  pub first : done ≡ 0 → least ≡ 0
  pub last : (k : ℕ) → k + 1 ≡ done → least ≡ get_or numbers k 0 + 1

pub begins : (universe most : ℕ) (object text : List ℕ) → object ≡ [] → IsBegun universe most 0 0 object text
unfolding object_of_components
begins universe most object text e = record {
  numbers = [];
  read = refl;
  count = refl;
  bytes = e;
  rising = λ k h. absurd (omega arith);
  few = omega arith;
  first = λ z. refl;
  last = λ k h. absurd (omega arith);
}

nothing : (read : Option (List ℕ)) → ((object : List ℕ) → read ≡ Some object → ⊥) → read ≡ None
nothing None h = refl
nothing (Some object) h = absurd (h object refl)

-- no set is read of the text if it isn't `-` and its numbers aren't a set
none_read : (universe most : ℕ) (text : List ℕ) → bytes_eq text (codes "-") ≡ false →
    ((ns : List ℕ) → numbers_in (universe - 1) text ≡ Some ns → IsStrictlyIncreasing ns → length ns ≤ most → ⊥) → set_of_text universe most text ≡ None
unfolding set_of_text
none_read universe most text dash h =
    ap (λ (b : Bool). cond b (Some []) (option_and_then (set_with most) (numbers_in (universe - 1) text))) dash
    ∙ nothing (option_and_then (set_with most) (numbers_in (universe - 1) text)) (λ object e.
    let parts = of most (numbers_in (universe - 1) text) object e in
    h parts.numbers parts.is parts.rising parts.few)

-- a word more than a set may have elements
pub too_many : (universe most done least : ℕ) (object text : List ℕ) → bytes_eq text (codes "-") ≡ false → IsBegun universe most done least object text
    → done < length (words_of text) → length object ≡ 4 * most → set_of_text universe most text ≡ None
too_many universe most done least object text dash b more full =
    none_read universe most text dash (λ ns e rising few.
    let long : length object ≡ 4 * length b.numbers = ap length b.bytes ∙ length-object_of_components b.numbers in
    let count = b.count in
    omega (arith, length-numbers_within (universe - 1) (words_of text) ns e))

word_is : (text word : List ℕ) (done : ℕ) → done < length (words_of text) → word ≡ get_or (words_of text) done word → word ≡ get_or (words_of text) done []
word_is text word done more is = is ∙ get_or_default (words_of text) done word [] more

-- a word that is no number
pub no_number : (universe most done : ℕ) (text word : List ℕ) → bytes_eq text (codes "-") ≡ false → done < length (words_of text)
    → word ≡ get_or (words_of text) done word → number_within (universe - 1) word ≡ None → set_of_text universe most text ≡ None
no_number universe most done text word dash more is none =
    none_read universe most text dash (λ ns e rising few.
    let at : number_within (universe - 1) word ≡ Some (get_or ns done 0) = ap (number_within (universe - 1)) (word_is text word done more is)
    ∙ number_at (universe - 1) (words_of text) ns done e more in
    absurd (cc (at, none)))

same_number : (m n : ℕ) → ◌≡◌ {A = Option ℕ} (Some m) (Some n) → m ≡ n
same_number m n e = cc

-- a number of the prefix is that of the whole
front_number : (bound done k : ℕ) (words : List (List ℕ)) (ns whole : List ℕ) → numbers_within bound (take done words) ≡ Some ns
    → numbers_within bound words ≡ Some whole → length ns ≡ done → k < done → k < length words → get_or whole k 0 ≡ get_or ns k 0
front_number bound done k words ns whole e f count inside more =
    let many : length ns ≡ length (take done words) = length-numbers_within bound (take done words) ns e in
    same_number (get_or whole k 0) (get_or ns k 0)
    (sym (number_at bound words whole k f more) ∙ ap (number_within bound) (sym (get_or-take done words k [] inside))
    ∙ number_at bound (take done words) ns k e (omega arith))

falls : (universe most done least element : ℕ) (object text : List ℕ) (ns : List ℕ) → IsBegun universe most done least object text
    → done < length (words_of text) → numbers_in (universe - 1) text ≡ Some ns → IsStrictlyIncreasing ns →
    get_or ns done 0 ≡ element → element < least → ⊥
falls universe most zero least element object text ns b more e rising at low = let none : least ≡ 0 = b.first refl in omega arith
falls universe most (suc k) least element object text ns b more e rising at low =
    let next : k + 1 ≡ suc k = omega arith in
    let past : least ≡ get_or b.numbers k 0 + 1 = b.last k next in
    let same : get_or ns k 0 ≡ get_or b.numbers k 0 =
    front_number (universe - 1) (suc k) k (words_of text) b.numbers ns b.read e b.count (omega arith) (omega arith) in
    let up : get_or ns k 0 < get_or ns (k + 1) 0 = rising k (omega (arith, length-numbers_within (universe - 1) (words_of text) ns e)) in
    let here : get_or ns (k + 1) 0 ≡ get_or ns (suc k) 0 = ap (λ j. get_or ns j 0) next in
    omega arith

-- an element that isn't past the one before
pub not_rising : (universe most done least element : ℕ) (object text word : List ℕ) → bytes_eq text (codes "-") ≡ false
    → IsBegun universe most done least object text → done < length (words_of text) → word ≡ get_or (words_of text) done word →
    number_within (universe - 1) word ≡ Some element → element < least → set_of_text universe most text ≡ None
not_rising universe most done least element object text word dash b more is some low =
    none_read universe most text dash (λ ns e rising few.
    let at : get_or ns done 0 ≡ element = same_number (get_or ns done 0) element
    (sym (number_at (universe - 1) (words_of text) ns done e more) ∙ ap (number_within (universe - 1)) (sym (word_is text word done more is)) ∙ some) in
    falls universe most done least element object text ns b more e rising at low)

pub room : (universe most done least : ℕ) (object text : List ℕ) → IsBegun universe most done least object text → (length object ≡ 4 * most → ⊥) → most ≤ 30
    → length object + 4 ≤ 120
room universe most done least object text b not_full few =
    let long : length object ≡ 4 * length b.numbers = ap length b.bytes ∙ length-object_of_components b.numbers in
    let at_most = b.few in
    let other : length b.numbers ≡ most → ⊥ = λ e. not_full (long ∙ ap (λ n. 4 * n) e) in
    grind arith

pub goes_on : (universe most done more least element : ℕ) (object new text word : List ℕ) → IsBegun universe most done least object text
    → done < length (words_of text) → word ≡ get_or (words_of text) done word →
    number_within (universe - 1) word ≡ Some element → (element < least → ⊥) → (length object ≡ 4 * most → ⊥) → new ≡ object ++ to_be_bytes w32 element
    → more ≡ done + 1 → IsBegun universe most more (element + 1) new text
goes_on universe most done more least element object new text word b inside is some high not_full e next =
    let long : length object ≡ 4 * length b.numbers = ap length b.bytes ∙ length-object_of_components b.numbers in
    let at_most = b.few in
    let count = b.count in
    let other : length b.numbers ≡ most → ⊥ = λ same. not_full (long ∙ ap (λ n. 4 * n) same) in
    let pushed : length (b.numbers ++ element ∷ []) ≡ length b.numbers + 1 = length_push b.numbers element in
    let words : take more (words_of text) ≡ take done (words_of text) ++ word ∷ [] =
    ap (λ k. take k (words_of text)) next ∙ take_more (words_of text) done [] inside
    ∙ ap (λ (w : List ℕ). take done (words_of text) ++ w ∷ []) (sym (word_is text word done inside is)) in
    record {
      numbers = b.numbers ++ element ∷ [];
      read = ap (numbers_within (universe - 1)) words ∙ numbers_push (universe - 1) (take done (words_of text)) word b.numbers element b.read some;
      count = omega arith;
      bytes = e ∙ ap (λ (bytes : List ℕ). bytes ++ to_be_bytes w32 element) b.bytes ∙ sym (object_of_components-push b.numbers element);
      rising = rising_push b.numbers element b.rising (λ k end. let past : least ≡ get_or b.numbers k 0 + 1 = b.last k (omega arith) in grind arith);
      few = grind arith;
      first = λ z. absurd (omega arith);
      last = λ k end. let here : get_or (b.numbers ++ element ∷ []) k 0 ≡ element = get_or_push b.numbers element 0 k (omega arith) in omega arith;
    }

pub ends : (universe most done least : ℕ) (object text : List ℕ) → bytes_eq text (codes "-") ≡ false → IsBegun universe most done least object text
    → done ≡ length (words_of text) → set_of_text universe most text ≡ Some object
unfolding set_of_text
ends universe most done least object text dash b end =
    let few = b.few in
    let read : numbers_in (universe - 1) text ≡ Some b.numbers = ap (numbers_within (universe - 1)) (sym (take_all done (words_of text) (omega arith)))
    ∙ b.read in
    let many : nat_le (length b.numbers) most ≡ true = grind (arith, nat_tests) in
    let test : (nat_le (length b.numbers) most && is_rising b.numbers) ≡ true = ap (λ t. t && is_rising b.numbers) many ∙ rising_test b.numbers b.rising in
    ap (λ (t : Bool). cond t (Some []) (option_and_then (set_with most) (numbers_in (universe - 1) text))) dash
    ∙ ap (option_and_then (set_with most)) read
    ∙ ap (λ (t : Bool). cond t (Some (object_of_components b.numbers)) None) test
    ∙ ap (λ (o : List ℕ). Some o) (sym b.bytes)

-- `-` alone is the set of no elements
pub of_dash : (universe most : ℕ) (text object : List ℕ) → bytes_eq text (codes "-") ≡ true → object ≡ [] → set_of_text universe most text ≡ Some object
unfolding set_of_text
of_dash universe most text object dash none =
    ap (λ (t : Bool). cond t (Some []) (option_and_then (set_with most) (numbers_in (universe - 1) text))) dash ∙ ap (λ (o : List ℕ). Some o) (sym none)
