-- Words that spell numbers, and words that are refused before clap reads any.
use Rattle.std.proofs.Common.{◌≡◌, ◌∙◌, ap, ap₂, sym, subst, refl, ℕ, ◌^◌, ◌<◌, ◌≤◌, true, ◌&&◌, List, [], ◌∷◌, ◌++◌, length, get_or, Option, Some, None, inl, inr, arith, map, zero, suc}
use Rattle.std.specs.Prelude.{IsTrue, nat_le, if◌then◌else◌}
use Rattle.std.specs.List.{All, list_all}
use Rattle.std.specs.Fmt.{decimal}
use Rattle.std.specs.Str.Parse.{digits_value}
use Rattle.std.proofs.lemmas.Bool.Decides.{nat_tests}
use Rattle.std.proofs.lemmas.Fmt.{decimal_is_IsNumeral}
use Rattle.std.proofs.lemmas.Str.Parse.{digit_at}
use Rattle.metrics_builtin.specs.declared.Space.{Space}
use Rattle.metrics_builtin.specs.declared.Space.TheVariants.{L1, LInf, Hamming, Sets}
use Rattle.metrics_builtin.specs.Space.{fits}
use Rattle.spb_defs.specs.declared.Asked.{Asked}
use Rattle.spb_defs.specs.declared.Asked.TheVariants.{Mem, Make, Run, Check, Trial}
use Rattle.spb_defs.specs.declared.CurveKind.{CurveKind}
use Rattle.spb_defs.specs.declared.CurveKind.TheVariants.{Z, Hilbert}
use Rattle.spb_defs.specs.Numbers.{at_most, number_of, number_within}
use Rattle.spb_defs.specs.NumberLaws.{number_of-plain, number_of-some}
use Rattle.spb_defs.specs.Words.{asked_of, kind_of, names_file, parameters_of, curve_word, AreWordsFor}
use Rattle.spb_defs.proofs.Spelling.{both_ways, factor}
use Rattle.std.proofs.lemmas.List.Folds.{list_all-append}
use Rattle.program_words.specs.Ranges.{IsInRange}
use Rattle.program_words.proofs.PlainWords.{both}

some_is : {A : Type 0} {x y : A} → Some x ≡ Some y → x ≡ y
some_is e = cc

pub number_in_64_bits : (word : List ℕ) → number_within 18446744073709551615 word ≡ number_of word
number_in_64_bits word = go (number_of word) refl
  where
    go : (o : Option ℕ) → number_of word ≡ o → at_most 18446744073709551615 o ≡ o
    go None e = refl
    go (Some n) e =
        let plain = number_of-some word n e in
        let same : digits_value 10 word ≡ n = some_is (sym (number_of-plain word plain) ∙ e) in
        let small : n < 2 ^ 64 = subst (λ k. k < 2 ^ 64) same plain.small in
        let low : nat_le n 18446744073709551615 ≡ true = grind (arith, nat_tests) in
        ap (λ b. if b then Some n else None) low

-- ---- words that are refused

-- a digit is no dash
digit_first : (word : List ℕ) → 0 < length word → 48 ≤ get_or word 0 0 → names_file word ≡ true
digit_first [] some first = absurd (omega arith)
digit_first (b ∷ bs) some first = grind (arith, nat_tests)

number_plain : (n : ℕ) → n < 2 ^ 64 → names_file (decimal n) ≡ true
number_plain n small =
    let numeral = (decimal_is_IsNumeral n small).0 in
    digit_first (decimal n) numeral.0 (digit_at (decimal n) 0 numeral.1 numeral.0).0

kind_plain : (s : Space) → names_file (kind_of s) ≡ true
kind_plain (L1 dim most) = refl
kind_plain (LInf dim most) = refl
kind_plain (Hamming len) = refl
kind_plain (Sets universe most) = refl

curve_plain : (c : CurveKind) → names_file (curve_word c) ≡ true
curve_plain Z = refl
curve_plain Hilbert = refl

one_plain : (n : ℕ) → n ≤ 4294967295 → list_all names_file (decimal n ∷ []) ≡ true
one_plain n small = ap (λ b. b && true) (number_plain n (omega (arith, small)))

two_plain : (m n : ℕ) → m ≤ 4294967295 → n ≤ 4294967295 → list_all names_file (decimal m ∷ decimal n ∷ []) ≡ true
two_plain m n few small = ap₂ (λ a b. a && b) (number_plain m (omega (arith, few))) (one_plain n small)

parameters_plain : (s : Space) → IsTrue (fits s) → list_all names_file (parameters_of s) ≡ true
parameters_plain (L1 dim most) h = two_plain dim most (grind (arith, nat_tests, h))
    (factor dim most (grind (arith, nat_tests, h)) (grind (arith, nat_tests, h)))
parameters_plain (LInf dim most) h = two_plain dim most (grind (arith, nat_tests, h)) (grind (arith, nat_tests, h))
parameters_plain (Hamming len) h = one_plain len (grind (arith, nat_tests, h))
parameters_plain (Sets universe most) h = two_plain universe most (grind (arith, nat_tests, h)) (grind (arith, nat_tests, h))

-- a kind, its parameters and perhaps more
kinds_plain : (s : Space) (more : List (List ℕ)) → IsTrue (fits s) → list_all names_file more ≡ true
    → list_all names_file (kind_of s ∷ (parameters_of s ++ more)) ≡ true
kinds_plain s more h rest =
    ap₂ (λ a b. a && b) (kind_plain s)
    (list_all-append names_file (parameters_of s) more ∙ ap₂ (λ a b. a && b) (parameters_plain s h) rest)

-- words that ask for something are neither empty nor begin with a dash
spelled_plain : (words : List (List ℕ)) (a : Asked) → AreWordsFor words a → list_all names_file words ≡ true
spelled_plain words (Mem setup) (fit, few, inl (none, is)) =
    ap (list_all names_file) is ∙ ap₂ (λ a b. a && b) (kind_plain setup.space) (parameters_plain setup.space fit)
spelled_plain words (Mem setup) (fit, few, inr is) =
    ap (list_all names_file) is ∙ kinds_plain setup.space (decimal setup.pivots ∷ []) fit (one_plain setup.pivots (omega (arith, few)))
spelled_plain words (Make curve pivots cap space) (fit, some, few, one, room, (file, named, is)) =
    ap (list_all names_file) is
    ∙ ap₂ (λ a b. a && (b && (names_file (decimal pivots)
    && (names_file (decimal cap) && (names_file (kind_of space) && list_all names_file (parameters_of space)))))) named (curve_plain curve)
    ∙ ap₂ (λ a b. a && (b && (names_file (kind_of space) && list_all names_file (parameters_of space)))) (number_plain pivots (omega (arith, few)))
    (number_plain cap (omega (arith, room)))
    ∙ ap₂ (λ a b. a && b) (kind_plain space) (parameters_plain space fit)
spelled_plain words Run (file, named, is) = ap (list_all names_file) is ∙ ap (λ b. b && true) named
spelled_plain words Check (file, named, is) = ap (list_all names_file) is ∙ ap (λ b. b && true) named
spelled_plain words (Trial seed count) (small, one, few, (file, named, is)) =
    ap (list_all names_file) is
    ∙ ap₂ (λ a b. a && (b && (names_file (decimal count) && true))) named (number_plain seed small)
    ∙ ap (λ b. b && true) (number_plain count (omega (arith, few)))

pub asked_plain : (words : List (List ℕ)) (a : Asked) → asked_of words ≡ Some a → list_all names_file words ≡ true
asked_plain words a e = spelled_plain words a ((both_ways words a).0 e)

-- if a word is refused, the words ask for nothing
pub refused_asks_nothing : (words : List (List ℕ)) → (list_all names_file words ≡ true → ⊥) → asked_of words ≡ None
refused_asks_nothing words refused = go (asked_of words) refl
  where
    go : (o : Option Asked) → asked_of words ≡ o → o ≡ None
    go None e = refl
    go (Some a) e = absurd (refused (asked_plain words a e))

-- the same, of words one by one
pub each_plain : {W : Type 0} (text : W → List ℕ) (words : List W) → All (λ w. IsTrue (names_file (text w))) words → list_all names_file (map text words) ≡ true
each_plain text [] all = refl
each_plain text (w ∷ words) all =
    ap₂ (λ a b. a && b) (all 0 w (omega arith)) (each_plain text words (λ k d low. all (suc k) d (omega arith)))

pub all_plain : {W : Type 0} (text : W → List ℕ) (words : List W) → list_all names_file (map text words) ≡ true → All (λ w. IsTrue (names_file (text w))) words
all_plain text [] plain k d low = absurd (omega arith)
all_plain text (w ∷ words) plain zero d low = (both (names_file (text w)) (list_all names_file (map text words)) plain).0
all_plain text (w ∷ words) plain (suc k) d low =
    all_plain text words (both (names_file (text w)) (list_all names_file (map text words)) plain).1 k d (omega arith)

-- what words ask for is in range
spelled_in_range : (words : List (List ℕ)) (a : Asked) → AreWordsFor words a → IsInRange (Some a)
spelled_in_range words (Mem setup) (fit, few, is) = (fit, few)
spelled_in_range words (Make curve pivots cap space) (fit, some, few, one, room, is) = (fit, some, few, one, room)
spelled_in_range words Run is = tt
spelled_in_range words Check is = tt
spelled_in_range words (Trial seed count) (small, one, few, is) = (small, one, few)

pub asked_in_range : (words : List (List ℕ)) (o : Option Asked) → o ≡ asked_of words → IsInRange o
asked_in_range words None e = tt
asked_in_range words (Some a) e = spelled_in_range words a ((both_ways words a).0 (sym e))
