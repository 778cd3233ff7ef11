-- A number read from the left: what its digits so far are worth.
use Rattle.std.proofs.Common.{◌≡◌, ℕ, ◌+◌, ◌*◌, ◌^◌, ◌<◌, ◌≤◌, List, [], ◌∷◌, length, get_or, take, refl, sym, ap, ◌∙◌, arith, Option, Some, None}
use Rattle.std.specs.Option.{IfSome, MatchOption}
use Rattle.std.specs.Fmt.{digits}
use Rattle.std.specs.Str.Parse.{AllDigits, digits_value}
use Rattle.std.proofs.lemmas.Str.Parse.{digits_value-take-le}
use Rattle.std.specs.Int.{IsInRange}
use Rattle.std.specs.Char.{digit_value}
use Rattle.std.proofs.lemmas.Str.{digit_value_digit}
use Rattle.std.proofs.lemmas.Int.Digits.{digits_value_more, digits_more}
use Rattle.spb_defs.specs.Numbers.{number_of}
use Rattle.spb_defs.specs.NumberLaws.{IsPlain, number_of-plain, number_of-none}

-- ---- the loop over the digits

pub digits-more : (word : List ℕ) (i : ℕ) → i < length word → AllDigits 10 (take i word) → IsInRange 48 57 (get_or word i 0) → AllDigits 10 (take (i + 1) word)
digits-more word i inside digits d =
    let value : digit_value (get_or word i 0) + 48 ≡ get_or word i 0 = digit_value_digit (get_or word i 0) d in
    digits_more 10 word i inside digits (let top = d.1 in omega arith)

pub value-more : (word : List ℕ) (i : ℕ) → i < length word → IsInRange 48 57 (get_or word i 0)
    → digits_value 10 (take (i + 1) word) + 48 ≡ digits_value 10 (take i word) * 10 + get_or word i 0
value-more word i inside d =
    let value : digit_value (get_or word i 0) + 48 ≡ get_or word i 0 = digit_value_digit (get_or word i 0) d in
    let more : digits_value 10 (take (i + 1) word) ≡ digits_value 10 (take i word) * 10 + digit_value (get_or word i 0) = digits_value_more 10 word i inside in
    omega arith

-- a number with a prefix that exceeds 64 bits exceeds them too
pub value-past : (word : List ℕ) (i bound : ℕ) → bound ≤ digits_value 10 (take i word) → bound ≤ digits_value 10 word
value-past word i bound past =
    let le : digits_value 10 (take i word) ≤ digits_value 10 word = digits_value-take-le 10 word i (omega arith) in
    omega arith

-- ---- the first byte

pub number_of-empty : (word : List ℕ) → length word ≤ 0 → number_of word ≡ None
number_of-empty word e = number_of-none word (λ p. let some = p.some in omega arith)

zero_alone : number_of (48 ∷ []) ≡ Some 0
unfolding number_of digits
zero_alone = refl

pub number_of-zero : (word : List ℕ) → get_or word 0 0 ≡ 48 → length word ≡ 1 → number_of word ≡ Some 0
number_of-zero (c ∷ []) e one = ap (λ (k : ℕ). number_of (k ∷ [])) e ∙ zero_alone
number_of-zero (c ∷ d ∷ ds) e one = absurd (omega arith)
number_of-zero [] e one = absurd (omega arith)

pub number_of-spare_zero : (word : List ℕ) → get_or word 0 0 ≡ 48 → (length word ≡ 1 → ⊥) → number_of word ≡ None
number_of-spare_zero word e long = number_of-none word (λ p. long (p.first e))

pub number_of-digits : (word : List ℕ) (r : Option ℕ) → 0 < length word → (get_or word 0 0 ≡ 48 → ⊥) → IfSome r (λ value. value < 2 ^ 64)
    → MatchOption r (AllDigits 10 word → 2 ^ 64 ≤ digits_value 10 word) (λ value. AllDigits 10 word × (value ≡ digits_value 10 word)) → r ≡ number_of word
number_of-digits word None some first small h =
    sym (number_of-none word (λ p. let great : 2 ^ 64 ≤ digits_value 10 word = h p.digits in let small = p.small in omega arith))
number_of-digits word (Some n) some first small h =
    let plain : IsPlain word = record { some = some; digits = h.0; first = λ e. absurd (first e); small = let e = h.1 in omega arith } in
    sym (number_of-plain word plain ∙ ap (λ (k : ℕ). Some k) (sym h.1))
