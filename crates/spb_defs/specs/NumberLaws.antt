-- Which words spell a number, and that a number has one word: its decimal text.
use Rattle.std.proofs.Common.{◌≡◌, ℕ, ◌^◌, ◌<◌, ◌≤◌, Bool, true, false, cond, List, [], ◌∷◌, length, get_or, refl, sym, ap, subst, ◌∙◌, arith, Option, Some, None, nat_lt, ◌&&◌, zero, suc, ◌==◌, nat_le}
use Rattle.std.specs.Fmt.{decimal}
use Rattle.std.specs.Str.{bytes_eq}
use Rattle.std.specs.Str.Parse.{AllDigits, IsNumeral, digits_value}
use Rattle.std.proofs.lemmas.Bool.Decides.{nat_tests}
use Rattle.std.proofs.lemmas.Fmt.{decimal_is_IsNumeral, decimal_digit, first_decimal, decimal-digits_value}
use Rattle.std.proofs.lemmas.Option.{cond_some}
use Rattle.std.proofs.lemmas.Slice.Eq.{bytes_eq-Decides}
use Rattle.std.proofs.lemmas.Str.Parse.{numerals_by_value, tells_digits, digit_at}
use Rattle.spb_defs.specs.Numbers.{number_of, at_most, number_within}
use Rattle.std.specs.List.{slice_split}
use Rattle.std.proofs.lemmas.List.Elements.{All-from_get_or}
use Rattle.std.proofs.lemmas.List.Splits.{slice_split_none}

-- digits with no leading zero, or just `0`, of a number in 64 bits
pub record IsPlain (word : List ℕ) : Type 0 where
  pub some : 0 < length word
  pub digits : AllDigits 10 word
  pub first : get_or word 0 0 ≡ 48 → length word ≡ 1
  pub small : digits_value 10 word < 2 ^ 64

pub number_of-plain : (word : List ℕ) → IsPlain word → number_of word ≡ Some (digits_value 10 word)
unfolding number_of
number_of-plain word p =
    let same : decimal (digits_value 10 word) ≡ word =
    decimal-digits_value (numerals_by_value (AllDigits 10) tells_digits) word p.digits p.some p.first p.small in
    let equal : bytes_eq (decimal (digits_value 10 word)) word ≡ true = (bytes_eq-Decides (decimal (digits_value 10 word)) word).1 same in
    let small : nat_lt (digits_value 10 word) (2 ^ 64) ≡ true = let h = p.small in grind (arith, nat_tests) in
    ap (λ b. cond b (Some (digits_value 10 word)) None) (ap (λ b. b && bytes_eq (decimal (digits_value 10 word)) word) small ∙ equal)

one_zero : (n : ℕ) → n < 2 ^ 64 → get_or (decimal n) 0 0 ≡ 48 → length (decimal n) ≡ 1
one_zero zero small e = ap length (decimal_digit 0 (omega arith))
one_zero (suc n) small e = absurd (let past : 48 < get_or (decimal (suc n)) 0 0 = first_decimal (suc n) (omega arith) small in omega arith)

pub plain_decimal : (word : List ℕ) (n : ℕ) → n < 2 ^ 64 → decimal n ≡ word → n ≡ digits_value 10 word → IsPlain word
plain_decimal word n small same value =
    let numeral : IsNumeral 10 word = subst (IsNumeral 10) same (decimal_is_IsNumeral n small).0 in
    record {
      some = numeral.0;
      digits = numeral.1;
      first = subst (λ (w : List ℕ). get_or w 0 0 ≡ 48 → length w ≡ 1) same (one_zero n small);
      small = omega arith;
    }

both : (a b : Bool) → (a && b) ≡ true → (a ≡ true) × (b ≡ true)
both true b e = (refl, e)
both false b e = absurd (cc)

pub number_of-some : (word : List ℕ) (n : ℕ) → number_of word ≡ Some n → IsPlain word
unfolding number_of
number_of-some word n e =
    let test = cond_some (nat_lt (digits_value 10 word) (2 ^ 64) && bytes_eq (decimal (digits_value 10 word)) word) (digits_value 10 word) n e in
    let parts = both (nat_lt (digits_value 10 word) (2 ^ 64)) (bytes_eq (decimal (digits_value 10 word)) word) test.0 in
    let below : nat_lt (digits_value 10 word) (2 ^ 64) ≡ true = parts.0 in
    let small : digits_value 10 word < 2 ^ 64 = grind (arith, nat_tests) in
    plain_decimal word (digits_value 10 word) small ((bytes_eq-Decides (decimal (digits_value 10 word)) word).0 parts.1) refl

nothing : (o : Option ℕ) → ((n : ℕ) → o ≡ Some n → ⊥) → o ≡ None
nothing None h = refl
nothing (Some n) h = absurd (h n refl)

pub number_of-none : (word : List ℕ) → (IsPlain word → ⊥) → number_of word ≡ None
number_of-none word not_plain = nothing (number_of word) (λ n e. not_plain (number_of-some word n e))

-- ---- a number of at most a bound

pub at_most-some : (bound n : ℕ) (read : Option ℕ) → at_most bound read ≡ Some n → (read ≡ Some n) × (n ≤ bound)
at_most-some bound n None e = absurd (cc)
at_most-some bound n (Some m) e =
    let test = cond_some (nat_le m bound) m n e in
    let low : nat_le m bound ≡ true = test.0 in
    let same : m ≡ n = test.1 in
    (ap (λ (k : ℕ). Some k) same, grind (arith, nat_tests))

pub number_within-le : (bound n : ℕ) (word : List ℕ) → number_within bound word ≡ Some n → n ≤ bound
number_within-le bound n word e = (at_most-some bound n (number_of word) e).1

no_comma : (x : ℕ) → 48 ≤ x → (x == 44) ≡ false
no_comma x h = grind (arith, nat_tests)

-- a number has no comma
pub number_within-whole : (bound n : ℕ) (word : List ℕ) → number_within bound word ≡ Some n → slice_split (λ b. b == 44) word ≡ word ∷ []
number_within-whole bound n word e =
    let plain = number_of-some word n (at_most-some bound n (number_of word) e).0 in
    slice_split_none (λ b. b == 44) word
    (All-from_get_or (λ x. (x == 44) ≡ false) word 0 (λ k h. no_comma (get_or word k 0) (digit_at word k plain.digits h).0))

-- ---- numbers

same_some : (m n : ℕ) → ◌≡◌ {A = Option ℕ} (Some m) (Some n) → m ≡ n
same_some m n e = cc

-- the word is the number in decimal
pub number_within-decimal : (bound n : ℕ) (word : List ℕ) → number_within bound word ≡ Some n → (word ≡ decimal n) × (n ≤ bound)
number_within-decimal bound n word e =
    let read = at_most-some bound n (number_of word) e in
    let p = number_of-some word n read.0 in
    let value : digits_value 10 word ≡ n = same_some (digits_value 10 word) n (sym (number_of-plain word p) ∙ read.0) in
    let same : decimal (digits_value 10 word) ≡ word =
    decimal-digits_value (numerals_by_value (AllDigits 10) tells_digits) word p.digits p.some p.first p.small in
    (sym same ∙ ap decimal value, read.1)

-- the number in decimal is read
pub decimal-number_within : (bound n : ℕ) → n ≤ bound → n < 2 ^ 64 → number_within bound (decimal n) ≡ Some n
decimal-number_within bound n low small =
    let value : digits_value 10 (decimal n) ≡ n = (decimal_is_IsNumeral n small).1 in
    let read : number_of (decimal n) ≡ Some n = number_of-plain (decimal n) (plain_decimal (decimal n) n small refl (sym value))
    ∙ ap (λ (k : ℕ). Some k) value in
    let test : nat_le n bound ≡ true = grind (arith, nat_tests) in
    ap (at_most bound) read ∙ ap (λ (b : Bool). cond b (Some n) None) test
