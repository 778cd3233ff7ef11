use Rattle.std.proofs.Common.{◌≡◌, ◌+◌, ◌≤◌, ◌<◌, ◌^◌, ◌*◌, ℕ, List, get_or, take, length, arith}
use Rattle.std.specs.Char.{IsAsciiDigit, IsNotAsciiDigit}
use Rattle.std.specs.Int.{IsInRange}
use Rattle.std.specs.Str.Parse.{AllDigits, digits_value}
use Rattle.std.proofs.lemmas.Bool.Decides.{when_true, when_false}
use Rattle.std.proofs.lemmas.Str.Parse.{digit_at}
use Rattle.object_text.proofs.Numerals.{digits-more, value-more, value-past}
use Rattle.object_text.proofs.numbers.value_of_digits.Goals as goal

no_digit : (word : List ℕ) (i : ℕ) → IsNotAsciiDigit (get_or word i 0) → i < length word → AllDigits 10 word → 2 ^ 64 ≤ digits_value 10 word
no_digit word i other inside digits =
    let d : IsInRange 48 57 (get_or word i 0) = digit_at word i digits inside in
    absurd (let low = d.0 in let high = d.1 in grind arith)

-- ten times the prefix exceeds 64 bits
too_great : (word : List ℕ) (i value : ℕ) → i < length word → IsInRange 48 57 (get_or word i 0) → value ≡ digits_value 10 (take i word)
    → 2 ^ 64 + 48 ≤ value * 10 + get_or word i 0 → 2 ^ 64 ≤ digits_value 10 word
too_great word i value inside d e great =
    let more : digits_value 10 (take (i + 1) word) + 48 ≡ digits_value 10 (take i word) * 10 + get_or word i 0 = value-more word i inside d in
    value-past word (i + 1) (2 ^ 64) (omega arith)

pub returns-then-not-is_ascii_digit : goal.returns-then-not-is_ascii_digit
returns-then-not-is_ascii_digit c = λ digits.
    no_digit c.args.word.now c.loop-b.b-index (when_false (IsAsciiDigit (get_or c.args.word.now c.loop-b.b-index 0))
    (IsNotAsciiDigit (get_or c.args.word.now c.loop-b.b-index 0)) c.if-not-is_ascii_digit.true c.is_ascii_digit.ensures.cases) c.loop-b-test.true digits

pub returns-in_err-checked_mul : goal.returns-in_err-checked_mul
returns-in_err-checked_mul c =
    let d : IsInRange 48 57 (get_or c.args.word.now c.loop-b.b-index 0) =
    when_true (IsAsciiDigit (get_or c.args.word.now c.loop-b.b-index 0)) (IsNotAsciiDigit (get_or c.args.word.now c.loop-b.b-index 0))
    c.if-not-is_ascii_digit.false c.is_ascii_digit.ensures.cases in
    let low = d.0 in
    let past : c.loop-b.value * 10 < 2 ^ 64 → ⊥ = c.in_err-checked_mul.ensures in
    let great : 2 ^ 64 + 48 ≤ c.loop-b.value * 10 + get_or c.args.word.now c.loop-b.b-index 0 = grind arith in
    rw c.from_residual.ensures (λ digits. too_great c.args.word.now c.loop-b.b-index c.loop-b.value c.loop-b-test.true d c.loop-b.invariant.value great)

pub returns-in_err-value : goal.returns-in_err-value
returns-in_err-value c =
    let d : IsInRange 48 57 (get_or c.args.word.now c.loop-b.b-index 0) =
    when_true (IsAsciiDigit (get_or c.args.word.now c.loop-b.b-index 0)) (IsNotAsciiDigit (get_or c.args.word.now c.loop-b.b-index 0))
    c.if-not-is_ascii_digit.false c.is_ascii_digit.ensures.cases in
    let low = d.0 in
    let past : c.in_ok-checked_mul.field-0 + c.from.result < 2 ^ 64 → ⊥ = c.in_err-value.ensures in
    let ten : c.in_ok-checked_mul.field-0 ≡ c.loop-b.value * 10 = c.in_ok-checked_mul.ensures.1 in
    let digit = c.from.ensures in
    let great : 2 ^ 64 + 48 ≤ c.loop-b.value * 10 + get_or c.args.word.now c.loop-b.b-index 0 = grind arith in
    rw c.from_residual-in_err-value.ensures
    (λ digits. too_great c.args.word.now c.loop-b.b-index c.loop-b.value c.loop-b-test.true d c.loop-b.invariant.value great)

pub loop-b-preserved : goal.loop-b-preserved
loop-b-preserved c =
    let d : IsInRange 48 57 (get_or c.args.word.now c.loop-b.b-index 0) =
    when_true (IsAsciiDigit (get_or c.args.word.now c.loop-b.b-index 0)) (IsNotAsciiDigit (get_or c.args.word.now c.loop-b.b-index 0))
    c.if-not-is_ascii_digit.false c.is_ascii_digit.ensures.cases in
    let low = d.0 in
    let more = value-more c.args.word.now c.loop-b.b-index c.loop-b-test.true d in
    let ten : c.in_ok-checked_mul.field-0 ≡ c.loop-b.value * 10 = c.in_ok-checked_mul.ensures.1 in
    let sum : c.in_ok-value.value ≡ c.in_ok-checked_mul.field-0 + c.from.result = c.in_ok-value.ensures.1 in
    let digit = c.from.ensures in
    record {
      digits = digits-more c.args.word.now c.loop-b.b-index c.loop-b-test.true c.loop-b.invariant.digits d;
      value = omega arith;
    }
