-- The text of a string is read as it, and what is read as a string is its text.
use Rattle.std.proofs.Common.{◌≡◌, ℕ, ◌*◌, ◌/◌, ◌%◌, ◌<◌, ◌==◌, inl, inr, Bool, true, false, not, cond, List, [], ◌∷◌, length, get_or, refl, sym, ap, subst, ◌∙◌, arith, Some, None, Result, Ok, Err}
use Rattle.std.specs.Prelude.{All, slice_index}
use Rattle.std.specs.Str.{bytes_eq}
use Rattle.std.proofs.lemmas.Bool.{cases_lt}
use Rattle.std.proofs.lemmas.Bool.Decides.{nat_tests}
use Rattle.std.proofs.lemmas.List.{get_or_past}
use Rattle.std.proofs.lemmas.List.Elements.{All-cons, All-tail, All-from_get_or}
use Rattle.std.proofs.lemmas.List.Sums.{AllPass-from_list_all}
use Rattle.std.proofs.lemmas.Option.{cond_some}
use Rattle.std.proofs.lemmas.Slice.Eq.{bytes_eq-Decides}
use Rattle.hex.specs.Hex.{lower_digits, encode_with, encode_lower, decode_pairs, decode_sized, IsBytes}
use Rattle.hex.specs.declared.error.FromHexError.{FromHexError}
use Rattle.hex.specs.declared.error.FromHexError.TheVariants.{OddLength, InvalidStringLength}
use Rattle.hex.proofs.Pairs.{decode_sized-pairs}
use Rattle.hex.proofs.HexLemmas.{length-encode_with, decode_pairs-encode_with, decode_pairs-ok, IsDigits-lower_digits}
use Rattle.metrics_builtin.specs.Strings.{IsString}
use Rattle.spb_defs.specs.ObjectText.{string_with, string_of_text}
use Rattle.spb_defs.specs.TextLaws.{IsFree}

-- ---- what is read

-- a text that was decoded into `len` bytes
record IsDecoded (len : ℕ) (text bytes : List ℕ) : Type 0 where
  pairs : decode_pairs 0 text ≡ Ok bytes
  size : length text / 2 ≡ len

sized : (odd fits : Bool) (len : ℕ) (text bytes : List ℕ) → (fits ≡ true → length text / 2 ≡ len) →
    cond odd (Err OddLength) (cond fits (decode_pairs 0 text) (Err InvalidStringLength)) ≡ Ok bytes → IsDecoded len text bytes
sized true fits len text bytes h e = absurd (cc)
sized false true len text bytes h e = record { pairs = e; size = h refl }
sized false false len text bytes h e = absurd (cc)

same_size : (m n : ℕ) → (m == n) ≡ true → m ≡ n
same_size m n e = grind (arith, nat_tests)

is_decoded : (len : ℕ) (text bytes : List ℕ) → decode_sized text len ≡ Ok bytes → IsDecoded len text bytes
is_decoded len text bytes e = sized (length text % 2 == 1) (length text / 2 == len) len text bytes (same_size (length text / 2) len) e

valid_bytes : (len : ℕ) (text bytes : List ℕ) → IsDecoded len text bytes → IsString len bytes
valid_bytes len text bytes d =
    let ok = decode_pairs-ok 0 text bytes d.pairs in
    let two : length text ≡ 2 * length bytes = ok.1 in
    let size = d.size in
    record { size = omega arith; bytes = All-from_get_or (λ b. b < 256) bytes 0 (λ k h. ok.2 k) }

by_answer : (len : ℕ) (text object : List ℕ) (read : Result (List ℕ) FromHexError) → decode_sized text len ≡ read → string_with text read ≡ Some object
    → IsString len object × (text ≡ encode_lower object)
by_answer len text object (Ok bytes) d e =
    let test = cond_some (bytes_eq (encode_lower bytes) text) bytes object e in
    let same : encode_lower bytes ≡ text = (bytes_eq-Decides (encode_lower bytes) text).0 test.0 in
    (subst (IsString len) test.1 (valid_bytes len text bytes (is_decoded len text bytes d)), sym same ∙ ap encode_lower test.1)
by_answer len text object (Err failed) d e = absurd (cc)

pub read_string : (len : ℕ) (text object : List ℕ) → string_of_text len text ≡ Some object → IsString len object × (text ≡ encode_lower object)
unfolding string_of_text
read_string len text object e = by_answer len text object (decode_sized text len) refl e

-- ---- what is read again

are_bytes : (len : ℕ) (object : List ℕ) → IsString len object → IsBytes object
are_bytes len object v k = elim (cases_lt k (length object)) [
  | inl inside ↦ v.bytes k 0 inside
  | inr past ↦ let none : get_or object k 0 ≡ 0 = get_or_past object k 0 past in omega arith
]

pub string_read : (len : ℕ) (text object : List ℕ) → IsString len object → text ≡ encode_lower object → string_of_text len text ≡ Some object
unfolding string_of_text
string_read len text object v e =
    let size = v.size in
    let two : length text ≡ 2 * length object = ap length e ∙ length-encode_with lower_digits object in
    let decoded : decode_sized text len ≡ Ok object =
    decode_sized-pairs text len (omega arith) (omega arith) ∙ ap (decode_pairs 0) e
    ∙ decode_pairs-encode_with lower_digits IsDigits-lower_digits 0 object (are_bytes len object v) in
    let same : bytes_eq (encode_lower object) text ≡ true = (bytes_eq-Decides (encode_lower object) text).1 (sym e) in
    ap (string_with text) decoded ∙ ap (λ (b : Bool). cond b (Some object) None) same

-- ---- no space in a text

is_not : (b : Bool) → not b ≡ true → b ≡ false
is_not true e = sym e
is_not false e = refl

digit_free : (d : ℕ) → d < 16 → (slice_index lower_digits d == 32) ≡ false
digit_free d h =
    let tests : not (get_or lower_digits d 0 == 32) ≡ true = AllPass-from_list_all (λ c. not (c == 32)) lower_digits refl d 0 h in
    is_not (get_or lower_digits d 0 == 32) tests

bytes_free : (bytes : List ℕ) → All (λ b. b < 256) bytes → IsFree 32 (encode_lower bytes)
unfolding encode_with
bytes_free [] h = λ k d inside. absurd (omega arith)
bytes_free (b ∷ rest) h =
    let small : b < 256 = h 0 0 (omega arith) in
    All-cons (λ x. (x == 32) ≡ false) (slice_index lower_digits (b / 16)) (slice_index lower_digits (b % 16) ∷ encode_lower rest)
    (digit_free (b / 16) (omega arith))
    (All-cons (λ x. (x == 32) ≡ false) (slice_index lower_digits (b % 16)) (encode_lower rest) (digit_free (b % 16) (omega arith))
    (bytes_free rest (All-tail (λ x. x < 256) b rest h)))

pub IsFree-string : (len : ℕ) (object : List ℕ) → IsString len object → IsFree 32 (encode_lower object)
IsFree-string len object v = bytes_free object v.bytes
