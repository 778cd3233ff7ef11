-- A string read from the left: its bytes so far have the text so far.
use Rattle.std.proofs.Common.{◌≡◌, ℕ, zero, suc, ◌+◌, ◌*◌, ◌/◌, ◌%◌, ◌<◌, List, [], ◌∷◌, ◌++◌, length, get_or, take, refl, sym, ap, subst, ◌∙◌, arith, Option, Some, None, append_assoc}
use Rattle.std.specs.Prelude.{All, slice_index}
use Rattle.std.proofs.lemmas.List.{take_more, take_all, length_push}
use Rattle.std.proofs.lemmas.List.Elements.{All-tail, All-cons, All-append}
use Rattle.hex.specs.Hex.{lower_digits, encode_with, encode_lower}
use Rattle.hex.proofs.HexLemmas.{length-encode_with}
use Rattle.spb_defs.specs.ObjectText.{string_of_text}
use Rattle.spb_defs.specs.StringTexts.{read_string, string_read}

nothing : (read : Option (List ℕ)) → ((object : List ℕ) → read ≡ Some object → ⊥) → read ≡ None
nothing None h = refl
nothing (Some object) h = absurd (h object refl)

-- a text of another length
pub other_length : (len : ℕ) (text : List ℕ) → (length text ≡ 2 * len → ⊥) → string_of_text len text ≡ None
other_length len text other =
    nothing (string_of_text len text) (λ object e.
    let read = read_string len text object e in
    let size = read.0.size in
    other (omega (arith, ap length read.1, length-encode_with lower_digits object)))

-- a place of a text has a digit
record IsDigit (character : ℕ) : Type 0 where
  value : ℕ
  small : value < 16
  is : character ≡ slice_index lower_digits value

digit_of : (bytes : List ℕ) → All (λ b. b < 256) bytes → (k : ℕ) → k < length (encode_lower bytes) → IsDigit (get_or (encode_lower bytes) k 0)
unfolding encode_with
digit_of [] h k inside = absurd (omega arith)
digit_of (b ∷ rest) h zero inside = let small : b < 256 = h 0 0 (omega arith) in record { value = b / 16; small = omega arith; is = refl }
digit_of (b ∷ rest) h (suc zero) inside = record { value = b % 16; small = omega arith; is = refl }
digit_of (b ∷ rest) h (suc (suc k)) inside = digit_of rest (All-tail (λ x. x < 256) b rest h) k (omega arith)

-- a text with something else in a place
pub no_digit : (len : ℕ) (text : List ℕ) (k : ℕ) → k < length text → ((d : ℕ) → d < 16 → get_or text k 0 ≡ slice_index lower_digits d → ⊥)
    → string_of_text len text ≡ None
no_digit len text k inside other =
    nothing (string_of_text len text) (λ object e.
    let read = read_string len text object e in
    let d = digit_of object read.0.bytes k (subst (λ (t : List ℕ). k < length t) read.1 inside) in
    other d.value d.small (ap (λ t. get_or t k 0) read.1 ∙ d.is))

encode_lower-push : (bytes : List ℕ) (b : ℕ)
    → encode_lower (bytes ++ b ∷ []) ≡ encode_lower bytes ++ slice_index lower_digits (b / 16) ∷ slice_index lower_digits (b % 16) ∷ []
unfolding encode_with
encode_lower-push [] b = refl
encode_lower-push (x ∷ rest) b = ap (λ t. slice_index lower_digits (x / 16) ∷ slice_index lower_digits (x % 16) ∷ t) (encode_lower-push rest b)

-- two more places of a text
two_more : (text : List ℕ) (place : ℕ) → 2 * place + 1 < length text
    → take (2 * (place + 1)) text ≡ take (2 * place) text ++ get_or text (2 * place) 0 ∷ get_or text (2 * place + 1) 0 ∷ []
two_more text place h =
    let next : 2 * (place + 1) ≡ 2 * place + 1 + 1 = omega arith in
    ap (λ k. take k text) next ∙ take_more text (2 * place + 1) 0 h
    ∙ ap (λ front. front ++ get_or text (2 * place + 1) 0 ∷ []) (take_more text (2 * place) 0 (omega arith))
    ∙ append_assoc (take (2 * place) text) (get_or text (2 * place) 0 ∷ []) (get_or text (2 * place + 1) 0 ∷ [])

text_more : (text object : List ℕ) (place high low : ℕ) → encode_lower object ≡ take (2 * place) text → 2 * place + 1 < length text → low < 16 →
    get_or text (2 * place) 0 ≡ slice_index lower_digits high → get_or text (2 * place + 1) 0 ≡ slice_index lower_digits low →
    encode_lower (object ++ (16 * high + low) ∷ []) ≡ take (2 * (place + 1)) text
text_more text object place high low e inside small h l =
    let first : (16 * high + low) / 16 ≡ high = omega arith in
    let second : (16 * high + low) % 16 ≡ low = omega arith in
    let first_digit : get_or text (2 * place) 0 ≡ slice_index lower_digits ((16 * high + low) / 16) = h ∙ ap (slice_index lower_digits) (sym first) in
    let second_digit : get_or text (2 * place + 1) 0 ≡ slice_index lower_digits ((16 * high + low) % 16) = l ∙ ap (slice_index lower_digits) (sym second) in
    encode_lower-push object (16 * high + low)
    ∙ ap (λ front. front ++ slice_index lower_digits ((16 * high + low) / 16) ∷ slice_index lower_digits ((16 * high + low) % 16) ∷ []) e
    ∙ ap (λ c. take (2 * place) text ++ c ∷ slice_index lower_digits ((16 * high + low) % 16) ∷ []) (sym first_digit)
    ∙ ap (λ c. take (2 * place) text ++ get_or text (2 * place) 0 ∷ c ∷ []) (sym second_digit)
    ∙ sym (two_more text place inside)

none_below : All (λ b. b < 256) []
none_below = λ k d h. absurd (omega arith)

bytes_more : (object : List ℕ) (b : ℕ) → All (λ x. x < 256) object → b < 256 → All (λ x. x < 256) (object ++ b ∷ [])
bytes_more object b h small = All-append (λ x. x < 256) object (b ∷ []) h (All-cons (λ x. x < 256) b [] small none_below)

-- the bytes so far, and their text
pub record IsBegun (place : ℕ) (object text : List ℕ) : Type 0 where
  pub size : length object ≡ place
  pub bytes : All (λ b. b < 256) object
  pub front : encode_lower object ≡ take (2 * place) text

pub begins : (object text : List ℕ) → object ≡ [] → IsBegun 0 object text
unfolding encode_with
begins object text e = subst (λ o. IsBegun 0 o text) (sym e) (record { size = refl; bytes = none_below; front = refl })

pub goes_on : (text object new : List ℕ) (place high low : ℕ) → IsBegun place object text → 2 * place + 1 < length text → high < 16 → low < 16 →
    get_or text (2 * place) 0 ≡ slice_index lower_digits high → get_or text (2 * place + 1) 0 ≡ slice_index lower_digits low →
    new ≡ object ++ (16 * high + low) ∷ [] → IsBegun (place + 1) new text
goes_on text object new place high low b inside h_small l_small h l e =
    let size = b.size in
    subst (λ o. IsBegun (place + 1) o text) (sym e) (record {
      size = omega (arith, length_push object (16 * high + low));
      bytes = bytes_more object (16 * high + low) b.bytes (omega arith);
      front = text_more text object place high low b.front inside l_small h l;
    })

-- the whole text was read
pub ends : (len place : ℕ) (text object : List ℕ) → IsBegun place object text → place ≡ len → length text ≡ 2 * len → string_of_text len text ≡ Some object
ends len place text object b end long =
    let size = b.size in
    string_read len text object (record { size = size ∙ end; bytes = b.bytes }) (sym (b.front ∙ take_all (2 * place) text (omega arith)))
