-- The texts of objects.
use Rattle.std.specs.Prelude.{ℕ, ◌-◌, ◌==◌, ◌&&◌, Bool, true, nat_lt, nat_le, List, [], ◌∷◌, length, map, Option, Some, None, option_and_then, Result, Ok, Err, codes, if◌then◌else◌}
use Rattle.std.specs.Fmt.{decimal}
use Rattle.std.specs.List.{slice_split, join_with_byte}
use Rattle.std.specs.Str.{bytes_eq}
use Rattle.hex.specs.Hex.{encode_lower, decode_sized}
use Rattle.hex.specs.declared.error.FromHexError.{FromHexError}
use Rattle.metrics_builtin.specs.declared.Space.{Space}
use Rattle.metrics_builtin.specs.declared.Space.TheVariants.{L1, LInf, Hamming, Sets}
use Rattle.metrics_builtin.specs.Vectors.{components, object_of_components}
use Rattle.spb_defs.specs.Numbers.{number_within}

-- ---- the text of an object

-- numbers in decimal with commas between them
abbrev pub numbers_text : List ℕ → List ℕ
numbers_text numbers = join_with_byte 44 (map decimal numbers)

-- the elements in decimal with commas between them, and `-` for none
abbrev pub set_text : List ℕ → List ℕ
set_text [] = codes "-"
set_text (x ∷ xs) = numbers_text (x ∷ xs)

-- of a vector, the components; of a string, two lower-case hexadecimal digits for each byte; of a set,
-- the elements
abbrev pub text_of : Space → List ℕ → List ℕ
text_of (L1 dim most) object = numbers_text (components object)
text_of (LInf dim most) object = numbers_text (components object)
text_of (Hamming len) object = encode_lower object
text_of (Sets universe most) object = set_text (components object)

-- ---- the object of a text

-- the numbers that the words spell, if each spells one of at most the bound
abbrev pub numbers_within : ℕ → List (List ℕ) → Option (List ℕ)
numbers_within bound [] = Some []
numbers_within bound (word ∷ words) = option_and_then (λ n. option_and_then (λ ns. Some (n ∷ ns)) (numbers_within bound words)) (number_within bound word)

-- the numbers of at most the bound that are between commas
abbrev pub numbers_in : ℕ → List ℕ → Option (List ℕ)
numbers_in bound text = numbers_within bound (slice_split (λ b. b == 44) text)

-- the object of these components, if there are `dim`
abbrev pub vector_with : ℕ → List ℕ → Option (List ℕ)
vector_with dim numbers = if length numbers == dim then Some (object_of_components numbers) else None

-- each number is below the next
abbrev pub is_rising : List ℕ → Bool
is_rising (x ∷ y ∷ rest) = nat_lt x y && is_rising (y ∷ rest)
is_rising _ = true

-- the object of these elements, if they rise and are at most `most`
abbrev pub set_with : ℕ → List ℕ → Option (List ℕ)
set_with most elements = if nat_le (length elements) most && is_rising elements then Some (object_of_components elements) else None

-- the bytes that the text was decoded to, if it is their text
abbrev pub string_with : List ℕ → Result (List ℕ) FromHexError → Option (List ℕ)
string_with text (Ok bytes) = if bytes_eq (encode_lower bytes) text then Some bytes else None
string_with text (Err e) = None

-- the vector whose text it is
unfoldable pub vector_of_text : ℕ → ℕ → List ℕ → Option (List ℕ)
vector_of_text dim most text = option_and_then (vector_with dim) (numbers_in most text)

-- the string whose text it is
unfoldable pub string_of_text : ℕ → List ℕ → Option (List ℕ)
string_of_text len text = string_with text (decode_sized text len)

-- the set whose text it is
unfoldable pub set_of_text : ℕ → ℕ → List ℕ → Option (List ℕ)
set_of_text universe most text =
    if bytes_eq text (codes "-") then Some [] else option_and_then (set_with most) (numbers_in (universe - 1) text)

-- the object whose text it is
unfoldable pub object_of : Space → List ℕ → Option (List ℕ)
object_of (L1 dim most) text = vector_of_text dim most text
object_of (LInf dim most) text = vector_of_text dim most text
object_of (Hamming len) text = string_of_text len text
object_of (Sets universe most) text = set_of_text universe most text
