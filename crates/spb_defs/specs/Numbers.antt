-- Numbers in text: decimal digits without a sign, and without a leading zero but for `0` alone.
use Rattle.std.specs.Prelude.{ℕ, ◌^◌, ◌&&◌, nat_lt, nat_le, List, Option, Some, None, if◌then◌else◌}
use Rattle.std.specs.Fmt.{decimal}
use Rattle.std.specs.Str.{bytes_eq}
use Rattle.std.specs.Str.Parse.{digits_value}

-- the number that the word spells, if it is the decimal text of one below 2 ^ 64
unfoldable pub number_of : List ℕ → Option ℕ
number_of word =
    let value = digits_value 10 word in
    if nat_lt value (2 ^ 64) && bytes_eq (decimal value) word then Some value else None

-- a number, if it is at most the bound
abbrev pub at_most : ℕ → Option ℕ → Option ℕ
at_most bound None = None
at_most bound (Some n) = if nat_le n bound then Some n else None

-- a number, if it is at least the bound
abbrev pub at_least : ℕ → Option ℕ → Option ℕ
at_least bound None = None
at_least bound (Some n) = if nat_le bound n then Some n else None

-- the number that the word spells, if it is at most the bound
abbrev pub number_within : ℕ → List ℕ → Option ℕ
number_within bound word = at_most bound (number_of word)
