-- The tables of the curve by their formulas, and the fact that each row of a table is checked for.
use Rattle.std.specs.Prelude.{ℕ, zero, suc, ◌+◌, ◌-◌, ◌*◌, ◌/◌, ◌%◌, ◌^◌, Bool, ◌&&◌, ◌==◌, nat_lt, bit_xor, if◌then◌else◌}
use Rattle.std.specs.Int.{bit_at}

-- the Gray code of a number: neighbouring numbers have codes that differ in one bit
abbrev pub gray : ℕ → ℕ
gray i = bit_xor i (i / 2)

-- the number of n bits whose Gray code is x: x shifted down by 0, 1, .. n - 1 places, all joined by xor
abbrev pub ungray : ℕ → ℕ → ℕ
ungray zero x = 0
ungray (suc n) x = bit_xor (ungray n x) (x / 2 ^ n)

-- how many ones a number ends with, counting at most f of them
abbrev pub ones_up_to : ℕ → ℕ → ℕ
ones_up_to zero i = 0
ones_up_to (suc f) i = if i % 2 == 1 then suc (ones_up_to f (i / 2)) else 0

-- how many ones a number ends with
abbrev pub trailing_ones : ℕ → ℕ
trailing_ones i = ones_up_to i i

-- the corner at which the curve enters the i-th part of a cube
abbrev pub entry : ℕ → ℕ
entry zero = 0
entry (suc i) = gray (2 * (i / 2))

-- the axis along which it runs through that part, of n
abbrev pub direction : ℕ → ℕ → ℕ
direction n zero = 0
direction n (suc i) = trailing_ones (if i % 2 == 1 then i else suc i) % n

-- What is checked for a row w before the last: its step has an axis, the next code differs in that bit alone, and where
-- the curve leaves this part it crosses the same bit into the next. A sum of 1 says that two bits differ.
abbrev pub is_inner : ℕ → ℕ → Bool
is_inner n w =
    nat_lt (trailing_ones w) n
    && (bit_xor (gray w) (gray (w + 1)) == 2 ^ trailing_ones w)
    && (entry (w + 1) == bit_xor (bit_xor (entry w) (2 ^ direction n w)) (2 ^ trailing_ones w))
    && (bit_at (bit_xor (entry w) (2 ^ direction n w)) (trailing_ones w) + bit_at (gray w) (trailing_ones w) == 1)

-- what is checked for the last row: the curve leaves along the highest axis
abbrev pub is_last : ℕ → ℕ → Bool
is_last n w = (gray w == 2 ^ (n - 1)) && (bit_xor (entry w) (2 ^ direction n w) == 2 ^ (n - 1))

-- what is checked for row w of the tables for n: the columns are those of the formulas, and the formulas do what the
-- curve needs
abbrev pub is_row : ℕ → ℕ → ℕ → ℕ → ℕ → Bool
is_row n w g e d =
    (g == gray w) && (e == entry w) && (d == direction n w)
    && (ungray n (gray w) == w) && (gray (ungray n w) == w)
    && (if w + 1 == 2 ^ n then is_last n w else is_inner n w)
