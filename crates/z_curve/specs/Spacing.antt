-- Numbers cut into pieces that are set apart.
use Rattle.std.specs.Prelude.{ℕ, zero, suc, ◌+◌, ◌-◌, ◌*◌, ◌/◌, ◌%◌, ◌^◌, min, cond, nat_lt}

-- how many bits of each coordinate go into 64 bits, 32 at most
abbrev pub most_bits : ℕ → ℕ
most_bits n = min 32 (64 / n)

-- j pieces of p bits of a number, from its lowest bit on, each d places after the one before
unfoldable pub pieces : ℕ → ℕ → ℕ → ℕ → ℕ
pieces p d zero x = 0
pieces p d (suc j) x = x % 2 ^ p + 2 ^ d * pieces p d j (x / 2 ^ p)

-- the lowest b bits of a number, n places apart
abbrev pub spread : ℕ → ℕ → ℕ → ℕ
spread n b x = pieces 1 n b x

-- a number cut into pieces of 2 ^ (5 - i) bits, which are set apart for n coordinates
abbrev pub cut_to : ℕ → ℕ → ℕ → ℕ
cut_to n i x = pieces (2 ^ (5 - i)) (n * 2 ^ (5 - i)) (2 ^ i) x

-- how far step i, which leaves pieces of 2 ^ (4 - i) bits, moves the upper half of each; not at all
-- if a coordinate has no more bits than that
abbrev pub shift_of : ℕ → ℕ → ℕ
shift_of n i = cond (nat_lt (2 ^ (4 - i)) (most_bits n)) ((n - 1) * 2 ^ (4 - i)) 0

-- where the bits are before step i
abbrev pub mask_of : ℕ → ℕ → ℕ
mask_of n i = cut_to n i (2 ^ most_bits n - 1)
