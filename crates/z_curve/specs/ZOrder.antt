-- The Z-order curve: which cells and keys it has, and which belong to each other.
use Rattle.std.specs.Prelude.{ℕ, zero, suc, ◌+◌, ◌*◌, ◌/◌, ◌%◌, ◌^◌, List, [], ◌∷◌, length, map}

-- ---- the key of a cell

-- each coordinate without its lowest bit
abbrev pub halves : List ℕ → List ℕ
halves v = map (λ x. x / 2) v

-- the lowest bit of each coordinate in a row, that of the first coordinate highest
unfoldable pub low_bits : List ℕ → ℕ
low_bits [] = 0
low_bits (x ∷ xs) = (x % 2) * 2 ^ length xs + low_bits xs

-- the key of a vector whose coordinates have b bits: its lowest group holds their lowest bits
unfoldable pub z_key : ℕ → List ℕ → ℕ
z_key zero v = 0
z_key (suc b) v = 2 ^ length v * z_key b (halves v) + low_bits v

-- ---- the cell of a key

-- the number of b bits that are n places apart in the key, from the lowest bit on
unfoldable pub gathered : ℕ → ℕ → ℕ → ℕ
gathered n zero k = 0
gathered n (suc b) k = 2 * gathered n b (k / 2 ^ n) + k % 2

-- the last m coordinates: the last one's bits begin at the key's lowest
unfoldable pub last_coordinates : ℕ → ℕ → ℕ → ℕ → List ℕ
last_coordinates n b zero k = []
last_coordinates n b (suc m) k = gathered n b (k / 2 ^ m) ∷ last_coordinates n b m k

-- the n coordinates of b bits that a key has
abbrev pub z_cell : ℕ → ℕ → ℕ → List ℕ
z_cell n b k = last_coordinates n b n k
