-- The curve: the cell of a key, the key of a cell, and the step from a key to the next.
use Rattle.std.specs.Prelude.{◌≡◌, ℕ, zero, suc, ◌+◌, ◌-◌, ◌*◌, ◌/◌, ◌%◌, ◌^◌, ◌<◌, List, map, get_or, set, Bool, true, false, Option, Some, None, bit_xor}
use Rattle.std.specs.Int.{bit_at}
use Rattle.std.specs.List.{range_with_len}
use Rattle.hilbert_curve.specs.Tables.{gray, ungray, entry, direction}

-- the n bits of x, turned left by t places: the highest come to the low end
unfoldable pub rotated : ℕ → ℕ → ℕ → ℕ
rotated n x t = x % 2 ^ (n - t % n) * 2 ^ (t % n) + x / 2 ^ (n - t % n)

-- One step of the walk, from an entry e and a direction d, by the next group w of a key.
-- the next bits of the cell, that of coordinate j at bit j
unfoldable pub cell_bits : ℕ → ℕ → ℕ → ℕ → ℕ
cell_bits n e d w = bit_xor (rotated n (gray w) (d + 1)) e

-- the entry of the part that was stepped into
unfoldable pub next_entry : ℕ → ℕ → ℕ → ℕ → ℕ
next_entry n e d w = bit_xor e (rotated n (entry w) (d + 1))

-- and its direction
unfoldable pub next_direction : ℕ → ℕ → ℕ → ℕ
next_direction n d w = (d + direction n w + 1) % n

-- coordinate j of the cell of a key of b groups, the highest group first, walked from an entry and a direction
abbrev pub coordinate : ℕ → ℕ → ℕ → ℕ → ℕ → ℕ → ℕ
coordinate n j zero e d k = 0
coordinate n j (suc b) e d k =
    bit_at (cell_bits n e d (k / 2 ^ (n * b))) j * 2 ^ b
    + coordinate n j b (next_entry n e d (k / 2 ^ (n * b))) (next_direction n d (k / 2 ^ (n * b))) (k % 2 ^ (n * b))

-- the cell of a key: the walk begins at entry 0 and direction 0
unfoldable pub hilbert_cell : ℕ → ℕ → ℕ → List ℕ
hilbert_cell n b k = map (λ j. coordinate n j b 0 0 k) (range_with_len 0 n)

-- numbers side by side, s bits for each
abbrev pub lanes : ℕ → ℕ → (ℕ → ℕ) → ℕ
lanes s zero f = 0
lanes s (suc n) f = f n * 2 ^ (s * n) + lanes s n f

-- the group that steps to the bits x of a cell
unfoldable pub group_of : ℕ → ℕ → ℕ → ℕ → ℕ
group_of n e d x = ungray n (rotated n (bit_xor x e) (n - (d + 1) % n))

-- the group that gives bit b of the coordinates v
abbrev pub group_at : ℕ → (ℕ → ℕ) → ℕ → ℕ → ℕ → ℕ
group_at n v b e d = group_of n e d (lanes 1 n (λ j. bit_at (v j) b))

-- the key of the lowest b bits of the coordinates v, walked from an entry and a direction
abbrev pub key_from : ℕ → (ℕ → ℕ) → ℕ → ℕ → ℕ → ℕ
key_from n v zero e d = 0
key_from n v (suc b) e d =
    group_at n v b e d * 2 ^ (n * b)
    + key_from n v b (next_entry n e d (group_at n v b e d)) (next_direction n d (group_at n v b e d))

-- the key whose cell this is
unfoldable pub hilbert_key : ℕ → ℕ → List ℕ → ℕ
hilbert_key n b v = key_from n (λ j. get_or v j 0) b 0 0

-- cell u is cell v moved up by one along an axis
abbrev pub IsAbove : List ℕ → List ℕ → ℕ → Type 0
IsAbove u v axis = u ≡ set v axis (get_or v axis 0 + 1)

-- the step from the cell of a key to that of the next: its axis, and whether it goes up; none from the last key
unfoldable pub IsStep : ℕ → ℕ → ℕ → Option (ℕ × Bool) → Type 0
IsStep n b k None = k + 1 ≡ 2 ^ (n * b)
IsStep n b k (Some (axis, true)) =
    (k + 1 < 2 ^ (n * b)) × (axis < n) × IsAbove (hilbert_cell n b (k + 1)) (hilbert_cell n b k) axis
IsStep n b k (Some (axis, false)) =
    (k + 1 < 2 ^ (n * b)) × (axis < n) × IsAbove (hilbert_cell n b k) (hilbert_cell n b (k + 1)) axis
