-- Laws of the walk: keys and cells belong to each other, by induction over the groups from the written rows alone.
use Rattle.std.proofs.Common.{◌≡◌, ℕ, zero, suc, ◌+◌, ◌-◌, ◌*◌, ◌/◌, ◌%◌, ◌^◌, ◌<◌, ◌≤◌, refl, sym, ap, subst, ◌∙◌, arith}
use Rattle.std.specs.Int.{bit_at}
use Rattle.std.specs.Int.Bits.{bit_xor, xor_lt, xor_assoc, xor_self, xor_zero_r}
use Rattle.std.proofs.lemmas.Nat.{pow_pos, shr_split, shr_below, shr_high, mod_low, mod_below, mod-pow-add, same_from_place}
use Rattle.std.proofs.lemmas.Nat.Bits.{bit_at-lt}
use Rattle.hilbert_curve.specs.Tables.{gray, ungray, entry, direction}
use Rattle.hilbert_curve.specs.Curve.{rotated, cell_bits, next_entry, next_direction, coordinate, lanes, group_of, group_at, key_from}
use Rattle.hilbert_curve.specs.Rotation.{small_mod, rotated-lt, turned_back, turned_forth}
use Rattle.hilbert_curve.specs.RowLaws.{gray-lt, entry-lt, ungray-lt}
use Rattle.hilbert_curve.specs.WrittenRows.{row}
use Rattle.hilbert_curve.specs.Lanes.{lanes_same, lane_room, lanes-lt, bit_at-lanes, lanes_of_bits}

-- to xor twice is to leave alone
pub xor_twice : (a e : ℕ) → bit_xor (bit_xor a e) e ≡ a
xor_twice a e = xor_assoc a e e ∙ ap (bit_xor a) (xor_self e) ∙ xor_zero_r a

-- one step by group w, with r left of the key
abbrev pub coordinate_by : ℕ → ℕ → ℕ → ℕ → ℕ → ℕ → ℕ → ℕ
coordinate_by n j b e d w r = bit_at (cell_bits n e d w) j * 2 ^ b + coordinate n j b (next_entry n e d w) (next_direction n d w) r

pub twice_pow : (b : ℕ) → 2 ^ suc b ≡ 2 * 2 ^ b
twice_pow b = omega arith

pub coordinate-lt : (n j b e d k : ℕ) → coordinate n j b e d k < 2 ^ b
coordinate-lt n j zero e d k = pow_pos 0
coordinate-lt n j (suc b) e d k =
    room (bit_at (cell_bits n e d (k / 2 ^ (n * b))) j)
    (coordinate n j b (next_entry n e d (k / 2 ^ (n * b))) (next_direction n d (k / 2 ^ (n * b))) (k % 2 ^ (n * b))) (2 ^ b) (2 ^ suc b) (twice_pow b)
    (bit_at-lt (cell_bits n e d (k / 2 ^ (n * b))) j)
    (coordinate-lt n j b (next_entry n e d (k / 2 ^ (n * b))) (next_direction n d (k / 2 ^ (n * b))) (k % 2 ^ (n * b)))
  where
    room : (x c p q : ℕ) → q ≡ 2 * p → x < 2 → c < p → x * p + c < q
    room x c p q e h l = grind arith

-- a key by its highest group and the rest
pub coordinate_at : (n j b e d w r : ℕ) → r < 2 ^ (n * b) → coordinate n j (suc b) e d (w * 2 ^ (n * b) + r) ≡ coordinate_by n j b e d w r
coordinate_at n j b e d w r h =
    ap (λ k. coordinate_by n j b e d k ((w * 2 ^ (n * b) + r) % 2 ^ (n * b))) (shr_high w (n * b) r h)
    ∙ ap (coordinate_by n j b e d w) (mod_low w (n * b) r h)

-- the lowest bits of a number, with one more
pub one_bit_more : (x b : ℕ) → x % 2 ^ suc b ≡ bit_at x b * 2 ^ b + x % 2 ^ b
one_bit_more x b = (let e : suc b ≡ 1 + b = omega arith in ap (λ k. x % 2 ^ k) e) ∙ mod-pow-add x 1 b

same_parts : (x y b : ℕ) → x % 2 ^ suc b ≡ y % 2 ^ suc b → (bit_at x b ≡ bit_at y b) × (x % 2 ^ b ≡ y % 2 ^ b)
same_parts x y b h =
    same_from_place (bit_at x b) (x % 2 ^ b) (bit_at y b) (y % 2 ^ b) (2 ^ b) (mod_below x (2 ^ b) (pow_pos b)) (mod_below y (2 ^ b) (pow_pos b))
    (sym (one_bit_more x b) ∙ h ∙ one_bit_more y b)

module _ (n : ℕ) (some : 0 < n) (few : n ≤ 8) where
  pub cell_bits-lt : (e d w : ℕ) → e < 2 ^ n → w < 2 ^ n → cell_bits n e d w < 2 ^ n
  unfolding cell_bits
  cell_bits-lt e d w h l = xor_lt n (rotated n (gray w) (d + 1)) e (rotated-lt n some (gray w) (d + 1) (gray-lt n w l)) h

  pub next_entry-lt : (e d w : ℕ) → e < 2 ^ n → w < 2 ^ n → next_entry n e d w < 2 ^ n
  unfolding next_entry
  next_entry-lt e d w h l = xor_lt n e (rotated n (entry w) (d + 1)) h (rotated-lt n some (entry w) (d + 1) (entry-lt n w l))

  pub next_direction-lt : (d w : ℕ) → next_direction n d w < n
  unfolding next_direction
  next_direction-lt d w = mod_below (d + direction n w + 1) n some

  turned_off-lt : (e d x : ℕ) → e < 2 ^ n → x < 2 ^ n → rotated n (bit_xor x e) (n - (d + 1) % n) < 2 ^ n
  turned_off-lt e d x h l = rotated-lt n some (bit_xor x e) (n - (d + 1) % n) (xor_lt n x e l h)

  pub group_of-lt : (e d x : ℕ) → e < 2 ^ n → x < 2 ^ n → group_of n e d x < 2 ^ n
  unfolding group_of
  group_of-lt e d x h l = ungray-lt n n (rotated n (bit_xor x e) (n - (d + 1) % n)) (turned_off-lt e d x h l)

  -- a step and the way back
  pub group_of-cell_bits : (e d w : ℕ) → w < 2 ^ n → group_of n e d (cell_bits n e d w) ≡ w
  unfolding group_of cell_bits
  group_of-cell_bits e d w l =
      ap (λ x. ungray n (rotated n x (n - (d + 1) % n))) (xor_twice (rotated n (gray w) (d + 1)) e)
      ∙ ap (ungray n) (turned_back n some (gray w) (d + 1) (gray-lt n w l))
      ∙ (row n w some few l).code_back

  pub cell_bits-group_of : (e d x : ℕ) → e < 2 ^ n → x < 2 ^ n → cell_bits n e d (group_of n e d x) ≡ x
  unfolding group_of cell_bits
  cell_bits-group_of e d x h l =
      ap (λ g. bit_xor (rotated n g (d + 1)) e) ((row n (rotated n (bit_xor x e) (n - (d + 1) % n)) some few (turned_off-lt e d x h l)).code_forth)
      ∙ ap (λ g. bit_xor g e) (turned_forth n some (bit_xor x e) (d + 1) (xor_lt n x e l h))
      ∙ xor_twice x e

  bits_of-lt : (v : ℕ → ℕ) (b : ℕ) → lanes 1 n (λ j. bit_at (v j) b) < 2 ^ n
  bits_of-lt v b = (let e : 1 * n ≡ n = omega arith in
      subst (λ k. lanes 1 n (λ j. bit_at (v j) b) < 2 ^ k) e (lanes-lt 1 n (λ j. bit_at (v j) b) (λ j l. bit_at-lt (v j) b)))

  pub group_at-lt : (v : ℕ → ℕ) (b e d : ℕ) → e < 2 ^ n → group_at n v b e d < 2 ^ n
  group_at-lt v b e d h = group_of-lt e d (lanes 1 n (λ j. bit_at (v j) b)) h (bits_of-lt v b)

  pub key_from-lt : (v : ℕ → ℕ) (b e d : ℕ) → e < 2 ^ n → key_from n v b e d < 2 ^ (n * b)
  key_from-lt v zero e d h = pow_pos (n * 0)
  key_from-lt v (suc b) e d h =
      let w = group_at n v b e d in
      let below : w < 2 ^ n = group_at-lt v b e d h in
      let rest = key_from-lt v b (next_entry n e d w) (next_direction n d w) (next_entry-lt e d w h below) in
      subst (λ m. key_from n v (suc b) e d < m) (sym (lane_room n b))
      (room w (key_from n v b (next_entry n e d w) (next_direction n d w)) (2 ^ n) (2 ^ (n * b)) below rest)
    where
      room : (w r m p : ℕ) → w < m → r < p → w * p + r < m * p
      room w r m p h l = grind arith

  -- the cell of the key of coordinates is these coordinates
  pub coordinate-key_from : (v : ℕ → ℕ) (b e d j : ℕ) → e < 2 ^ n → j < n → coordinate n j b e d (key_from n v b e d) ≡ v j % 2 ^ b
  coordinate-key_from v zero e d j h l = omega (arith, mod_below (v j) 1 (pow_pos 0))
  coordinate-key_from v (suc b) e d j h l =
      let w = group_at n v b e d in
      let x = lanes 1 n (λ i. bit_at (v i) b) in
      let below : w < 2 ^ n = group_at-lt v b e d h in
      let entry_below : next_entry n e d w < 2 ^ n = next_entry-lt e d w h below in
      coordinate_at n j b e d w (key_from n v b (next_entry n e d w) (next_direction n d w))
      (key_from-lt v b (next_entry n e d w) (next_direction n d w) entry_below)
      ∙ ap (λ y. bit_at y j * 2 ^ b + coordinate n j b (next_entry n e d w) (next_direction n d w) (key_from n v b (next_entry n e d w) (next_direction n d w)))
      (cell_bits-group_of e d x h (bits_of-lt v b))
      ∙ ap (λ y. y * 2 ^ b + coordinate n j b (next_entry n e d w) (next_direction n d w) (key_from n v b (next_entry n e d w) (next_direction n d w)))
      (bit_at-lanes n (λ i. bit_at (v i) b) j (λ i k. bit_at-lt (v i) b) l)
      ∙ ap (λ y. bit_at (v j) b * 2 ^ b + y) (coordinate-key_from v b (next_entry n e d w) (next_direction n d w) j entry_below l)
      ∙ sym (one_bit_more (v j) b)

  -- only the lowest b bits of the coordinates count
  pub key_from_same : (v u : ℕ → ℕ) (b e d : ℕ) → ((j : ℕ) → j < n → v j % 2 ^ b ≡ u j % 2 ^ b) → key_from n v b e d ≡ key_from n u b e d
  key_from_same v u zero e d h = refl
  key_from_same v u (suc b) e d h =
      let w = group_at n v b e d in
      let same : w ≡ group_at n u b e d =
      ap (group_of n e d) (lanes_same 1 n (λ j. bit_at (v j) b) (λ j. bit_at (u j) b) (λ j l. (same_parts (v j) (u j) b (h j l)).0)) in
      ap (λ y. w * 2 ^ (n * b) + y) (key_from_same v u b (next_entry n e d w) (next_direction n d w) (λ j l. (same_parts (v j) (u j) b (h j l)).1))
      ∙ ap (λ y. y * 2 ^ (n * b) + key_from n u b (next_entry n e d y) (next_direction n d y)) same

  -- the key of the cell of a key is this key
  pub key_from-coordinate : (b e d k : ℕ) → e < 2 ^ n → k < 2 ^ (n * b) → key_from n (λ j. coordinate n j b e d k) b e d ≡ k
  key_from-coordinate zero e d k h l = (let z : n * 0 ≡ 0 = omega arith in none k (subst (λ m. k < 2 ^ m) z l))
    where
      none : (k : ℕ) → k < 1 → 0 ≡ k
      none k h = omega arith
  key_from-coordinate (suc b) e d k h l =
      let w = k / 2 ^ (n * b) in
      let r = k % 2 ^ (n * b) in
      let x = cell_bits n e d w in
      let below : w < 2 ^ n = shr_below k n (n * b) (let z : n * suc b ≡ n + n * b = omega arith in subst (λ m. k < 2 ^ m) z l) in
      let rest : (ℕ → ℕ) = λ j. coordinate n j b (next_entry n e d w) (next_direction n d w) r in
      let whole : (ℕ → ℕ) = λ j. bit_at x j * 2 ^ b + rest j in
      let rest-lt : (j : ℕ) → rest j < 2 ^ b = λ j. coordinate-lt n j b (next_entry n e d w) (next_direction n d w) r in
      let bits : (j : ℕ) → j < n → bit_at (whole j) b ≡ bit_at x j =
      λ j i. ap (λ y. y % 2) (shr_high (bit_at x j) b (rest j) (rest-lt j)) ∙ small_mod (bit_at x j) 2 (bit_at-lt x j) in
      let group : group_at n whole b e d ≡ w =
      ap (group_of n e d) (lanes_same 1 n (λ j. bit_at (whole j) b) (bit_at x) bits ∙ lanes_of_bits n x (cell_bits-lt e d w h below))
      ∙ group_of-cell_bits e d w below in
      let lows : (j : ℕ) → j < n → whole j % 2 ^ b ≡ rest j % 2 ^ b =
      λ j i. mod_low (bit_at x j) b (rest j) (rest-lt j) ∙ sym (small_mod (rest j) (2 ^ b) (rest-lt j)) in
      ap (λ y. y * 2 ^ (n * b) + key_from n whole b (next_entry n e d y) (next_direction n d y)) group
      ∙ ap (λ y. w * 2 ^ (n * b) + y)
      (key_from_same whole rest b (next_entry n e d w) (next_direction n d w) lows
      ∙ key_from-coordinate b (next_entry n e d w) (next_direction n d w) r (next_entry-lt e d w h below) (mod_below k (2 ^ (n * b)) (pow_pos (n * b))))
      ∙ shr_split k (n * b)
