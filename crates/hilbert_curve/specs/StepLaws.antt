-- From one key to the next: the two cells differ by one on one axis, by induction over the groups from the written rows
-- alone.
use Rattle.std.proofs.Common.{◌≡◌, ◌≢◌, ℕ, zero, suc, ◌+◌, ◌-◌, ◌*◌, ◌/◌, ◌%◌, ◌^◌, ◌<◌, ◌≤◌, ◌⊎◌, inl, inr, refl, sym, ap, subst, ◌∙◌, Bool, true, false, ◌==◌, if◌then◌else◌, Option, Some, arith}
use Rattle.std.specs.Int.{bit_at}
use Rattle.std.specs.Int.Bits.{bit_xor, xor_lt, xor_assoc, xor_self, xor_zero_r, xor_zero_l}
use Rattle.std.proofs.lemmas.Bool.{cases_eq}
use Rattle.std.proofs.lemmas.Bool.Decides.{nat_tests}
use Rattle.std.proofs.lemmas.Nat.{mul-le, mod-mul-add, same_from_place, pow_pos, pow_below, shr_split, shr_below, mod_below, xor_comm}
use Rattle.std.proofs.lemmas.Nat.Bits.{bit_at-lt, bit_at_xor, bit_at-pow_same, bit_at-pow_other}
use Rattle.hilbert_curve.specs.Tables.{gray, trailing_ones, entry, direction}
use Rattle.hilbert_curve.specs.Curve.{rotated, cell_bits, next_entry, next_direction, coordinate}
use Rattle.hilbert_curve.specs.Rotation.{small_mod, small_div, rotated-xor, rotated-pow, bit_at-rotated}
use Rattle.hilbert_curve.specs.RowLaws.{IsInner, gray-lt, entry-lt, direction-lt}
use Rattle.hilbert_curve.specs.WrittenRows.{row}
use Rattle.hilbert_curve.specs.Lanes.{lane_room}
use Rattle.hilbert_curve.specs.WalkLaws.{coordinate_by, coordinate_at, twice_pow, next_entry-lt, next_direction-lt}

-- the axis along which the step from group w to the next goes
abbrev pub axis_of : ℕ → ℕ → ℕ → ℕ
axis_of n d w = (trailing_ones w + d + 1) % n

-- and whether it goes up
abbrev pub goes_up : ℕ → ℕ → ℕ → ℕ → Bool
goes_up n e d w = bit_at (cell_bits n e d w) (axis_of n d w) == 0

-- the step that the lowest group which isn't the last row takes, or what was found before
abbrev pub step_found : ℕ → ℕ → ℕ → ℕ → ℕ → Option (ℕ × Bool) → Option (ℕ × Bool)
step_found n zero e d k found = found
step_found n (suc b) e d k found =
    step_found n b (next_entry n e d (k / 2 ^ (n * b))) (next_direction n d (k / 2 ^ (n * b))) (k % 2 ^ (n * b))
    (if k / 2 ^ (n * b) + 1 == 2 ^ n then found else Some (axis_of n d (k / 2 ^ (n * b)), goes_up n e d (k / 2 ^ (n * b))))

-- one coordinate goes up or down by one
abbrev pub MovesBy : Bool → ℕ → ℕ → Type 0
MovesBy true c c' = c' ≡ c + 1
MovesBy false c c' = c ≡ c' + 1

-- the coordinates of a key and of the next one differ on this axis alone, and by one
pub record Moves (n b e d k a : ℕ) (up : Bool) : Type 0 where
  pub axis : a < n
  pub along : MovesBy up (coordinate n a b e d k) (coordinate n a b e d (k + 1))
  pub others : (j : ℕ) → j ≢ a → coordinate n j b e d (k + 1) ≡ coordinate n j b e d k

rotated-zero : (n t : ℕ) → rotated n 0 t ≡ 0
unfolding rotated
rotated-zero n t =
    ap (λ a. a * 2 ^ (t % n) + 0 / 2 ^ (n - t % n)) (small_mod 0 (2 ^ (n - t % n)) (pow_pos (n - t % n)))
    ∙ ap (λ a. 0 * 2 ^ (t % n) + a) (small_div 0 (2 ^ (n - t % n)) (pow_pos (n - t % n)))
    ∙ omega arith

-- the last number of two digits has the last digits
last_parts : (w r m p : ℕ) → r < p → w * p + r + 1 ≡ m * p → (w + 1 ≡ m) × (r + 1 ≡ p)
last_parts w r m zero h e = absurd (omega arith)
last_parts w r zero (suc p) h e = absurd (omega arith)
last_parts w r (suc m) (suc p) h e =
    let same : (w ≡ m) × (r ≡ p) = same_from_place w r m p (suc p) h (omega arith) (omega arith) in
    (ap (λ k. k + 1) same.0 ∙ omega arith, ap (λ k. k + 1) same.1 ∙ omega arith)

-- by the bit of this part: it goes up from a zero, and down from a one
by_bit : (x c x' c' p here there : ℕ) → c + x ≡ 1 → x' ≡ (x + 1) % 2 → c' ≡ (c + 1) % 2 → here + c ≡ c * p → there + c' ≡ c' * p →
    MovesBy (x == 0) (x * p + here) (x' * p + there)
by_bit x c x' c' p here there s e f h t =
    elim (cases_eq x 0) [
      | inl z ↦
          (let yes_zero : true ≡ (x == 0) = grind (arith, nat_tests) in
          subst (λ up. MovesBy up (x * p + here) (x' * p + there)) yes_zero (up_zero x c x' c' p here there z s e f h t))
      | inr nz ↦
          (let no_zero : false ≡ (x == 0) = grind (arith, nat_tests) in
          subst (λ up. MovesBy up (x * p + here) (x' * p + there)) no_zero (down_one x c x' c' p here there (omega arith) s e f h t))
    ]
  where
    up_zero : (x c x' c' p here there : ℕ) → x ≡ 0 → c + x ≡ 1 → x' ≡ (x + 1) % 2 → c' ≡ (c + 1) % 2 → here + c ≡ c * p → there + c' ≡ c' * p →
        x' * p + there ≡ x * p + here + 1
    up_zero x c x' c' p here there z s e f h t =
        let one : c ≡ 1 = omega arith in
        let flip : x' ≡ 1 = omega arith in
        let gone : c' ≡ 0 = omega arith in
        grind arith

    down_one : (x c x' c' p here there : ℕ) → x ≡ 1 → c + x ≡ 1 → x' ≡ (x + 1) % 2 → c' ≡ (c + 1) % 2 → here + c ≡ c * p → there + c' ≡ c' * p →
        x * p + here ≡ x' * p + there + 1
    down_one x c x' c' p here there z s e f h t =
        let one : c ≡ 0 = omega arith in
        let flip : x' ≡ 0 = omega arith in
        let gone : c' ≡ 1 = omega arith in
        grind arith

module _ (n : ℕ) (some : 0 < n) (few : n ≤ 8) where
  -- the first cell has the bits of the entry in every group
  cell_bits-zero : (e d : ℕ) → cell_bits n e d 0 ≡ e
  unfolding cell_bits
  cell_bits-zero e d = ap (λ x. bit_xor x e) (rotated-zero n (d + 1))

  next_entry-zero : (e d : ℕ) → next_entry n e d 0 ≡ e
  unfolding next_entry
  next_entry-zero e d = ap (bit_xor e) (rotated-zero n (d + 1)) ∙ xor_zero_r e

  pub first_cell : (b e d j : ℕ) → coordinate n j b e d 0 + bit_at e j ≡ bit_at e j * 2 ^ b
  first_cell zero e d j = omega arith
  first_cell (suc b) e d j =
      let top : 0 / 2 ^ (n * b) ≡ 0 = small_div 0 (2 ^ (n * b)) (pow_pos (n * b)) in
      let low : 0 % 2 ^ (n * b) ≡ 0 = small_mod 0 (2 ^ (n * b)) (pow_pos (n * b)) in
      let here : coordinate n j (suc b) e d 0 ≡ bit_at e j * 2 ^ b + coordinate n j b e (next_direction n d 0) 0 =
      ap (λ w. coordinate_by n j b e d w (0 % 2 ^ (n * b))) top
      ∙ ap (coordinate_by n j b e d 0) low
      ∙ ap (λ x. bit_at x j * 2 ^ b + coordinate n j b (next_entry n e d 0) (next_direction n d 0) 0) (cell_bits-zero e d)
      ∙ ap (λ x. bit_at e j * 2 ^ b + coordinate n j b x (next_direction n d 0) 0) (next_entry-zero e d) in
      let whole : bit_at e j * 2 ^ suc b ≡ bit_at e j * 2 ^ b + bit_at e j * 2 ^ b = ap (λ p. bit_at e j * p) (twice_pow b) ∙ omega arith in
      omega (arith, here, whole, first_cell b e (next_direction n d 0) j)

  -- where the curve leaves a part
  leaving : (e d w : ℕ) → e < 2 ^ n → w < 2 ^ n →
      bit_xor (next_entry n e d w) (2 ^ next_direction n d w) ≡ bit_xor e (rotated n (bit_xor (entry w) (2 ^ direction n w)) (d + 1))
  unfolding next_entry next_direction
  leaving e d w h l =
      let small : direction n w < n = direction-lt n w some in
      let place : (d + direction n w + 1) % n ≡ (direction n w + (d + 1)) % n = ap (λ k. k % n) (omega arith) in
      xor_assoc e (rotated n (entry w) (d + 1)) (2 ^ ((d + direction n w + 1) % n))
      ∙ ap (λ k. bit_xor e (bit_xor (rotated n (entry w) (d + 1)) (2 ^ k))) place
      ∙ ap (λ y. bit_xor e (bit_xor (rotated n (entry w) (d + 1)) y)) (sym (rotated-pow n some (direction n w) (d + 1) small))
      ∙ ap (bit_xor e) (sym (rotated-xor n some (entry w) (2 ^ direction n w) (d + 1) (entry-lt n w l) (pow_below (direction n w) n small)))

  -- from the last row it leaves where the whole is left
  last_place : (d : ℕ) → d < n → ((n - 1) + (d + 1)) % n ≡ d
  last_place d h =
      let e : (n - 1) + (d + 1) ≡ 1 * n + d = omega arith in
      ap (λ k. k % n) e ∙ mod-mul-add 1 n d h

  turned_last : (d : ℕ) → d < n → rotated n (2 ^ (n - 1)) (d + 1) ≡ 2 ^ d
  turned_last d h = rotated-pow n some (n - 1) (d + 1) (omega arith) ∙ ap (λ k. 2 ^ k) (last_place d h)

  cell_bits-last : (e d w : ℕ) → d < n → w < 2 ^ n → w + 1 ≡ 2 ^ n → cell_bits n e d w ≡ bit_xor e (2 ^ d)
  unfolding cell_bits
  cell_bits-last e d w h l i =
      ap (λ g. bit_xor (rotated n g (d + 1)) e) ((row n w some few l).last i).code
      ∙ ap (λ g. bit_xor g e) (turned_last d h) ∙ xor_comm (2 ^ d) e

  leaving-last : (e d w : ℕ) → e < 2 ^ n → d < n → w < 2 ^ n → w + 1 ≡ 2 ^ n →
      bit_xor (next_entry n e d w) (2 ^ next_direction n d w) ≡ bit_xor e (2 ^ d)
  leaving-last e d w k h l i =
      leaving e d w k l ∙ ap (λ g. bit_xor e (rotated n g (d + 1))) ((row n w some few l).last i).leaves ∙ ap (bit_xor e) (turned_last d h)

  -- the last cell has the same bits in every group, those of the corner at which the curve leaves
  pub last_cell : (b e d k j : ℕ) → e < 2 ^ n → d < n → k + 1 ≡ 2 ^ (n * b) →
      coordinate n j b e d k + bit_at (bit_xor e (2 ^ d)) j ≡ bit_at (bit_xor e (2 ^ d)) j * 2 ^ b
  last_cell zero e d k j h l i = omega arith
  last_cell (suc b) e d k j h l i =
      let w = k / 2 ^ (n * b) in
      let r = k % 2 ^ (n * b) in
      let x = bit_xor e (2 ^ d) in
      let parts : (w + 1 ≡ 2 ^ n) × (r + 1 ≡ 2 ^ (n * b)) = last_parts w r (2 ^ n) (2 ^ (n * b)) (mod_below k (2 ^ (n * b)) (pow_pos (n * b)))
      (ap (λ y. y + 1) (shr_split k (n * b)) ∙ i ∙ lane_room n b) in
      let below : w < 2 ^ n = omega (arith, parts.0) in
      let bits : cell_bits n e d w ≡ x = cell_bits-last e d w l below parts.0 in
      let corner : bit_xor (next_entry n e d w) (2 ^ next_direction n d w) ≡ x = leaving-last e d w h l below parts.0 in
      let rest : coordinate n j b (next_entry n e d w) (next_direction n d w) r + bit_at x j ≡ bit_at x j * 2 ^ b =
      subst (λ y. coordinate n j b (next_entry n e d w) (next_direction n d w) r + bit_at y j ≡ bit_at y j * 2 ^ b) corner
      (last_cell b (next_entry n e d w) (next_direction n d w) r j (next_entry-lt n some few e d w h below) (next_direction-lt n some few d w) parts.1) in
      let here : coordinate n j (suc b) e d k ≡ bit_at x j * 2 ^ b + coordinate n j b (next_entry n e d w) (next_direction n d w) r =
      ap (λ y. bit_at y j * 2 ^ b + coordinate n j b (next_entry n e d w) (next_direction n d w) r) bits in
      let whole : bit_at x j * 2 ^ suc b ≡ bit_at x j * 2 ^ b + bit_at x j * 2 ^ b = ap (λ p. bit_at x j * p) (twice_pow b) ∙ omega arith in
      omega (arith, here, whole, rest)

  -- from a row before the last to the next
  module _ (e d w : ℕ) (inside : e < 2 ^ n) (turn_inside : d < n) (below : w < 2 ^ n) (next : w + 1 < 2 ^ n) where
    a : ℕ
    a = (trailing_ones w + (d + 1)) % n

    place : axis_of n d w ≡ a
    unfolding a
    place = ap (λ k. k % n) (omega arith)

    fact : IsInner n w
    fact = (row n w some few below).inner next

    turned_step : rotated n (2 ^ trailing_ones w) (d + 1) ≡ 2 ^ a
    unfolding a
    turned_step = rotated-pow n some (trailing_ones w) (d + 1) fact.axis

    step_below : 2 ^ trailing_ones w < 2 ^ n
    step_below = pow_below (trailing_ones w) n fact.axis

    -- the code of the next group is this one's, but for one bit
    next_code : gray (w + 1) ≡ bit_xor (gray w) (2 ^ trailing_ones w)
    next_code =
        sym (xor_zero_l (gray (w + 1))) ∙ ap (λ x. bit_xor x (gray (w + 1))) (sym (xor_self (gray w)))
        ∙ xor_assoc (gray w) (gray w) (gray (w + 1)) ∙ ap (bit_xor (gray w)) fact.next_code

    next_bits : cell_bits n e d (w + 1) ≡ bit_xor (cell_bits n e d w) (2 ^ a)
    unfolding cell_bits
    next_bits =
        ap (λ g. bit_xor (rotated n g (d + 1)) e) next_code
        ∙ ap (λ g. bit_xor g e) (rotated-xor n some (gray w) (2 ^ trailing_ones w) (d + 1) (gray-lt n w below) step_below)
        ∙ ap (λ g. bit_xor (bit_xor (rotated n (gray w) (d + 1)) g) e) turned_step
        ∙ xor_assoc (rotated n (gray w) (d + 1)) (2 ^ a) e
        ∙ ap (bit_xor (rotated n (gray w) (d + 1))) (xor_comm (2 ^ a) e)
        ∙ sym (xor_assoc (rotated n (gray w) (d + 1)) e (2 ^ a))

    -- the corner at which this part is left
    corner : ℕ
    corner = bit_xor (next_entry n e d w) (2 ^ next_direction n d w)

    exit-lt : bit_xor (entry w) (2 ^ direction n w) < 2 ^ n
    exit-lt = xor_lt n (entry w) (2 ^ direction n w) (entry-lt n w below) (pow_below (direction n w) n (direction-lt n w some))

    corner_is : corner ≡ bit_xor e (rotated n (bit_xor (entry w) (2 ^ direction n w)) (d + 1))
    unfolding corner
    corner_is = leaving e d w inside below

    -- the next part is entered across the same bit
    next_corner : next_entry n e d (w + 1) ≡ bit_xor corner (2 ^ a)
    unfolding next_entry
    next_corner =
        ap (λ g. bit_xor e (rotated n g (d + 1))) fact.enters
        ∙ ap (bit_xor e) (rotated-xor n some (bit_xor (entry w) (2 ^ direction n w)) (2 ^ trailing_ones w) (d + 1) exit-lt step_below)
        ∙ ap (λ g. bit_xor e (bit_xor (rotated n (bit_xor (entry w) (2 ^ direction n w)) (d + 1)) g)) turned_step
        ∙ sym (xor_assoc e (rotated n (bit_xor (entry w) (2 ^ direction n w)) (d + 1)) (2 ^ a))
        ∙ ap (λ g. bit_xor g (2 ^ a)) (sym corner_is)

    across : bit_at corner a + bit_at (cell_bits n e d w) a ≡ 1
    unfolding a cell_bits
    across =
        parity (bit_at e a) (bit_at (bit_xor (entry w) (2 ^ direction n w)) (trailing_ones w)) (bit_at (gray w) (trailing_ones w)) (bit_at corner a)
        (bit_at (cell_bits n e d w) a)
        (bit_at-lt e a) fact.across
        (ap (λ x. bit_at x a) corner_is ∙ bit_at_xor e (rotated n (bit_xor (entry w) (2 ^ direction n w)) (d + 1)) a
        ∙ ap (λ x. (bit_at e a + x) % 2) (bit_at-rotated n some (bit_xor (entry w) (2 ^ direction n w)) (d + 1) (trailing_ones w) exit-lt fact.axis))
        (bit_at_xor (rotated n (gray w) (d + 1)) e a
        ∙ ap (λ x. (x + bit_at e a) % 2) (bit_at-rotated n some (gray w) (d + 1) (trailing_ones w) (gray-lt n w below) fact.axis))
      where
        parity : (x y g c k : ℕ) → x < 2 → y + g ≡ 1 → c ≡ (x + y) % 2 → k ≡ (g + x) % 2 → c + k ≡ 1
        parity x y g c k h s i j = omega arith

    bit_other : (y j : ℕ) → j ≢ a → bit_at (bit_xor y (2 ^ a)) j ≡ bit_at y j
    bit_other y j ne =
        bit_at_xor y (2 ^ a) j ∙ ap (λ x. (bit_at y j + x) % 2) (bit_at-pow_other a j ne)
        ∙ ap (λ x. x % 2) (let z : bit_at y j + 0 ≡ bit_at y j = omega arith in z) ∙ small_mod (bit_at y j) 2 (bit_at-lt y j)

    bit_same : (y : ℕ) → bit_at (bit_xor y (2 ^ a)) a ≡ (bit_at y a + 1) % 2
    bit_same y = bit_at_xor y (2 ^ a) a ∙ ap (λ x. (bit_at y a + x) % 2) (bit_at-pow_same a)

    module _ (b r : ℕ) (full : r + 1 ≡ 2 ^ (n * b)) where
      here : ℕ → ℕ
      here j = coordinate n j b (next_entry n e d w) (next_direction n d w) r

      there : ℕ → ℕ
      there j = coordinate n j b (next_entry n e d (w + 1)) (next_direction n d (w + 1)) 0

      here_is : (j : ℕ) → here j + bit_at corner j ≡ bit_at corner j * 2 ^ b
      unfolding here corner
      here_is j = last_cell b (next_entry n e d w) (next_direction n d w) r j (next_entry-lt n some few e d w inside below) (next_direction-lt n some few d w)
          full

      there_is : (j : ℕ) → there j + bit_at (bit_xor corner (2 ^ a)) j ≡ bit_at (bit_xor corner (2 ^ a)) j * 2 ^ b
      unfolding there
      there_is j =
          subst (λ y. there j + bit_at y j ≡ bit_at y j * 2 ^ b) next_corner (first_cell b (next_entry n e d (w + 1)) (next_direction n d (w + 1)) j)

      others_stay : (j : ℕ) → j ≢ a → coordinate_by n j b e d (w + 1) 0 ≡ coordinate_by n j b e d w r
      unfolding here there
      others_stay j ne =
          let bits : bit_at (cell_bits n e d (w + 1)) j ≡ bit_at (cell_bits n e d w) j = ap (λ x. bit_at x j) next_bits ∙ bit_other (cell_bits n e d w) j ne in
          let next : there j + bit_at corner j ≡ bit_at corner j * 2 ^ b = subst (λ y. there j + y ≡ y * 2 ^ b) (bit_other corner j ne) (there_is j) in
          ap (λ x. x * 2 ^ b + there j) bits ∙ ap (λ x. bit_at (cell_bits n e d w) j * 2 ^ b + x) (omega (arith, next, here_is j))

      moves_along : MovesBy (bit_at (cell_bits n e d w) a == 0) (coordinate_by n a b e d w r) (coordinate_by n a b e d (w + 1) 0)
      unfolding here there
      moves_along =
          by_bit (bit_at (cell_bits n e d w) a) (bit_at corner a) (bit_at (cell_bits n e d (w + 1)) a) (bit_at (bit_xor corner (2 ^ a)) a) (2 ^ b) (here a)
          (there a)
          across (ap (λ x. bit_at x a) next_bits ∙ bit_same (cell_bits n e d w)) (bit_same corner) (here_is a) (there_is a)

  -- from the last key of a part to the first of the next
  pub moves_across : (b e d k : ℕ) → e < 2 ^ n → d < n → k < 2 ^ (n * suc b) → k % 2 ^ (n * b) + 1 ≡ 2 ^ (n * b) → k / 2 ^ (n * b) + 1 < 2 ^ n →
      Moves n (suc b) e d k (axis_of n d (k / 2 ^ (n * b))) (goes_up n e d (k / 2 ^ (n * b)))
  unfolding a
  moves_across b e d k h l i full next =
      let w = k / 2 ^ (n * b) in
      let r = k % 2 ^ (n * b) in
      let below : w < 2 ^ n = omega arith in
      let up : k + 1 ≡ (w + 1) * 2 ^ (n * b) + 0 = omega (arith, shr_split k (n * b), full) in
      let after : (j : ℕ) → coordinate n j (suc b) e d (k + 1) ≡ coordinate_by n j b e d (w + 1) 0 =
      λ j. ap (coordinate n j (suc b) e d) up ∙ coordinate_at n j b e d (w + 1) 0 (pow_pos (n * b)) in
      let placed : axis_of n d w ≡ a e d w h l below next = place e d w h l below next in
      record {
        axis = mod_below (trailing_ones w + d + 1) n some;
        along = subst (λ x. MovesBy (bit_at (cell_bits n e d w) x == 0) (coordinate_by n x b e d w r) (coordinate n x (suc b) e d (k + 1))) (sym placed)
            (subst (MovesBy (bit_at (cell_bits n e d w) (a e d w h l below next) == 0) (coordinate_by n (a e d w h l below next) b e d w r))
            (sym (after (a e d w h l below next)))
            (moves_along e d w h l below next b r full));
        others = λ j ne. after j ∙ others_stay e d w h l below next b r full j (λ s. ne (s ∙ sym placed));
      }

-- what a walk down the groups finds: nothing new at the last key, else the step
pub record FindsStep (n b e d k : ℕ) (answer : Option (ℕ × Bool)) : Type 0 where
  pub before_last : k + 1 < 2 ^ (n * b)
  pub a : ℕ
  pub up : Bool
  pub is : answer ≡ Some (a, up)
  pub moves : Moves n b e d k a up

choose_equal : (a b : ℕ) (x y : Option (ℕ × Bool)) → a ≡ b → (if a == b then x else y) ≡ x
choose_equal a b x y e = grind (arith, nat_tests)

pub choose_other : (a b : ℕ) (x y : Option (ℕ × Bool)) → (a ≡ b → ⊥) → (if a == b then x else y) ≡ y
choose_other a b x y ne = grind (arith, nat_tests)

under : (up : Bool) (x c c' : ℕ) → MovesBy up c c' → MovesBy up (x + c) (x + c')
under true x c c' h = omega (arith, h)
under false x c c' h = omega (arith, h)

module _ (n : ℕ) (some : 0 < n) (few : n ≤ 8) where
  -- the step of what is left is a step of the whole
  lifted : (b e d k a : ℕ) (up : Bool) → k % 2 ^ (n * b) + 1 < 2 ^ (n * b) →
      Moves n b (next_entry n e d (k / 2 ^ (n * b))) (next_direction n d (k / 2 ^ (n * b))) (k % 2 ^ (n * b)) a up → Moves n (suc b) e d k a up
  lifted b e d k a up h m =
      let w = k / 2 ^ (n * b) in
      let r = k % 2 ^ (n * b) in
      let on : k + 1 ≡ w * 2 ^ (n * b) + (r + 1) = omega (arith, shr_split k (n * b)) in
      let after : (j : ℕ) → coordinate n j (suc b) e d (k + 1) ≡ coordinate_by n j b e d w (r + 1) =
      λ j. ap (coordinate n j (suc b) e d) on ∙ coordinate_at n j b e d w (r + 1) h in
      record {
        axis = m.axis;
        along = subst (MovesBy up (coordinate_by n a b e d w r)) (sym (after a))
            (under up (bit_at (cell_bits n e d w) a * 2 ^ b) (coordinate n a b (next_entry n e d w) (next_direction n d w) r)
            (coordinate n a b (next_entry n e d w) (next_direction n d w) (r + 1)) m.along);
        others = λ j ne. after j ∙ ap (λ x. bit_at (cell_bits n e d w) j * 2 ^ b + x) (m.others j ne);
      }

  pub finds : (b e d k : ℕ) (found : Option (ℕ × Bool)) → e < 2 ^ n → d < n → k < 2 ^ (n * b) →
      ((k + 1 ≡ 2 ^ (n * b)) × (step_found n b e d k found ≡ found)) ⊎ FindsStep n b e d k (step_found n b e d k found)
  finds zero e d k found h l i =
      let z : n * 0 ≡ 0 = omega arith in
      let whole : 2 ^ (n * 0) ≡ 1 = ap (λ m. 2 ^ m) z in
      inl (omega (arith, whole), refl)
  finds (suc b) e d k found h l i =
      let w = k / 2 ^ (n * b) in
      let r = k % 2 ^ (n * b) in
      let below : w < 2 ^ n = shr_below k n (n * b) (let z : n * suc b ≡ n + n * b = omega arith in subst (λ m. k < 2 ^ m) z i) in
      let rest : r < 2 ^ (n * b) = mod_below k (2 ^ (n * b)) (pow_pos (n * b)) in
      let here = if w + 1 == 2 ^ n then found else Some (axis_of n d w, goes_up n e d w) in
      elim (finds b (next_entry n e d w) (next_direction n d w) r here (next_entry-lt n some few e d w h below) (next_direction-lt n some few d w) rest) [
        | inl last ↦ at_last b e d k found h l i below last.0 last.1
        | inr more ↦ inr record {
          before_last = subst (λ m. k + 1 < m) (sym (lane_room n b)) (room k w r (2 ^ n) (2 ^ (n * b)) below more.before_last (shr_split k (n * b)));
          a = more.a;
          up = more.up;
          is = more.is;
          moves = lifted b e d k more.a more.up more.before_last more.moves;
        }
      ]
    where
      room : (k w r m p : ℕ) → w < m → r + 1 < p → w * p + r ≡ k → k + 1 < m * p
      room k w r m p h l e = omega (arith, h, l, e, mul-le (w + 1) p m p (omega arith) (omega arith))

      end : (k w r m p : ℕ) → w + 1 ≡ m → r + 1 ≡ p → w * p + r ≡ k → k + 1 ≡ m * p
      end k w r m p h l e = omega (arith, l, e, ap (λ x. x * p) h)

      at_last : (b e d k : ℕ) (found : Option (ℕ × Bool)) → e < 2 ^ n → d < n → k < 2 ^ (n * suc b) → k / 2 ^ (n * b) < 2 ^ n
          → k % 2 ^ (n * b) + 1 ≡ 2 ^ (n * b) →
          step_found n (suc b) e d k found
          ≡ (if k / 2 ^ (n * b) + 1 == 2 ^ n then found else Some (axis_of n d (k / 2 ^ (n * b)), goes_up n e d (k / 2 ^ (n * b)))) →
          ((k + 1 ≡ 2 ^ (n * suc b)) × (step_found n (suc b) e d k found ≡ found)) ⊎ FindsStep n (suc b) e d k (step_found n (suc b) e d k found)
      at_last b e d k found h l i below full is =
          let w = k / 2 ^ (n * b) in
          let r = k % 2 ^ (n * b) in
          elim (cases_eq (w + 1) (2 ^ n)) [
            | inl last ↦ inl (
              end k w r (2 ^ n) (2 ^ (n * b)) last full (shr_split k (n * b)) ∙ sym (lane_room n b),
              is ∙ choose_equal (w + 1) (2 ^ n) found (Some (axis_of n d w, goes_up n e d w)) last,
            )
            | inr ne ↦
                (let next : w + 1 < 2 ^ n = omega arith in
                inr record {
                  before_last = subst (λ m. k + 1 < m) (sym (lane_room n b)) (inside k w r (2 ^ n) (2 ^ (n * b)) next full (shr_split k (n * b)));
                  a = axis_of n d w;
                  up = goes_up n e d w;
                  is = is ∙ choose_other (w + 1) (2 ^ n) found (Some (axis_of n d w, goes_up n e d w)) ne;
                  moves = moves_across n some few b e d k h l i full next;
                })
          ]
        where
          inside : (k w r m p : ℕ) → w + 1 < m → r + 1 ≡ p → w * p + r ≡ k → k + 1 < m * p
          inside k w r m p h l e = omega (arith, h, l, e, mul-le (w + 2) p m p (omega arith) (omega arith))
