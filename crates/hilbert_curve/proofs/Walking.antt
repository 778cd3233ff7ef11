-- One iteration of each of the three loops: what was walked and what is left keep their sum.
use Rattle.std.proofs.Common.{◌≡◌, ℕ, zero, suc, ◌+◌, ◌-◌, ◌*◌, ◌/◌, ◌%◌, ◌^◌, ◌<◌, ◌≤◌, List, get_or, map, Bool, ◌==◌, if◌then◌else◌, bit_and, Option, Some, refl, sym, ap, subst, ◌∙◌, arith}
use Rattle.std.specs.Int.{bit_at}
use Rattle.std.specs.List.{range_with_len}
use Rattle.std.proofs.Math.Nat.{div-mul-le_self}
use Rattle.std.proofs.Math.Pow.{pow_mono}
use Rattle.std.proofs.lemmas.Nat.{pow_pos, mul-le, le-div, mod_low, mod_below, mod-pow-add, field_of}
use Rattle.std.proofs.lemmas.Nat.Bits.{shr_and_one}
use Rattle.std.proofs.lemmas.List.{ext_get_or}
use Rattle.std.proofs.lemmas.List.FromFn.{length-map-range_with_len, get_or-map-range_with_len}
use Rattle.hilbert_curve.specs.Curve.{cell_bits, next_entry, next_direction, coordinate, lanes, group_of, key_from, hilbert_cell, hilbert_key}
use Rattle.hilbert_curve.specs.Rotation.{small_mod}
use Rattle.hilbert_curve.specs.Lanes.{lanes-lt, lanes-double, lane_room, lane_read}
use Rattle.hilbert_curve.specs.WalkLaws.{coordinate_by, coordinate-lt, twice_pow, key_from-lt}
use Rattle.hilbert_curve.specs.StepLaws.{axis_of, step_found, choose_other}
use Rattle.hilbert_curve.specs.Tables.{trailing_ones}

-- the coordinates of what is left of a key, side by side
unfoldable pub cell_lanes : ℕ → ℕ → ℕ → ℕ → ℕ → ℕ
cell_lanes n t e d k = lanes (64 / n) n (λ j. coordinate n j t e d k)

-- the key of what is left of a cell
unfoldable pub key_left : ℕ → List ℕ → ℕ → ℕ → ℕ → ℕ
key_left n v t e d = key_from n (λ j. get_or v j 0) t e d

-- the lowest bits of the lowest bits
pub low_low : (y a b : ℕ) → y % 2 ^ (a + b) % 2 ^ b ≡ y % 2 ^ b
low_low y a b = ap (λ k. k % 2 ^ b) (mod-pow-add y a b) ∙ mod_low (y / 2 ^ b % 2 ^ a) b (y % 2 ^ b) (mod_below y (2 ^ b) (pow_pos b))

more_groups : (n u : ℕ) → n * suc u ≡ n + n * u
more_groups n u = omega arith

-- the highest group of the lowest u + 1, and the rest
top_group : (n u k : ℕ) → k % 2 ^ (n * suc u) / 2 ^ (n * u) ≡ k / 2 ^ (n * u) % 2 ^ n
top_group n u k = ap (λ m. k % 2 ^ m / 2 ^ (n * u)) (more_groups n u) ∙ field_of k n (n * u)

low_groups : (n u k : ℕ) → k % 2 ^ (n * suc u) % 2 ^ (n * u) ≡ k % 2 ^ (n * u)
low_groups n u k = ap (λ m. k % 2 ^ m % 2 ^ (n * u)) (more_groups n u) ∙ low_low k n (n * u)

-- a step of the cells
cell_step : (n u e d k : ℕ) → cell_lanes n (suc u) e d (k % 2 ^ (n * suc u))
    ≡ lanes (64 / n) n (bit_at (cell_bits n e d (k / 2 ^ (n * u) % 2 ^ n))) * 2 ^ u
    + cell_lanes n u (next_entry n e d (k / 2 ^ (n * u) % 2 ^ n)) (next_direction n d (k / 2 ^ (n * u) % 2 ^ n)) (k % 2 ^ (n * u))
unfolding cell_lanes
cell_step n u e d k =
    ap (λ w. lanes (64 / n) n (λ j. coordinate_by n j u e d w (k % 2 ^ (n * suc u) % 2 ^ (n * u)))) (top_group n u k)
    ∙ ap (λ r. lanes (64 / n) n (λ j. coordinate_by n j u e d (k / 2 ^ (n * u) % 2 ^ n) r)) (low_groups n u k)
    ∙ lanes-double (64 / n) n (bit_at (cell_bits n e d (k / 2 ^ (n * u) % 2 ^ n)))
    (λ j. coordinate n j u (next_entry n e d (k / 2 ^ (n * u) % 2 ^ n)) (next_direction n d (k / 2 ^ (n * u) % 2 ^ n)) (k % 2 ^ (n * u))) (2 ^ u)

pub cell_next : (n u e d k all total w x s e' d' : ℕ) → w ≡ k / 2 ^ (n * u) % 2 ^ n → x ≡ cell_bits n e d w → s ≡ lanes (64 / n) n (bit_at x)
    → e' ≡ next_entry n e d w → d' ≡ next_direction n d w
    → all * 2 ^ suc u + cell_lanes n (suc u) e d (k % 2 ^ (n * suc u)) ≡ total
    → (2 * all + s) * 2 ^ u + cell_lanes n u e' d' (k % 2 ^ (n * u)) ≡ total
cell_next n u e d k all total w x s e' d' hw hx hs he hd before =
    let q = k / 2 ^ (n * u) % 2 ^ n in
    let spread : s ≡ lanes (64 / n) n (bit_at (cell_bits n e d q)) = hs ∙ ap (λ y. lanes (64 / n) n (bit_at y)) (hx ∙ ap (cell_bits n e d) hw) in
    let left : cell_lanes n u e' d' (k % 2 ^ (n * u)) ≡ cell_lanes n u (next_entry n e d q) (next_direction n d q) (k % 2 ^ (n * u)) =
    ap (λ y. cell_lanes n u y d' (k % 2 ^ (n * u))) (he ∙ ap (next_entry n e d) hw)
    ∙ ap (λ y. cell_lanes n u (next_entry n e d q) y (k % 2 ^ (n * u))) (hd ∙ ap (next_direction n d) hw) in
    ap (λ y. (2 * all + y) * 2 ^ u + cell_lanes n u e' d' (k % 2 ^ (n * u))) spread
    ∙ ap (λ y. (2 * all + lanes (64 / n) n (bit_at (cell_bits n e d q))) * 2 ^ u + y) left
    ∙ regroup all (lanes (64 / n) n (bit_at (cell_bits n e d q))) (2 ^ u) (2 ^ suc u)
    (cell_lanes n u (next_entry n e d q) (next_direction n d q) (k % 2 ^ (n * u))) (twice_pow u)
    ∙ sym (ap (λ y. all * 2 ^ suc u + y) (cell_step n u e d k)) ∙ before
  where
    regroup : (a s p q r : ℕ) → q ≡ 2 * p → (2 * a + s) * p + r ≡ a * q + (s * p + r)
    regroup a s p q r h = ap (λ y. y) (omega arith) ∙ sym (ap (λ y. a * y + (s * p + r)) h)

-- what was walked is no more than all of it
pub at_most : (a p r total : ℕ) → 0 < p → a * p + r ≡ total → a ≤ total
at_most a p r total h e = omega (arith, e, mul-le a 1 a p (omega arith) (omega arith))

pub cell_lanes-lt : (n b k : ℕ) → 0 < n → n * b ≤ 64 → cell_lanes n b 0 0 k < 18446744073709551616
unfolding cell_lanes
cell_lanes-lt n b k some fits =
    let narrow : b ≤ 64 / n = le-div b 64 n some (omega (arith, fits)) in
    let lane : 2 ^ b ≤ 2 ^ (64 / n) = pow_mono narrow in
    let below : lanes (64 / n) n (λ j. coordinate n j b 0 0 k) < 2 ^ (64 / n * n) =
    lanes-lt (64 / n) n (λ j. coordinate n j b 0 0 k) (λ j l. omega (arith, lane, coordinate-lt n j b 0 0 k)) in
    let room : 2 ^ (64 / n * n) ≤ 2 ^ 64 = pow_mono (div-mul-le_self 64 n) in
    omega (arith, below, room)

lanes_of_none : (s n : ℕ) → lanes s n (λ j. 0) ≡ 0
lanes_of_none s zero = refl
lanes_of_none s (suc n) = omega (arith, lanes_of_none s n)

pub cell_lanes_done : (n e d k : ℕ) → cell_lanes n 0 e d k ≡ 0
unfolding cell_lanes
cell_lanes_done n e d k = lanes_of_none (64 / n) n

same_maps : (n : ℕ) (f g : ℕ → ℕ) → ((j : ℕ) → j < n → f j ≡ g j) → map f (range_with_len 0 n) ≡ map g (range_with_len 0 n)
same_maps n f g h =
    ext_get_or 0 (map f (range_with_len 0 n)) (map g (range_with_len 0 n)) (length-map-range_with_len f 0 n ∙ sym (length-map-range_with_len g 0 n))
    (λ j l.
    let inside : j < n = subst (λ m. j < m) (length-map-range_with_len f 0 n) l in
    get_or-map-range_with_len f 0 n j j 0 inside (omega arith) ∙ h j inside ∙ sym (get_or-map-range_with_len g 0 n j j 0 inside (omega arith)))

-- each coordinate read from its lane
pub cell_read : (n b k all : ℕ) → 0 < n → n * b ≤ 64 → all ≡ cell_lanes n b 0 0 k →
    map (λ j. all / 2 ^ (64 / n * j) % 2 ^ b) (range_with_len 0 n) ≡ hilbert_cell n b k
unfolding cell_lanes hilbert_cell
cell_read n b k all some fits is =
    let narrow : b ≤ 64 / n = le-div b 64 n some (omega (arith, fits)) in
    let lane : 2 ^ b ≤ 2 ^ (64 / n) = pow_mono narrow in
    let parts : 64 / n ≡ (64 / n - b) + b = omega (arith, narrow) in
    same_maps n (λ j. all / 2 ^ (64 / n * j) % 2 ^ b) (λ j. coordinate n j b 0 0 k)
    (λ j l.
    sym (low_low (all / 2 ^ (64 / n * j)) (64 / n - b) b)
    ∙ ap (λ m. all / 2 ^ (64 / n * j) % 2 ^ m % 2 ^ b) (sym parts)
    ∙ ap (λ y. y / 2 ^ (64 / n * j) % 2 ^ (64 / n) % 2 ^ b) is
    ∙ ap (λ y. y % 2 ^ b) (lane_read (64 / n) n (λ i. coordinate n i b 0 0 k) j (λ i m. omega (arith, lane, coordinate-lt n i b 0 0 k)) l)
    ∙ small_mod (coordinate n j b 0 0 k) (2 ^ b) (coordinate-lt n j b 0 0 k))

-- a step of the keys
pub key_next : (n u e d key total x w e' d' : ℕ) (v : List ℕ) → x ≡ lanes 1 n (λ j. bit_at (get_or v j 0) u) → w ≡ group_of n e d x
    → e' ≡ next_entry n e d w → d' ≡ next_direction n d w
    → key * 2 ^ (n * suc u) + key_left n v (suc u) e d ≡ total
    → (key * 2 ^ n + w) * 2 ^ (n * u) + key_left n v u e' d' ≡ total
unfolding key_left
key_next n u e d key total x w e' d' v hx hw he hd before =
    let q = group_of n e d (lanes 1 n (λ j. bit_at (get_or v j 0) u)) in
    let group : w ≡ q = hw ∙ ap (group_of n e d) hx in
    let left : key_from n (λ j. get_or v j 0) u e' d' ≡ key_from n (λ j. get_or v j 0) u (next_entry n e d q) (next_direction n d q) =
    ap (λ y. key_from n (λ j. get_or v j 0) u y d') (he ∙ ap (next_entry n e d) group)
    ∙ ap (λ y. key_from n (λ j. get_or v j 0) u (next_entry n e d q) y) (hd ∙ ap (next_direction n d) group) in
    ap (λ y. (key * 2 ^ n + y) * 2 ^ (n * u) + key_from n (λ j. get_or v j 0) u e' d') group
    ∙ ap (λ y. (key * 2 ^ n + q) * 2 ^ (n * u) + y) left
    ∙ regroup key q (2 ^ n) (2 ^ (n * u)) (2 ^ (n * suc u)) (key_from n (λ j. get_or v j 0) u (next_entry n e d q) (next_direction n d q)) (lane_room n u)
    ∙ before
  where
    regroup : (a w m p q r : ℕ) → q ≡ m * p → (a * m + w) * p + r ≡ a * q + (w * p + r)
    regroup a w m p q r h = ap (λ y. y) (omega arith) ∙ sym (ap (λ y. a * y + (w * p + r)) h)

pub key_left-lt : (n b : ℕ) (v : List ℕ) → 0 < n → n ≤ 8 → n * b ≤ 64 → key_left n v b 0 0 < 18446744073709551616
unfolding key_left
key_left-lt n b v some few fits =
    let below = key_from-lt n some few (λ j. get_or v j 0) b 0 0 (pow_pos n) in
    let room : 2 ^ (n * b) ≤ 2 ^ 64 = pow_mono fits in
    omega (arith, below, room)

-- a step of the search for the lowest group that isn't the last
pub step_next : (n u e d k w x e' d' : ℕ) (found next total : Option (ℕ × Bool)) → w ≡ k / 2 ^ (n * u) % 2 ^ n → x ≡ cell_bits n e d w
    → next ≡ (if w + 1 == 2 ^ n then found else Some (axis_of n d w, bit_at x (axis_of n d w) == 0))
    → e' ≡ next_entry n e d w → d' ≡ next_direction n d w
    → step_found n (suc u) e d (k % 2 ^ (n * suc u)) found ≡ total
    → step_found n u e' d' (k % 2 ^ (n * u)) next ≡ total
step_next n u e d k w x e' d' found next total hw hx hn he hd before =
    let q = k / 2 ^ (n * u) % 2 ^ n in
    let at : ℕ → ℕ → Option (ℕ × Bool) = λ y r. step_found n u (next_entry n e d y) (next_direction n d y) r
    (if y + 1 == 2 ^ n then found else Some (axis_of n d y, bit_at (cell_bits n e d y) (axis_of n d y) == 0)) in
    ap (λ y. step_found n u y d' (k % 2 ^ (n * u)) next) he
    ∙ ap (λ y. step_found n u (next_entry n e d w) y (k % 2 ^ (n * u)) next) hd
    ∙ ap (step_found n u (next_entry n e d w) (next_direction n d w) (k % 2 ^ (n * u)))
    (hn ∙ ap (λ y. if w + 1 == 2 ^ n then found else Some (axis_of n d w, bit_at y (axis_of n d w) == 0)) hx)
    ∙ ap (λ y. at y (k % 2 ^ (n * u))) hw
    ∙ sym (ap (λ y. at y (k % 2 ^ (n * suc u) % 2 ^ (n * u))) (top_group n u k) ∙ ap (at q) (low_groups n u k))
    ∙ before

pub left_is_key : (n : ℕ) (v : List ℕ) (b e d key : ℕ) → key * 2 ^ (n * 0) + key_left n v 0 e d ≡ key_left n v b 0 0 → key ≡ hilbert_key n b v
unfolding key_left hilbert_key
left_is_key n v b e d key h =
    let none : n * 0 ≡ 0 = omega arith in
    let one : key * 2 ^ (n * 0) ≡ key = ap (λ m. key * 2 ^ m) none ∙ omega arith in
    omega (arith, one, h)

-- the step from a group that isn't the last, as the code has it
pub step_here : (n d w x t : ℕ) (found : Option (ℕ × Bool)) → t ≡ trailing_ones w → (w + 1 ≡ 2 ^ n → ⊥)
    → Some ((t + d + 1) % n, bit_and (x / 2 ^ ((t + d + 1) % n)) 1 == 0)
    ≡ (if w + 1 == 2 ^ n then found else Some (axis_of n d w, bit_at x (axis_of n d w) == 0))
step_here n d w x t found e ne =
    ap (λ y. Some ((y + d + 1) % n, bit_and (x / 2 ^ ((y + d + 1) % n)) 1 == 0)) e
    ∙ ap (λ y. Some (axis_of n d w, y == 0)) (shr_and_one x (axis_of n d w))
    ∙ sym (choose_other (w + 1) (2 ^ n) found (Some (axis_of n d w, bit_at x (axis_of n d w) == 0)) ne)
