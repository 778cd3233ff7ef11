-- A step that cuts pieces in two, and the step back.
use Rattle.std.proofs.Common.{◌≡◌, ℕ, zero, suc, ◌+◌, ◌-◌, ◌*◌, ◌/◌, ◌%◌, ◌^◌, ◌<◌, ◌≤◌, cond, bit_and, bit_or, refl, sym, ap, subst, ◌∙◌, inl, inr, arith}
use Rattle.std.proofs.lemmas.Nat.{pow_pos, pow-add, and_mask, mod_low, mul-le}
use Rattle.std.specs.Int.Bits.{or_self}
use Rattle.std.proofs.lemmas.Bool.{cases_lt, lt-ltb, le-ltb}
use Rattle.std.proofs.Math.Nat.{pow-le-pow_right}
use Rattle.z_curve.specs.Spacing.{most_bits, pieces, cut_to, shift_of, mask_of}
use Rattle.z_curve.specs.ZOrder.{gathered}
use Rattle.z_curve.specs.ZLaws.{gathered-below}
use Rattle.z_curve.proofs.Pieces.{or_within, cut, joint, pieces-small, pieces-touch, first_mask, gathered-mod}

-- a mask of w bits leaves what has no more
all_bits : (x w : ℕ) → x < 2 ^ w → bit_and x (2 ^ w - 1) ≡ x
all_bits x w small =
    let alone : 0 * 2 ^ w + x ≡ x = omega arith in
    and_mask x w ∙ ap (λ t. t % 2 ^ w) (sym alone) ∙ mod_low 0 w x small

-- the moves of one step are its pieces' bits for each further coordinate
distance : (n p shift : ℕ) → 2 ≤ n → shift ≡ (n - 1) * p → n * p ≡ shift + p
distance n p shift many moved =
    let one_more : n ≡ (n - 1) + 1 = omega arith in
    let counted : n * p ≡ ((n - 1) + 1) * p = ap (λ t. t * p) one_more in
    omega arith

distance_wide : (n p shift : ℕ) → 2 ≤ n → shift ≡ (n - 1) * p → p ≤ shift
distance_wide n p shift many moved =
    let others : 1 ≤ n - 1 = omega arith in
    let product : 1 * p ≤ (n - 1) * p = mul-le 1 p (n - 1) p others (omega arith) in
    omega arith

-- ---- a step that moves

cut_step : (n p j x w shift mask : ℕ) → 2 ≤ n → x < 2 ^ w → shift ≡ (n - 1) * p → mask ≡ pieces p (n * p) (j + j) (2 ^ w - 1) → mask < 2 ^ 64 →
    bit_and (bit_or (pieces (p + p) (n * p + n * p) j x) (pieces (p + p) (n * p + n * p) j x * 2 ^ shift % 2 ^ 64)) mask ≡ pieces p (n * p) (j + j) x
cut_step n p j x w shift mask many small moved masked within =
    or_within (pieces (p + p) (n * p + n * p) j x) (pieces (p + p) (n * p + n * p) j x * 2 ^ shift) mask 64 within
    ∙ ap (λ t. bit_and (bit_or (pieces (p + p) (n * p + n * p) j x) (pieces (p + p) (n * p + n * p) j x * 2 ^ shift)) t) masked
    ∙ cut p shift (n * p) j (j + j) x (2 ^ w - 1) (distance n p shift many moved) (distance_wide n p shift many moved) refl
    ∙ ap (λ t. pieces p (n * p) (j + j) t) (all_bits x w small)

joint_step : (n p j x w shift mask : ℕ) → 2 ≤ n → x < 2 ^ w → shift ≡ (n - 1) * p → mask ≡ pieces (p + p) (n * p + n * p) j (2 ^ w - 1) →
    bit_and (bit_or (pieces p (n * p) (j + j) x) (pieces p (n * p) (j + j) x / 2 ^ shift)) mask ≡ pieces (p + p) (n * p + n * p) j x
joint_step n p j x w shift mask many small moved masked =
    let wide : p ≤ shift = distance_wide n p shift many moved in
    let room : shift ≡ p + (shift - p) = omega arith in
    ap (λ t. bit_and (bit_or (pieces p (n * p) (j + j) x) (pieces p (n * p) (j + j) x / 2 ^ shift)) t) masked
    ∙ joint p (shift - p) shift (n * p) j (j + j) x (2 ^ w - 1) room (distance n p shift many moved) refl
    ∙ ap (λ t. pieces (p + p) (n * p + n * p) j t) (all_bits x w small)

-- ---- a step that finds one piece

still_cut : (x w : ℕ) → x < 2 ^ w → w ≤ 64 → bit_and (bit_or x (x * 2 ^ 0 % 2 ^ 64)) (2 ^ w - 1) ≡ x
still_cut x w small few =
    let wide : 2 ^ w ≤ 2 ^ 64 = pow-le-pow_right {n = 2} (omega arith) few in
    let alone : 0 * 2 ^ 64 + x ≡ x * 2 ^ 0 = omega arith in
    let whole : x * 2 ^ 0 % 2 ^ 64 ≡ x = ap (λ t. t % 2 ^ 64) (sym alone) ∙ mod_low 0 64 x (omega arith) in
    ap (λ t. bit_and (bit_or x t) (2 ^ w - 1)) whole ∙ ap (λ t. bit_and t (2 ^ w - 1)) (or_self x) ∙ all_bits x w small

still_joint : (x w : ℕ) → x < 2 ^ w → bit_and (bit_or x (x / 2 ^ 0)) (2 ^ w - 1) ≡ x
still_joint x w small =
    let whole : x / 2 ^ 0 ≡ x = omega arith in
    ap (λ t. bit_and (bit_or x t) (2 ^ w - 1)) whole ∙ ap (λ t. bit_and t (2 ^ w - 1)) (or_self x) ∙ all_bits x w small

-- ---- the pieces before and after a step

-- a step halves the pieces
before : (n i x : ℕ) → i < 5 → cut_to n i x ≡ pieces (2 ^ (4 - i) + 2 ^ (4 - i)) (n * 2 ^ (4 - i) + n * 2 ^ (4 - i)) (2 ^ i) x
before n i x early =
    let count : 5 - i ≡ 1 + (4 - i) = omega arith in
    let size : 2 ^ (5 - i) ≡ 2 ^ (4 - i) + 2 ^ (4 - i) = ap (λ t. 2 ^ t) count ∙ pow-add 2 1 (4 - i) ∙ omega arith in
    let places : n * (2 ^ (4 - i) + 2 ^ (4 - i)) ≡ n * 2 ^ (4 - i) + n * 2 ^ (4 - i) = omega arith in
    ap (λ t. pieces t (n * t) (2 ^ i) x) size ∙ ap (λ t. pieces (2 ^ (4 - i) + 2 ^ (4 - i)) t (2 ^ i) x) places

after : (n i x : ℕ) → i < 5 → cut_to n (i + 1) x ≡ pieces (2 ^ (4 - i)) (n * 2 ^ (4 - i)) (2 ^ i + 2 ^ i) x
after n i x early =
    let level : 5 - (i + 1) ≡ 4 - i = omega arith in
    let count : 2 ^ (i + 1) ≡ 2 ^ i + 2 ^ i = pow-add 2 i 1 ∙ omega arith in
    ap (λ t. pieces (2 ^ t) (n * 2 ^ t) (2 ^ (i + 1)) x) level ∙ ap (λ t. pieces (2 ^ (4 - i)) (n * 2 ^ (4 - i)) t x) count

-- what has no more bits than a piece is one piece
one_piece : (n i w x : ℕ) → w ≤ 2 ^ (5 - i) → x < 2 ^ w → cut_to n i x ≡ x
one_piece n i w x few small =
    let wide : 2 ^ w ≤ 2 ^ (2 ^ (5 - i)) = pow-le-pow_right {n = 2} (omega arith) few in
    pieces-small (2 ^ (5 - i)) (n * 2 ^ (5 - i)) (2 ^ i) x (pow_pos i) (omega (arith, wide, small))

-- one coordinate isn't cut
one_coordinate : (i x : ℕ) → i ≤ 5 → x < 2 ^ 32 → cut_to 1 i x ≡ x
one_coordinate i x early small =
    let touch : 1 * 2 ^ (5 - i) ≡ 2 ^ (5 - i) = omega arith in
    let level : i + (5 - i) ≡ 5 = omega arith in
    let count : 2 ^ i * 2 ^ (5 - i) ≡ 32 = sym (pow-add 2 i (5 - i)) ∙ ap (λ t. 2 ^ t) level in
    let alone : 0 * 2 ^ 32 + x ≡ x = omega arith in
    ap (λ t. pieces (2 ^ (5 - i)) t (2 ^ i) x) touch ∙ pieces-touch (2 ^ (5 - i)) (2 ^ i) x ∙ ap (λ t. x % 2 ^ t) count
    ∙ ap (λ t. t % 2 ^ 32) (sym alone) ∙ mod_low 0 32 x small

-- ---- the step of the table

shift_moved : (n i : ℕ) → 2 ^ (4 - i) < most_bits n → shift_of n i ≡ (n - 1) * 2 ^ (4 - i)
shift_moved n i h = ap (λ t. cond t ((n - 1) * 2 ^ (4 - i)) 0) (lt-ltb (2 ^ (4 - i)) (most_bits n) h)

shift_still : (n i : ℕ) → most_bits n ≤ 2 ^ (4 - i) → shift_of n i ≡ 0
shift_still n i h = ap (λ t. cond t ((n - 1) * 2 ^ (4 - i)) 0) (le-ltb (2 ^ (4 - i)) (most_bits n) h)

-- one bit less than the next power
ones_below : (w : ℕ) → 2 ^ w - 1 < 2 ^ w
ones_below w = omega (arith, pow_pos w)

-- a coordinate has at most 32 bits
most_bits-le : (n : ℕ) → most_bits n ≤ 32
most_bits-le n = omega arith

-- the pieces get smaller
pieces_fall : (i : ℕ) → i < 5 → 2 ^ (4 - i) ≤ 2 ^ (5 - i)
pieces_fall i early = pow-le-pow_right {n = 2} (omega arith) (omega arith)

-- A step of the table either moves, for some coordinates whose bits are more than a piece's, or finds
-- one piece
pub data IsStep (n i shift : ℕ) : Type 0 where
  Moves : 2 ≤ n → shift ≡ (n - 1) * 2 ^ (4 - i) → IsStep n i shift
  Stands : shift ≡ 0 → ((x : ℕ) → x < 2 ^ most_bits n → (cut_to n i x ≡ x) × (cut_to n (i + 1) x ≡ x)) → IsStep n i shift

narrow_step : (n i : ℕ) → i < 5 → most_bits n ≤ 2 ^ (4 - i) → IsStep n i (shift_of n i)
narrow_step n i early narrow =
    let level : 5 - (i + 1) ≡ 4 - i = omega arith in
    let next : most_bits n ≤ 2 ^ (5 - (i + 1)) = rw level narrow in
    let fall : 2 ^ (4 - i) ≤ 2 ^ (5 - i) = pieces_fall i early in
    Stands (shift_still n i narrow) (λ x small. (one_piece n i (most_bits n) x (omega arith) small, one_piece n (i + 1) (most_bits n) x next small))

one_step : (i shift : ℕ) → i < 5 → shift ≡ 0 → IsStep 1 i shift
one_step i shift early none = Stands none (λ x small. (one_coordinate i x (omega arith) small, one_coordinate (i + 1) x (omega arith) small))

wide_step : (n i : ℕ) → 1 ≤ n → i < 5 → 2 ^ (4 - i) < most_bits n → IsStep n i (shift_of n i)
wide_step zero i some early wide = absurd (omega arith)
wide_step (suc zero) i some early wide = one_step i (shift_of 1 i) early (shift_moved 1 i wide ∙ omega arith)
wide_step (suc (suc n)) i some early wide = Moves (omega arith) (shift_moved (suc (suc n)) i wide)

any_step : (n i : ℕ) → 1 ≤ n → i < 5 → IsStep n i (shift_of n i)
any_step n i some early = elim (cases_lt (2 ^ (4 - i)) (most_bits n)) [
  | inl wide ↦ wide_step n i some early wide
  | inr narrow ↦ narrow_step n i early narrow
]

spread_by : (n i x shift mask : ℕ) → i < 5 → x < 2 ^ most_bits n → IsStep n i shift → mask ≡ mask_of n (i + 1) → mask < 2 ^ 64 →
    bit_and (bit_or (cut_to n i x) (cut_to n i x * 2 ^ shift % 2 ^ 64)) mask ≡ cut_to n (i + 1) x
spread_by n i x shift mask early small (Moves many moved) masked within =
    rw (before n i x early, after n i x early)
    (cut_step n (2 ^ (4 - i)) (2 ^ i) x (most_bits n) shift mask many small moved (masked ∙ after n i (2 ^ most_bits n - 1) early) within)
spread_by n i x shift mask early small (Stands still whole) masked within =
    let ones : mask ≡ 2 ^ most_bits n - 1 = masked ∙ (whole (2 ^ most_bits n - 1) (ones_below (most_bits n))).1 in
    rw ((whole x small).0, (whole x small).1, still, ones) (still_cut x (most_bits n) small (omega (arith, most_bits-le n)))

gather_by : (n i x shift mask : ℕ) → i < 5 → x < 2 ^ most_bits n → IsStep n i shift → mask ≡ mask_of n i →
    bit_and (bit_or (cut_to n (i + 1) x) (cut_to n (i + 1) x / 2 ^ shift)) mask ≡ cut_to n i x
gather_by n i x shift mask early small (Moves many moved) masked =
    rw (before n i x early, after n i x early)
    (joint_step n (2 ^ (4 - i)) (2 ^ i) x (most_bits n) shift mask many small moved (masked ∙ before n i (2 ^ most_bits n - 1) early))
gather_by n i x shift mask early small (Stands still whole) masked =
    let ones : mask ≡ 2 ^ most_bits n - 1 = masked ∙ (whole (2 ^ most_bits n - 1) (ones_below (most_bits n))).0 in
    rw ((whole x small).0, (whole x small).1, still, ones) (still_joint x (most_bits n) small)

pub spread_step : (n i x shift mask : ℕ) → 1 ≤ n → i < 5 → x < 2 ^ most_bits n → shift ≡ shift_of n i → mask ≡ mask_of n (i + 1) → mask < 2 ^ 64 →
    bit_and (bit_or (cut_to n i x) (cut_to n i x * 2 ^ shift % 2 ^ 64)) mask ≡ cut_to n (i + 1) x
spread_step n i x shift mask some early small moved masked within =
    spread_by n i x shift mask early small (subst (λ t. IsStep n i t) (sym moved) (any_step n i some early)) masked within

pub gather_step : (n i x shift mask : ℕ) → 1 ≤ n → i < 5 → x < 2 ^ most_bits n → shift ≡ shift_of n i → mask ≡ mask_of n i →
    bit_and (bit_or (cut_to n (i + 1) x) (cut_to n (i + 1) x / 2 ^ shift)) mask ≡ cut_to n i x
gather_step n i x shift mask some early small moved masked =
    gather_by n i x shift mask early small (subst (λ t. IsStep n i t) (sym moved) (any_step n i some early)) masked

-- ---- the ends

-- before the first step the number is one piece
pub whole_before : (n x : ℕ) → x < 2 ^ 32 → cut_to n 0 x ≡ x
whole_before n x small = pieces-small 32 (n * 32) 1 x (omega arith) small

-- after the last step the bits are alone
pub bits_before : (n k : ℕ) → 1 ≤ n → bit_and k (mask_of n 5) ≡ cut_to n 5 (gathered n (most_bits n) k)
bits_before n k some =
    let places : n * 1 ≡ n = omega arith in
    let rest : most_bits n + (32 - most_bits n) ≡ 32 = omega (arith, most_bits-le n) in
    let few : bit_and (gathered n 32 k) (2 ^ most_bits n - 1) ≡ gathered n (most_bits n) k =
    and_mask (gathered n 32 k) (most_bits n) ∙ ap (λ t. gathered n t k % 2 ^ most_bits n) (sym rest) ∙ gathered-mod n (most_bits n) (32 - most_bits n) k in
    ap (λ t. bit_and k (pieces 1 t 32 (2 ^ most_bits n - 1))) places ∙ first_mask n 32 k (2 ^ most_bits n - 1) some
    ∙ ap (λ t. pieces 1 n 32 t) few ∙ ap (λ t. pieces 1 t 32 (gathered n (most_bits n) k)) (sym places)

-- a gathered number has 32 bits
pub small_gathered : (n k : ℕ) → gathered n (most_bits n) k < 2 ^ 32
small_gathered n k =
    let wide : 2 ^ most_bits n ≤ 2 ^ 32 = pow-le-pow_right {n = 2} (omega arith) (most_bits-le n) in
    omega (arith, wide, gathered-below n (most_bits n) k)
