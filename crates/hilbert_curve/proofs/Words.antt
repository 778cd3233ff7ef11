-- What the code computes by shifts, masks and products, checked number by number for each number of axes.
use Rattle.std.proofs.Common.{◌≡◌, ℕ, suc, ◌-◌, ◌*◌, ◌/◌, ◌%◌, ◌^◌, ◌<◌, ◌≤◌, get_or, Bool, true, ◌==◌, bit_and, bit_or, refl, sym, ap, subst, ◌∙◌, arith}
use Rattle.std.specs.Int as int
use Rattle.std.specs.Int.{bit_at, w8}
use Rattle.std.specs.Int.Count.{count_trailing_zeros}
use Rattle.std.specs.Int.Bits.{bit_xor}
use Rattle.std.proofs.lemmas.Bool.Decides.{nat_tests}
use Rattle.std.proofs.Math.Nat.{div-mul-le_self}
use Rattle.std.proofs.Math.Pow.{pow_mono}
use Rattle.std.proofs.lemmas.Nat.{pow_pos, mod_below, mul-le, and_mask, shl_whole}
use Rattle.hilbert_curve.specs.Axes.{holds_below, below_holds, for_axes}
use Rattle.hilbert_curve.specs.Tables.{ungray, trailing_ones}
use Rattle.hilbert_curve.specs.Curve.{rotated, lanes}
use Rattle.hilbert_curve.specs.Lanes.{lanes-lt}
use Rattle.hilbert_curve.specs.declared.lanes.TheConstants.{ONES, FACTORS}

eq_from : (a b : ℕ) → (a == b) ≡ true → a ≡ b
eq_from a b h = grind (arith, nat_tests)

-- a number turned: both ways of a shift, and the bits beyond the n masked off
abbrev pub turned_word : ℕ → ℕ → ℕ → ℕ
turned_word n t x = bit_and (bit_or (x * 2 ^ t % 65536) (x / 2 ^ (n - t))) (1 * 2 ^ n % 65536 - 1)

abbrev turns : ℕ → Bool
turns n = holds_below (λ t. holds_below (λ x. turned_word n t x == rotated n x t) (2 ^ n)) (suc n)

all_turn : (n : ℕ) → 0 < n → n ≤ 8 → turns n ≡ true
unfolding rotated
all_turn = for_axes (λ n. turns n ≡ true) refl refl refl refl refl refl refl refl

pub turned_word_is : (n x t : ℕ) → 0 < n → n ≤ 8 → t ≤ n → x < 2 ^ n → turned_word n t x ≡ rotated n x t
turned_word_is n x t some few h l =
    eq_from (turned_word n t x) (rotated n x t)
    (below_holds (λ y. turned_word n t y == rotated n y t) (2 ^ n) x
    (below_holds (λ u. holds_below (λ y. turned_word n u y == rotated n y u) (2 ^ n)) (suc n) t (all_turn n some few) (omega arith)) l)

-- a number back from its Gray code, in three shifts
abbrev pub ungray_word : ℕ → ℕ
ungray_word x =
    bit_xor (bit_xor (bit_xor x (x / 2)) (bit_xor x (x / 2) / 4)) (bit_xor (bit_xor x (x / 2)) (bit_xor x (x / 2) / 4) / 16)

all_ungray : (n : ℕ) → 0 < n → n ≤ 8 → holds_below (λ x. ungray_word x == ungray n x) (2 ^ n) ≡ true
all_ungray = for_axes (λ n. holds_below (λ x. ungray_word x == ungray n x) (2 ^ n) ≡ true) refl refl refl refl refl refl refl refl

pub ungray_word_is : (n x : ℕ) → 0 < n → n ≤ 8 → x < 2 ^ n → ungray_word x ≡ ungray n x
ungray_word_is n x some few l =
    eq_from (ungray_word x) (ungray n x) (below_holds (λ y. ungray_word y == ungray n y) (2 ^ n) x (all_ungray n some few) l)

-- the bits of a group spread to the lanes: all but the highest by a product, the highest by a shift
abbrev pub spread_word : ℕ → ℕ → ℕ
spread_word n x =
    bit_or (bit_and (bit_and x (1 * 2 ^ (n - 1) % 18446744073709551616 - 1) * get_or FACTORS n 0 % 18446744073709551616) (get_or ONES n 0))
    (x / 2 ^ (n - 1) * 2 ^ (64 / n * (n - 1)) % 18446744073709551616)

all_spread : (n : ℕ) → 0 < n → n ≤ 8 → holds_below (λ x. spread_word n x == lanes (64 / n) n (bit_at x)) (2 ^ n) ≡ true
all_spread = for_axes (λ n. holds_below (λ x. spread_word n x == lanes (64 / n) n (bit_at x)) (2 ^ n) ≡ true) refl refl refl refl refl refl refl refl

pub spread_word_is : (n x : ℕ) → 0 < n → n ≤ 8 → x < 2 ^ n → spread_word n x ≡ lanes (64 / n) n (bit_at x)
spread_word_is n x some few l =
    eq_from (spread_word n x) (lanes (64 / n) n (bit_at x))
    (below_holds (λ y. spread_word n y == lanes (64 / n) n (bit_at y)) (2 ^ n) x (all_spread n some few) l)

-- and gathered from them, by the same product
abbrev pub gathered_word : ℕ → ℕ → ℕ
gathered_word n y =
    bit_and (y * get_or FACTORS n 0 % 18446744073709551616 / 2 ^ ((64 / n - 1) * (n - 1))) (1 * 2 ^ n % 18446744073709551616 - 1)

all_gather : (n : ℕ) → 0 < n → n ≤ 8 → holds_below (λ x. gathered_word n (lanes (64 / n) n (bit_at x)) == x) (2 ^ n) ≡ true
all_gather = for_axes (λ n. holds_below (λ x. gathered_word n (lanes (64 / n) n (bit_at x)) == x) (2 ^ n) ≡ true) refl refl refl refl refl refl refl refl

pub gathered_word_is : (n x : ℕ) → 0 < n → n ≤ 8 → x < 2 ^ n → gathered_word n (lanes (64 / n) n (bit_at x)) ≡ x
gathered_word_is n x some few l =
    eq_from (gathered_word n (lanes (64 / n) n (bit_at x))) x
    (below_holds (λ y. gathered_word n (lanes (64 / n) n (bit_at y)) == y) (2 ^ n) x (all_gather n some few) l)

-- a one in each lane
pub ones_are : (n : ℕ) → 0 < n → n ≤ 8 → get_or ONES n 0 ≡ lanes (64 / n) n (λ j. 1)
ones_are = for_axes (λ n. get_or ONES n 0 ≡ lanes (64 / n) n (λ j. 1)) refl refl refl refl refl refl refl refl

-- what fits a group's mask fits a byte
mask_is : (n : ℕ) → 0 < n → n ≤ 8 → 1 * 2 ^ n % 18446744073709551616 - 1 ≡ 2 ^ n - 1
mask_is = for_axes (λ n. 1 * 2 ^ n % 18446744073709551616 - 1 ≡ 2 ^ n - 1) refl refl refl refl refl refl refl refl

pub masked : (n y : ℕ) → 0 < n → n ≤ 8 → bit_and y (1 * 2 ^ n % 18446744073709551616 - 1) ≡ y % 2 ^ n
masked n y some few = ap (bit_and y) (mask_is n some few) ∙ and_mask y n

pub masked-lt : (n y : ℕ) → 0 < n → n ≤ 8 → bit_and y (1 * 2 ^ n % 18446744073709551616 - 1) < 256
masked-lt n y some few =
    let small : y % 2 ^ n < 2 ^ n = mod_below y (2 ^ n) (pow_pos n) in
    let room : 2 ^ n ≤ 2 ^ 8 = pow_mono few in
    subst (λ x. x < 256) (sym (masked n y some few)) (omega (arith, small, room))

-- all lanes fit 64 bits
pub lanes_fit : (n j : ℕ) → 0 < n → j < n → 64 / n * suc j ≤ 64
lanes_fit n j some l = omega (arith, mul-le (64 / n) (suc j) (64 / n) n (omega arith) (omega arith), div-mul-le_self 64 n)

-- a coordinate shifted to its lane loses nothing
pub lane_shift : (n j x : ℕ) → 0 < n → j < n → x < 2 ^ (64 / n) → x * 2 ^ (64 / n * j) % 18446744073709551616 ≡ x * 2 ^ (64 / n * j)
lane_shift n j x some l h = shl_whole x (64 / n) (64 / n * j) 64 h (omega (arith, lanes_fit n j some l))

pub lanes-lt_word : (n j : ℕ) (f : ℕ → ℕ) → 0 < n → j < n → ((i : ℕ) → i < suc j → f i < 2 ^ (64 / n)) → lanes (64 / n) (suc j) f < 18446744073709551616
lanes-lt_word n j f some l h =
    let here : lanes (64 / n) (suc j) f < 2 ^ (64 / n * suc j) = lanes-lt (64 / n) (suc j) f h in
    let room : 2 ^ (64 / n * suc j) ≤ 2 ^ 64 = pow_mono (lanes_fit n j some l) in
    omega (arith, here, room)

-- the ones at the end of a byte
all_ones : holds_below (λ x. int.trailing_ones w8 x == trailing_ones x) 256 ≡ true
unfolding count_trailing_zeros
all_ones = refl

pub ones_at_end : (x : ℕ) → x < 256 → int.trailing_ones w8 x ≡ trailing_ones x
ones_at_end x l = eq_from (int.trailing_ones w8 x) (trailing_ones x) (below_holds (λ y. int.trailing_ones w8 y == trailing_ones y) 256 x all_ones l)
