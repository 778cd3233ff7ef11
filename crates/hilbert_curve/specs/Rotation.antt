-- Turning the n bits of a number: it goes back, it keeps xor, and it moves each bit by the same number of places.
use Rattle.std.proofs.Common.{◌≡◌, ℕ, ◌+◌, ◌-◌, ◌*◌, ◌/◌, ◌%◌, ◌^◌, ◌<◌, ◌≤◌, inl, inr, refl, sym, ap, subst, ◌∙◌, arith}
use Rattle.std.specs.Int.{bit_at}
use Rattle.std.specs.Int.Bits.{bit_xor, xor_mod, xor_shr, xor_block}
use Rattle.std.proofs.lemmas.Bool.{cases_lt}
use Rattle.std.proofs.lemmas.Nat.{pow_pos, pow-add, pow_below, shr-shr, shr_split, shr_below, shr_high, mod_low, mod_below, mod-mul-add, div-mul-add, div-add-mod'}
use Rattle.std.proofs.lemmas.Nat.Bits.{bit_at_cat_low, bit_at_cat_high}
use Rattle.hilbert_curve.specs.Curve.{rotated}

-- the low m bits move up by r places, and what is above them comes down
abbrev pub rotated_bits : ℕ → ℕ → ℕ → ℕ
rotated_bits m r x = x % 2 ^ m * 2 ^ r + x / 2 ^ m

pub rotated-rotated_bits : (n x t : ℕ) → rotated n x t ≡ rotated_bits (n - t % n) (t % n) x
unfolding rotated
rotated-rotated_bits n x t = refl

pub rotated_bits-lt : (m r x : ℕ) → x < 2 ^ (r + m) → rotated_bits m r x < 2 ^ (m + r)
rotated_bits-lt m r x h =
    let low : x / 2 ^ m < 2 ^ r = shr_below x r m h in
    let high : x % 2 ^ m < 2 ^ m = mod_below x (2 ^ m) (pow_pos m) in
    let whole : 2 ^ (m + r) ≡ 2 ^ m * 2 ^ r = pow-add 2 m r in
    let room : (x % 2 ^ m + 1) * 2 ^ r ≤ 2 ^ m * 2 ^ r = grind arith in
    omega (arith, low, whole, room)

pub moved_back : (m r x : ℕ) → x < 2 ^ (r + m) → rotated_bits r m (rotated_bits m r x) ≡ x
moved_back m r x h =
    let low : x / 2 ^ m < 2 ^ r = shr_below x r m h in
    let down : rotated_bits m r x / 2 ^ r ≡ x % 2 ^ m = shr_high (x % 2 ^ m) r (x / 2 ^ m) low in
    let up : rotated_bits m r x % 2 ^ r ≡ x / 2 ^ m = mod_low (x % 2 ^ m) r (x / 2 ^ m) low in
    ap (λ a. a * 2 ^ m + rotated_bits m r x / 2 ^ r) up ∙ ap (λ a. x / 2 ^ m * 2 ^ m + a) down ∙ shr_split x m

pub rotated_bits-xor : (m r x y : ℕ) → x < 2 ^ (r + m) → y < 2 ^ (r + m) → rotated_bits m r (bit_xor x y) ≡ bit_xor (rotated_bits m r x) (rotated_bits m r y)
rotated_bits-xor m r x y h k =
    ap (λ a. a * 2 ^ r + bit_xor x y / 2 ^ m) (xor_mod x y m)
    ∙ ap (λ a. bit_xor (x % 2 ^ m) (y % 2 ^ m) * 2 ^ r + a) (xor_shr x y m)
    ∙ sym (xor_block r (x % 2 ^ m) (y % 2 ^ m) (x / 2 ^ m) (y / 2 ^ m) (shr_below x r m h) (shr_below y r m k))

-- bit i goes up by r places, or down by m
pub bit_at-moved_up : (m r x i : ℕ) → x < 2 ^ (r + m) → i < m → bit_at (rotated_bits m r x) (i + r) ≡ bit_at x i
bit_at-moved_up m r x i h l =
    bit_at_cat_high (x % 2 ^ m) r (x / 2 ^ m) (i + r) (shr_below x r m h) (omega arith)
    ∙ ap (bit_at (x % 2 ^ m)) (omega arith)
    ∙ sym (bit_at_cat_low (x / 2 ^ m) m (x % 2 ^ m) i l)
    ∙ ap (λ a. bit_at a i) (shr_split x m)

pub bit_at-moved_down : (m r x i : ℕ) → m ≤ i → i < m + r → bit_at (rotated_bits m r x) (i - m) ≡ bit_at x i
bit_at-moved_down m r x i l h =
    bit_at_cat_low (x % 2 ^ m) r (x / 2 ^ m) (i - m) (omega arith)
    ∙ ap (λ a. a % 2) (shr-shr x m (i - m))
    ∙ ap (bit_at x) (omega arith)

-- a number below the divisor is its own remainder
pub small_mod : (a b : ℕ) → a < b → a % b ≡ a
small_mod a b h = let e : a ≡ 0 * b + a = omega arith in ap (λ k. k % b) e ∙ mod-mul-add 0 b a h

pub small_div : (a b : ℕ) → a < b → a / b ≡ 0
small_div a b h = let e : a ≡ 0 * b + a = omega arith in ap (λ k. k / b) e ∙ div-mul-add 0 b a h

moved_whole : (m x : ℕ) → x < 2 ^ m → rotated_bits m 0 x ≡ x
moved_whole m x h = omega (arith, small_mod x (2 ^ m) h, small_div x (2 ^ m) h)

rotated_bits-pow_up : (m r i : ℕ) → i < m → rotated_bits m r (2 ^ i) ≡ 2 ^ (i + r)
rotated_bits-pow_up m r i h =
    let small : 2 ^ i < 2 ^ m = pow_below i m h in
    ap (λ a. a * 2 ^ r + 2 ^ i / 2 ^ m) (small_mod (2 ^ i) (2 ^ m) small)
    ∙ omega (arith, small_div (2 ^ i) (2 ^ m) small, pow-add 2 i r)

rotated_bits-pow_down : (m r i : ℕ) → m ≤ i → rotated_bits m r (2 ^ i) ≡ 2 ^ (i - m)
rotated_bits-pow_down m r i h =
    let parts : 2 ^ i ≡ 2 ^ (i - m) * 2 ^ m + 0 =
    (let e : i ≡ (i - m) + m = omega arith in ap (λ k. 2 ^ k) e ∙ omega (arith, pow-add 2 (i - m) m)) in
    let low : 2 ^ i % 2 ^ m ≡ 0 = ap (λ a. a % 2 ^ m) parts ∙ mod_low (2 ^ (i - m)) m 0 (pow_pos m) in
    let high : 2 ^ i / 2 ^ m ≡ 2 ^ (i - m) = ap (λ a. a / 2 ^ m) parts ∙ shr_high (2 ^ (i - m)) m 0 (pow_pos m) in
    ap (λ a. a * 2 ^ r + 2 ^ i / 2 ^ m) low ∙ omega (arith, high)

module _ (n : ℕ) (some : 0 < n) where
  rest_lt : (t : ℕ) → t % n < n
  rest_lt t = mod_below t n some

  -- where bit i goes
  place_up : (i t : ℕ) → i + t % n < n → (i + t) % n ≡ i + t % n
  place_up i t h =
      let e : i + t ≡ t / n * n + (i + t % n) = omega (arith, div-add-mod' t n) in
      ap (λ k. k % n) e ∙ mod-mul-add (t / n) n (i + t % n) h

  place_down : (i t : ℕ) → i < n → n ≤ i + t % n → (i + t) % n ≡ i - (n - t % n)
  place_down i t l h =
      let e : i + t ≡ (t / n + 1) * n + (i - (n - t % n)) = omega (arith, div-add-mod' t n, rest_lt t) in
      ap (λ k. k % n) e ∙ mod-mul-add (t / n + 1) n (i - (n - t % n)) (omega (arith, rest_lt t))

  within : (x t : ℕ) → x < 2 ^ n → x < 2 ^ (t % n + (n - t % n))
  within x t h =
      let e : n ≡ t % n + (n - t % n) = omega (arith, rest_lt t) in
      subst (λ k. x < 2 ^ k) e h

  -- it stays within n bits
  pub rotated-lt : (x t : ℕ) → x < 2 ^ n → rotated n x t < 2 ^ n
  unfolding rotated
  rotated-lt x t h =
      let e : (n - t % n) + t % n ≡ n = omega (arith, rest_lt t) in
      subst (λ k. rotated_bits (n - t % n) (t % n) x < 2 ^ k) e (rotated_bits-lt (n - t % n) (t % n) x (within x t h))

  -- it keeps xor
  pub rotated-xor : (x y t : ℕ) → x < 2 ^ n → y < 2 ^ n → rotated n (bit_xor x y) t ≡ bit_xor (rotated n x t) (rotated n y t)
  unfolding rotated
  rotated-xor x y t h k = rotated_bits-xor (n - t % n) (t % n) x y (within x t h) (within y t k)

  -- it takes bit i to place i + t
  pub bit_at-rotated : (x t i : ℕ) → x < 2 ^ n → i < n → bit_at (rotated n x t) ((i + t) % n) ≡ bit_at x i
  unfolding rotated
  bit_at-rotated x t i h l =
      elim (cases_lt (i + t % n) n) [
        | inl up ↦ ap (bit_at (rotated_bits (n - t % n) (t % n) x)) (place_up i t up)
            ∙ bit_at-moved_up (n - t % n) (t % n) x i (within x t h) (omega (arith, rest_lt t))
        | inr down ↦ ap (bit_at (rotated_bits (n - t % n) (t % n) x)) (place_down i t l down)
            ∙ bit_at-moved_down (n - t % n) (t % n) x i (omega (arith, rest_lt t)) (omega (arith, rest_lt t))
      ]

  pub rotated-pow : (i t : ℕ) → i < n → rotated n (2 ^ i) t ≡ 2 ^ ((i + t) % n)
  unfolding rotated
  rotated-pow i t l =
      elim (cases_lt (i + t % n) n) [
        | inl up ↦ rotated_bits-pow_up (n - t % n) (t % n) i (omega (arith, rest_lt t)) ∙ ap (λ k. 2 ^ k) (sym (place_up i t up))
        | inr down ↦ rotated_bits-pow_down (n - t % n) (t % n) i (omega (arith, rest_lt t)) ∙ ap (λ k. 2 ^ k) (sym (place_down i t l down))
      ]

  -- turned on by what is left of n places, all is as it was
  back_places : (t : ℕ) → 0 < t % n → (n - t % n) % n ≡ n - t % n
  back_places t h = small_mod (n - t % n) n (omega (arith, rest_lt t))

  turned_by_none : (x t : ℕ) → x < 2 ^ n → t % n ≡ 0 → rotated n x t ≡ x
  turned_by_none x t h z =
      rotated-rotated_bits n x t ∙ ap (λ r. rotated_bits (n - r) r x) z ∙ ap (λ m. rotated_bits m 0 x) (let e : n - 0 ≡ n = omega arith in e)
      ∙ moved_whole n x h

  none_back : (t : ℕ) → t % n ≡ 0 → (n - t % n) % n ≡ 0
  none_back t z = ap (λ r. (n - r) % n) z ∙ ap (λ k. k % n) (let e : n - 0 ≡ 1 * n + 0 = omega arith in e) ∙ mod-mul-add 1 n 0 some

  turned_on : (x t : ℕ) → x < 2 ^ n → 0 < t % n → rotated n x (n - t % n) ≡ rotated_bits (t % n) (n - t % n) x
  turned_on x t h p =
      rotated-rotated_bits n x (n - t % n) ∙ ap (λ r. rotated_bits (n - r) r x) (back_places t p)
      ∙ ap (λ m. rotated_bits m (n - t % n) x) (let e : n - (n - t % n) ≡ t % n = omega (arith, rest_lt t) in e)

  pub turned_back : (x t : ℕ) → x < 2 ^ n → rotated n (rotated n x t) (n - t % n) ≡ x
  turned_back x t h =
      elim (cases_lt 0 (t % n)) [
        | inl p ↦ turned_on (rotated n x t) t (rotated-lt x t h) p
            ∙ ap (rotated_bits (t % n) (n - t % n)) (rotated-rotated_bits n x t)
            ∙ moved_back (n - t % n) (t % n) x (within x t h)
        | inr q ↦ (let z : t % n ≡ 0 = omega arith in
            turned_by_none (rotated n x t) (n - t % n) (rotated-lt x t h) (none_back t z) ∙ turned_by_none x t h z)
      ]

  pub turned_forth : (x t : ℕ) → x < 2 ^ n → rotated n (rotated n x (n - t % n)) t ≡ x
  turned_forth x t h =
      elim (cases_lt 0 (t % n)) [
        | inl p ↦ rotated-rotated_bits n (rotated n x (n - t % n)) t
            ∙ ap (rotated_bits (n - t % n) (t % n)) (turned_on x t h p)
            ∙ moved_back (t % n) (n - t % n) x (let e : t % n + (n - t % n) ≡ (n - t % n) + t % n = omega arith in subst (λ k. x < 2 ^ k) e (within x t h))
        | inr q ↦ (let z : t % n ≡ 0 = omega arith in
            turned_by_none (rotated n x (n - t % n)) t (rotated-lt x (n - t % n) h) z ∙ turned_by_none x (n - t % n) h (none_back t z))
      ]

  -- turned back from a direction: the places that are left
  pub turned_off_by : (x d : ℕ) → d < n → rotated n x (n - 1 - d) ≡ rotated n x (n - (d + 1) % n)
  turned_off_by x d h =
      elim (cases_lt (d + 1) n) [
        | inl l ↦ ap (rotated n x) (let e : n - 1 - d ≡ n - (d + 1) = omega arith in e) ∙ ap (λ r. rotated n x (n - r)) (sym (small_mod (d + 1) n l))
        | inr q ↦
            (let full : d + 1 ≡ 1 * n + 0 = omega arith in
            let none : (d + 1) % n ≡ 0 = ap (λ k. k % n) full ∙ mod-mul-add 1 n 0 some in
            let at_zero : n - 1 - d ≡ 0 = omega arith in
            let whole : n % n ≡ 0 = ap (λ k. k % n) (let e : n ≡ 1 * n + 0 = omega arith in e) ∙ mod-mul-add 1 n 0 some in
            ap (rotated n x) at_zero
            ∙ rotated-rotated_bits n x 0 ∙ ap (λ r. rotated_bits (n - r) r x) (small_mod 0 n some ∙ sym whole) ∙ sym (rotated-rotated_bits n x n)
            ∙ ap (rotated n x) (let e : n ≡ n - 0 = omega arith in e) ∙ ap (λ r. rotated n x (n - r)) (sym none))
      ]
