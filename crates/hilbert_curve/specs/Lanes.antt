-- Numbers side by side in one: each is read back, and each bit of them too.
use Rattle.std.proofs.Common.{◌≡◌, ℕ, zero, suc, ◌+◌, ◌-◌, ◌*◌, ◌/◌, ◌%◌, ◌^◌, ◌<◌, ◌≤◌, inl, inr, refl, sym, ap, subst, ◌∙◌, arith}
use Rattle.std.specs.Int.{bit_at}
use Rattle.std.specs.Int.Bits.{bit_and, and_block, and_shr}
use Rattle.std.proofs.lemmas.Bool.{cases_eq}
use Rattle.std.proofs.lemmas.Nat.{pow_pos, pow-add, pow_below, shl-shr, shr_high}
use Rattle.std.proofs.lemmas.Nat.Bits.{bit_at-lt, and_pow, same_from_bits_below}
use Rattle.std.proofs.Math.Nat.{mul-add-div_right, mul-add-mod_self_right}
use Rattle.hilbert_curve.specs.Curve.{lanes}
use Rattle.hilbert_curve.specs.Rotation.{small_mod}

-- the same numbers, the same lanes
pub lanes_same : (s n : ℕ) (f g : ℕ → ℕ) → ((j : ℕ) → j < n → f j ≡ g j) → lanes s n f ≡ lanes s n g
lanes_same s zero f g h = refl
lanes_same s (suc n) f g h =
    ap (λ a. a * 2 ^ (s * n) + lanes s n f) (h n (omega arith))
    ∙ ap (λ a. g n * 2 ^ (s * n) + a) (lanes_same s n f g (λ j l. h j (omega arith)))

-- one more lane's room
pub lane_room : (s n : ℕ) → 2 ^ (s * suc n) ≡ 2 ^ s * 2 ^ (s * n)
lane_room s n = let e : s * suc n ≡ s + s * n = omega arith in ap (λ k. 2 ^ k) e ∙ pow-add 2 s (s * n)

pub lanes-lt : (s n : ℕ) (f : ℕ → ℕ) → ((j : ℕ) → j < n → f j < 2 ^ s) → lanes s n f < 2 ^ (s * n)
lanes-lt s zero f h = pow_pos (s * 0)
lanes-lt s (suc n) f h =
    let low : lanes s n f < 2 ^ (s * n) = lanes-lt s n f (λ j l. h j (omega arith)) in
    let top : f n < 2 ^ s = h n (omega arith) in
    let room : (f n + 1) * 2 ^ (s * n) ≤ 2 ^ s * 2 ^ (s * n) = grind_room (f n) (2 ^ s) (2 ^ (s * n)) top in
    omega (arith, low, room, lane_room s n)
  where
    grind_room : (a b c : ℕ) → a < b → (a + 1) * c ≤ b * c
    grind_room a b c h = grind arith

-- twice and one more in each lane
pub lanes-double : (s n : ℕ) (f g : ℕ → ℕ) (c : ℕ) → lanes s n (λ j. f j * c + g j) ≡ lanes s n f * c + lanes s n g
lanes-double s zero f g c = omega arith
lanes-double s (suc n) f g c = omega (arith, lanes-double s n f g c)

-- lane j is read by a shift, a remainder and what is above
pub lane_read : (s n : ℕ) (f : ℕ → ℕ) (j : ℕ) → ((i : ℕ) → i < n → f i < 2 ^ s) → j < n → lanes s n f / 2 ^ (s * j) % 2 ^ s ≡ f j
lane_read s zero f j h l = absurd (omega arith)
lane_read s (suc n) f j h l =
    elim (cases_eq j n) [
      | inl e ↦
          (let low : lanes s n f < 2 ^ (s * n) = lanes-lt s n f (λ i k. h i (omega arith)) in
          ap (λ i. lanes s (suc n) f / 2 ^ (s * i) % 2 ^ s) e
          ∙ ap (λ a. a % 2 ^ s) (shr_high (f n) (s * n) (lanes s n f) low)
          ∙ small_mod (f n) (2 ^ s) (h n (omega arith)) ∙ ap f (sym e))
      | inr ne ↦
          (let below : j < n = omega arith in
          let apart : s * n ≡ (s + s * (n - suc j)) + s * j = (let e : n ≡ (n - suc j) + suc j = omega arith in ap (λ k. s * k) e ∙ omega arith) in
          let top : f n * 2 ^ (s * n) ≡ f n * 2 ^ (s * (n - suc j)) * 2 ^ s * 2 ^ (s * j) =
          ap (λ k. f n * 2 ^ k) apart
          ∙ ap (λ k. f n * k) (pow-add 2 (s + s * (n - suc j)) (s * j) ∙ ap (λ k. k * 2 ^ (s * j)) (pow-add 2 s (s * (n - suc j))))
          ∙ omega arith in
          let shifted : lanes s (suc n) f / 2 ^ (s * j) ≡ f n * 2 ^ (s * (n - suc j)) * 2 ^ s + lanes s n f / 2 ^ (s * j) =
          ap (λ a. (a + lanes s n f) / 2 ^ (s * j)) top ∙ mul-add-div_right (pow_pos (s * j)) (f n * 2 ^ (s * (n - suc j)) * 2 ^ s) (lanes s n f) in
          ap (λ a. a % 2 ^ s) shifted
          ∙ mul-add-mod_self_right (f n * 2 ^ (s * (n - suc j))) (2 ^ s) (lanes s n f / 2 ^ (s * j))
          ∙ lane_read s n f j (λ i k. h i (omega arith)) below)
    ]

-- one bit for each lane: bit j is that of lane j
pub bit_at-lanes : (n : ℕ) (f : ℕ → ℕ) (j : ℕ) → ((i : ℕ) → i < n → f i < 2) → j < n → bit_at (lanes 1 n f) j ≡ f j
bit_at-lanes n f j h l =
    let e : j ≡ 1 * j = omega arith in
    ap (λ k. lanes 1 n f / 2 ^ k % 2) e ∙ lane_read 1 n f j h l

pub lanes_of_bits : (n x : ℕ) → x < 2 ^ n → lanes 1 n (bit_at x) ≡ x
lanes_of_bits n x h =
    let e : 1 * n ≡ n = omega arith in
    same_from_bits_below n (lanes 1 n (bit_at x)) x
    (subst (λ k. lanes 1 n (bit_at x) < 2 ^ k) e (lanes-lt 1 n (bit_at x) (λ j l. bit_at-lt x j))) h
    (λ j l. bit_at-lanes n (bit_at x) j (λ i k. bit_at-lt x i) l)

pub lanes-times : (s n : ℕ) (f : ℕ → ℕ) (c : ℕ) → lanes s n (λ j. f j * c) ≡ lanes s n f * c
lanes-times s zero f c = omega arith
lanes-times s (suc n) f c = omega (arith, lanes-times s n f c)

pub lanes-and : (s n : ℕ) (f g : ℕ → ℕ) → ((j : ℕ) → j < n → f j < 2 ^ s) → ((j : ℕ) → j < n → g j < 2 ^ s) →
    bit_and (lanes s n f) (lanes s n g) ≡ lanes s n (λ j. bit_and (f j) (g j))
lanes-and s zero f g h k = refl
lanes-and s (suc n) f g h k =
    and_block (s * n) (f n) (g n) (lanes s n f) (lanes s n g)
    (lanes-lt s n f (λ j l. h j (omega arith))) (lanes-lt s n g (λ j l. k j (omega arith)))
    ∙ ap (λ a. bit_and (f n) (g n) * 2 ^ (s * n) + a) (lanes-and s n f g (λ j l. h j (omega arith)) (λ j l. k j (omega arith)))

-- bit t of every lane, by a shift and a mask
pub lanes-bit : (s n : ℕ) (v : ℕ → ℕ) (t : ℕ) → ((j : ℕ) → j < n → v j < 2 ^ s) → t < s →
    bit_and (lanes s n v / 2 ^ t) (lanes s n (λ j. 1)) ≡ lanes s n (λ j. bit_at (v j) t)
lanes-bit s n v t h l =
    let back : (a : ℕ) → a * 2 ^ t / 2 ^ t ≡ a = λ a. shl-shr a t in
    let ones : lanes s n (λ j. 2 ^ t) ≡ lanes s n (λ j. 1) * 2 ^ t = lanes_same s n (λ j. 2 ^ t) (λ j. 1 * 2 ^ t) (λ j i. omega arith)
    ∙ lanes-times s n (λ j. 1) (2 ^ t) in
    let bits : lanes s n (λ j. bit_and (v j) (2 ^ t)) ≡ lanes s n (λ j. bit_at (v j) t) * 2 ^ t =
    lanes_same s n (λ j. bit_and (v j) (2 ^ t)) (λ j. bit_at (v j) t * 2 ^ t) (λ j i. and_pow (v j) t) ∙ lanes-times s n (λ j. bit_at (v j) t) (2 ^ t) in
    ap (bit_and (lanes s n v / 2 ^ t)) (sym (ap (λ a. a / 2 ^ t) ones ∙ back (lanes s n (λ j. 1))))
    ∙ sym (and_shr (lanes s n v) (lanes s n (λ j. 2 ^ t)) t)
    ∙ ap (λ a. a / 2 ^ t) (lanes-and s n v (λ j. 2 ^ t) h (λ j i. pow_below t s l) ∙ bits)
    ∙ back (lanes s n (λ j. bit_at (v j) t))

pub lanes-lt_group : (n : ℕ) (f : ℕ → ℕ) → ((j : ℕ) → j < n → f j < 2) → lanes 1 n f < 2 ^ n
lanes-lt_group n f h = let e : 1 * n ≡ n = omega arith in subst (λ k. lanes 1 n f < 2 ^ k) e (lanes-lt 1 n f h)
