-- The number of bits that a number takes.
use Rattle.std.proofs.Common.{◌≡◌, ℕ, zero, suc, ◌+◌, ◌*◌, ◌^◌, ◌<◌, ◌≤◌, inl, inr, cond, nat_le, List, ◌∷◌, arith, refl, ap, ◌∙◌}
use Rattle.std.specs.Prelude.{count_by}
use Rattle.std.specs.List.{range_with_len}
use Rattle.std.proofs.Math.Nat.{pow-suc}
use Rattle.std.proofs.Math.Pow.{pow_mono}
use Rattle.std.proofs.lemmas.Bool.{cases_lt}
use Rattle.std.proofs.lemmas.Bool.Decides.{nat_tests}
use Rattle.std.proofs.lemmas.List.Sums.{sum_by-cons}
use Rattle.metrics_builtin.specs.Space.{IsBitCount, bit_count}

-- 1 if 2 ^ b doesn't exceed n
abbrev held : ℕ → ℕ → ℕ
held n b = cond (nat_le (2 ^ b) n) 1 0

held-cons : (n z : ℕ) (zs : List ℕ) → count_by (λ b. nat_le (2 ^ b) n) (z ∷ zs) ≡ held n z + count_by (λ b. nat_le (2 ^ b) n) zs
held-cons n z zs = sum_by-cons (held n) z zs

held-le : (n p : ℕ) → p ≤ n → ◌≡◌ {A = ℕ} (cond (nat_le p n) 1 0) 1
held-le n p h = grind (arith, nat_tests)

held-lt : (n p : ℕ) → n < p → ◌≡◌ {A = ℕ} (cond (nat_le p n) 1 0) 0
held-lt n p h = grind (arith, nat_tests)

power_le : (a b n : ℕ) → a ≤ b → 2 ^ b ≤ n → 2 ^ a ≤ n
power_le a b n h low = let le : 2 ^ a ≤ 2 ^ b = pow_mono h in omega arith

power_gt : (a b n : ℕ) → a ≤ b → n < 2 ^ a → n < 2 ^ b
power_gt a b n h high = let le : 2 ^ a ≤ 2 ^ b = pow_mono h in omega arith

-- the next power
pub power_next : (r : ℕ) → 2 ^ (r + 1) ≡ 2 * 2 ^ r
power_next r = let e : r + 1 ≡ suc r = omega arith in ap (λ k. 2 ^ k) e ∙ omega (arith, pow-suc 2 r)

-- past the highest bit no power is held
none_held : (n r a m : ℕ) → n < 2 ^ r → r ≤ a → count_by (λ b. nat_le (2 ^ b) n) (range_with_len a m) ≡ 0
none_held n r a zero high past = refl
none_held n r a (suc m) high past =
    omega (arith, held-cons n a (range_with_len (a + 1) m), held-lt n (2 ^ a) (power_gt r a n past high), none_held n r (a + 1) m high (omega arith))

-- up to the highest bit each power is held
count_held : (n r a m : ℕ) → 2 ^ r ≤ n → n < 2 ^ (r + 1) → a ≤ r + 1 → r < a + m → count_by (λ b. nat_le (2 ^ b) n) (range_with_len a m) + a ≡ r + 1
count_held n r a zero low high start end = omega arith
count_held n r a (suc m) low high start end = elim (cases_lt r a) [
  | inl past ↦ omega (arith, none_held n (r + 1) a (suc m) high (omega arith))
  | inr below ↦
      omega (
        arith,
        held-cons n a (range_with_len (a + 1) m),
        held-le n (2 ^ a) (power_le a r n below low),
        count_held n r (a + 1) m low high (omega arith) (omega arith),
      )
]

-- the number is one more than the place of the highest bit
pub bit_count-highest : (n r : ℕ) → 2 ^ r ≤ n → n < 2 ^ (r + 1) → r < 32 → bit_count n ≡ r + 1
unfolding bit_count
bit_count-highest n zero low high small = omega (arith, none_held n 1 1 31 high (omega arith))
bit_count-highest n (suc r) low high small = omega (arith, count_held n (suc r) 1 31 low high (omega arith) (omega arith))

not_less : (n r other : ℕ) → 2 ^ r ≤ n → n < 2 ^ other → r + 1 ≤ other
not_less n r other low high = elim (cases_lt r other) [
  | inl more ↦ omega arith
  | inr le ↦ absurd (let past : n < 2 ^ r = power_gt other r n le high in omega arith)
]

-- and it is the least that will do
pub IsBitCount-highest : (n r : ℕ) → 2 ^ r ≤ n → n < 2 ^ (r + 1) → IsBitCount n (r + 1)
IsBitCount-highest n r low high = record {
  some = omega arith;
  enough = high;
  least = λ other some enough. not_less n r other low enough;
}
