-- A space: which objects it has, and how far two of them are apart.
use Rattle.std.specs.Prelude.{ℕ, ◌+◌, ◌*◌, ◌^◌, ◌<◌, ◌≤◌, min, nat_le, Bool, ◌&&◌, List, count_by}
use Rattle.std.specs.List.{range_with_len}
use Rattle.metrics_builtin.specs.declared.Space.{Space}
use Rattle.metrics_builtin.specs.declared.Space.TheVariants.{L1, LInf, Hamming, Sets}
use Rattle.metrics_builtin.specs.Vectors.{components, IsVector, l1_dist, linf_dist}
use Rattle.metrics_builtin.specs.Strings.{IsString, hamming_dist}
use Rattle.metrics_builtin.specs.Sets.{IsSubset, set_dist}

-- the space's numbers are in range, and no distance of it exceeds 32 bits
abbrev pub fits : Space → Bool
fits (L1 dim most) = nat_le 1 dim && nat_le dim 30 && nat_le 1 most && nat_le (dim * most) 4294967295
fits (LInf dim most) = nat_le 1 dim && nat_le dim 30 && nat_le 1 most && nat_le most 4294967295
fits (Hamming len) = nat_le 1 len && nat_le len 120
fits (Sets universe most) = nat_le 1 universe && nat_le universe 4294967295 && nat_le 1 most && nat_le most 30

-- the space has the object
abbrev pub IsValid : Space → List ℕ → Type 0
IsValid (L1 dim most) object = IsVector dim most object
IsValid (LInf dim most) object = IsVector dim most object
IsValid (Hamming len) object = IsString len object
IsValid (Sets universe most) object = IsSubset universe most object

-- the distance of two objects that the space has
abbrev pub dist : Space → List ℕ → List ℕ → ℕ
dist (L1 dim most) a b = l1_dist (components a) (components b)
dist (LInf dim most) a b = linf_dist (components a) (components b)
dist (Hamming len) a b = hamming_dist a b
dist (Sets universe most) a b = set_dist universe (components a) (components b)

-- a bound of every distance
abbrev pub top : Space → ℕ
top (L1 dim most) = dim * most
top (LInf dim most) = most
top (Hamming len) = len
top (Sets universe most) = min universe (2 * most)

-- `count` is the least number of bits, but at least one, that hold every number up to n
pub record IsBitCount (n count : ℕ) : Type 0 where
  pub some : 1 ≤ count
  pub enough : n < 2 ^ count
  pub least : (other : ℕ) → 1 ≤ other → n < 2 ^ other → count ≤ other

-- that number for what is in 32 bits: one more than how many powers of two from 2 on don't exceed it
unfoldable pub bit_count : ℕ → ℕ
bit_count n = 1 + count_by (λ b. nat_le (2 ^ b) n) (range_with_len 1 31)

-- the number of bits that hold every distance
abbrev pub bits : Space → ℕ
bits space = bit_count (top space)
