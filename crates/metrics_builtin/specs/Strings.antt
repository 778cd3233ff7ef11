-- Byte strings of one length as objects.
use Rattle.std.specs.Prelude.{◌≡◌, ℕ, ◌<◌, ◌==◌, not, List, length, All, count_by}
use Rattle.std.specs.List.{zip}

-- the object is a string of `len` bytes
pub record IsString (len : ℕ) (object : List ℕ) : Type 0 where
  pub size : length object ≡ len
  pub bytes : All (λ b. b < 256) object

-- the number of places in which the two differ
unfoldable pub hamming_dist : List ℕ → List ℕ → ℕ
hamming_dist a b = count_by (λ p. not (p.0 == p.1)) (zip a b)
