-- The grid that a curve numbers: its cells, and the numbers that are their keys.
use Rattle.std.specs.Prelude.{◌≡◌, ℕ, ◌*◌, ◌^◌, ◌<◌, ◌≤◌, List, length, All}

-- n axes with coordinates of b bits, whose bits go into 64
pub record IsGrid (n b : ℕ) : Type 0 where
  pub some_axis : 0 < n
  pub few_axes : n ≤ 8
  pub some_bit : 0 < b
  pub few_bits : b ≤ 32
  pub fits : n * b ≤ 64

-- a vector with a coordinate of b bits for each axis
pub record IsCell (n b : ℕ) (v : List ℕ) : Type 0 where
  pub grid : IsGrid n b
  pub axes : length v ≡ n
  pub below : All (λ x. x < 2 ^ b) v

-- a number of n times b bits
pub record IsKey (n b k : ℕ) : Type 0 where
  pub grid : IsGrid n b
  pub below : k < 2 ^ (n * b)
