-- The laws of a curve.
use Rattle.std.specs.Prelude.{◌≡◌, ℕ, List}
use Rattle.curve_laws.specs.Grid.{IsCell, IsKey}

-- The cells of n coordinates of b bits and the keys of n times b bits belong to each other, one to one.
pub record IsCurve (n b : ℕ) (key_of : List ℕ → ℕ) (cell_of : ℕ → List ℕ) : Type 0 where
  -- a cell has a key, and a key a cell
  pub key_of_cell : (v : List ℕ) → IsCell n b v → IsKey n b (key_of v)
  pub cell_of_key : (k : ℕ) → IsKey n b k → IsCell n b (cell_of k)
  -- the one takes back the other
  pub cell_back : (v : List ℕ) → IsCell n b v → cell_of (key_of v) ≡ v
  pub key_back : (k : ℕ) → IsKey n b k → key_of (cell_of k) ≡ k
