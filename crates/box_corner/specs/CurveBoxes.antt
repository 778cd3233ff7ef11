-- The boxes of curve trees.
use Rattle.std.specs.Prelude.{◌≡◌, ℕ, ◌*◌, ◌^◌, ◌&&◌, nat_le, nat_lt, Bool, if◌then◌else◌, List, map, Option, Some, None, All}
use Rattle.curve_laws.specs.Vectors.{IsUpTo}
use Rattle.curve_laws.specs.Grid.{IsCell, IsKey}
use Rattle.bptree_node.specs.declared.rows.Entry.{Entry}
use Rattle.box_corner.specs.Boxes.{Box, point, between, IsBoxOf}

-- whether a number is a key of n coordinates of b bits
abbrev pub is_key : (n b : ℕ) → ℕ → Bool
is_key n b k = nat_lt 0 n && nat_le n 8 && nat_lt 0 b && nat_le b 32 && nat_le (n * b) 64 && nat_lt k (2 ^ (n * b))

-- the box of an entry, if its key is one of the curve
abbrev pub entry_box : (n b : ℕ) → (ℕ → List ℕ) → Entry → Option Box
entry_box n b cell_of e = if is_key n b e.key then Some (point (cell_of e.key)) else None

-- the box between the cells of two keys, if both are keys of the curve and there is one
abbrev pub branch_box : (n b : ℕ) → (ℕ → List ℕ) → ℕ → ℕ → Option Box
branch_box n b cell_of low high = if is_key n b low && is_key n b high then between (cell_of low) (cell_of high) else None

-- the keys of a box's corners
abbrev pub keys_of : (List ℕ → ℕ) → Box → ℕ × ℕ
keys_of key_of box = (key_of box.low, key_of box.high)

-- the corners are cells, and in order
pub record IsMade (n b : ℕ) (box : Box) : Type 0 where
  pub low : IsCell n b box.low
  pub high : IsCell n b box.high
  pub ordered : IsUpTo box.low box.high

-- the keys of the entries are keys of the curve
abbrev pub AreKeys : (n b : ℕ) → List Entry → Type 0
AreKeys n b entries = All (λ (e : Entry). IsKey n b e.key) entries

-- the two keys are those of the corners of the exact box around the entries' cells
pub record AreCorners (key_of : List ℕ → ℕ) (cell_of : ℕ → List ℕ) (entries : List Entry) (low high : ℕ) : Type 0 where
  pub box : Box
  pub is : IsBoxOf box (map (λ (e : Entry). cell_of e.key) entries)
  pub low_key : low ≡ key_of box.low
  pub high_key : high ≡ key_of box.high

-- the two keys read back as the exact box around the entries' cells
pub record ReadBack (n b : ℕ) (cell_of : ℕ → List ℕ) (entries : List Entry) (low high : ℕ) : Type 0 where
  pub box : Box
  pub read : branch_box n b cell_of low high ≡ Some box
  pub is : IsBoxOf box (map (λ (e : Entry). cell_of e.key) entries)
