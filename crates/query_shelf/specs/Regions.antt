-- The region of a range.
use Rattle.std.specs.Prelude.{ℕ, Bool, true, if◌then◌else◌, List, Option, Some, None}
use Rattle.spb_defs.specs.Pivots.{meets}
use Rattle.box_corner.specs.Boxes.{Box, box_meets}
use Rattle.box_corner.specs.CurveBoxes.{is_key, branch_box}

-- the query meets the box between two keys, if there is one
abbrev pub meets_found : List ℕ → ℕ → Option Box → Bool
meets_found asked radius (Some box) = box_meets asked radius box
meets_found asked radius None = true

-- no pivot shows that all between two keys is further from the query than the radius
abbrev pub meets_box : (n b : ℕ) → (ℕ → List ℕ) → List ℕ → ℕ → ℕ → ℕ → Bool
meets_box n b cell_of asked radius low high = meets_found asked radius (branch_box n b cell_of low high)

-- the query meets the cell of the key, or the number is no key
abbrev pub has_key : (n b : ℕ) → (ℕ → List ℕ) → List ℕ → ℕ → ℕ → Bool
has_key n b cell_of asked radius key = if is_key n b key then meets asked radius (cell_of key) else true
