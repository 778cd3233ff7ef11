-- How far an entry reaches.
use Rattle.std.specs.Prelude.{ℕ, ◌+◌, ◌-◌, ◌^◌, min, List, map}
use Rattle.z_curve.specs.ZOrder.{z_key}

-- a coordinate and the radius, or the greatest coordinate of so many bits
abbrev pub raised : (bits radius coordinate : ℕ) → ℕ
raised bits radius coordinate = min (2 ^ bits - 1) (coordinate + radius)

-- the upper corner of what meets the cell
abbrev pub upper_corner : (bits radius : ℕ) → List ℕ → List ℕ
upper_corner bits radius cell = map (raised bits radius) cell

-- its key
abbrev pub reach : (bits radius : ℕ) → List ℕ → ℕ
reach bits radius cell = z_key bits (upper_corner bits radius cell)
