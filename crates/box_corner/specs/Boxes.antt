-- The box of cells, and the bound that it sets to what is in it.
use Rattle.std.specs.Prelude.{ℕ, ◌+◌, ◌-◌, Bool, ◌&&◌, nat_le, max, if◌then◌else◌, List, map, Option, Some, None, All}
use Rattle.std.specs.List.{zip, list_all}
use Rattle.metrics_builtin.specs.Vectors.{greatest}
use Rattle.spb_defs.specs.Pivots.{low_of, high_of}
use Rattle.curve_laws.specs.Vectors.{IsUpTo, low_corner, high_corner}

-- a low and a high corner
pub record Box : Type 0 where
  pub low : List ℕ
  pub high : List ℕ

-- the box of one cell
abbrev pub point : List ℕ → Box
point v = record { low = v; high = v }

-- the box of what is in either of two
abbrev pub joined : Box → Box → Box
joined a b = record { low = low_corner a.low b.low; high = high_corner a.high b.high }

-- whether no coordinate of the first vector exceeds that of the second
abbrev pub is_up_to : List ℕ → List ℕ → Bool
is_up_to v w = list_all (λ p. nat_le p.0 p.1) (zip v w)

-- the box between two cells, if there is one
abbrev pub between : List ℕ → List ℕ → Option Box
between low high = if is_up_to low high then Some (record { low = low; high = high }) else None

-- the cell is in the box
pub record IsInBox (v : List ℕ) (box : Box) : Type 0 where
  pub above : IsUpTo box.low v
  pub below : IsUpTo v box.high

-- the box has the least and the greatest value of each coordinate of the cells: it holds them all, and each box that does
-- holds it
pub record IsBoxOf (box : Box) (cells : List (List ℕ)) : Type 0 where
  pub holds : All (λ v. IsInBox v box) cells
  pub least : (other : Box) → All (λ v. IsInBox v other) cells → IsUpTo other.low box.low × IsUpTo box.high other.high

-- ---- a query, by its vector, and a box

-- no pivot shows that all in the box is further from the query than the radius
abbrev pub box_meets : List ℕ → ℕ → Box → Bool
box_meets asked radius box =
    list_all (λ p. nat_le (low_of p.1.0) (p.0 + radius) && nat_le p.0 (high_of p.1.1 + radius)) (zip asked (zip box.low box.high))

-- how far a distance is from the nearest one of the cells between two: `-` stops at 0
abbrev pub span_gap : ℕ → ℕ × ℕ → ℕ
span_gap distance span = max (distance - high_of span.1) (low_of span.0 - distance)

-- the lower bound of the distance of the query and what is in the box: 0 without pivots
abbrev pub box_bound : List ℕ → Box → ℕ
box_bound asked box = greatest (map (λ p. span_gap p.0 p.1) (zip asked (zip box.low box.high)))
