-- What is kept of an object: its distances to the pivots, and the cells that they are in. These give a lower and an
-- upper bound of a distance that wasn't computed.
use Rattle.std.specs.Prelude.{ℕ, ◌+◌, ◌-◌, Bool, ◌&&◌, nat_le, List, map}
use Rattle.std.specs.List.{zip, list_all, list_any}
use Rattle.metric_laws.specs.Objects.{Object, Distance}
use Rattle.metrics_builtin.specs.Vectors.{greatest}

-- ---- distances and their cells

-- the cell of a distance
abbrev pub cell_of : ℕ → ℕ
cell_of distance = distance

-- the least distance of a cell, and the greatest
abbrev pub low_of : ℕ → ℕ
low_of cell = cell

abbrev pub high_of : ℕ → ℕ
high_of cell = cell

-- the vector of an object: its distances to the pivots, in their order
abbrev pub vector_of : Distance → List Object → Object → List ℕ
vector_of dist pivots object = map (λ pivot. dist object pivot) pivots

-- the cells of an object: those of its distances to the pivots
abbrev pub cells_of : Distance → List Object → Object → List ℕ
cells_of dist pivots object = map (λ pivot. cell_of (dist object pivot)) pivots

-- ---- a query, by its vector, and an object, by its cells

-- no pivot shows that the object is further from the query than the radius
abbrev pub meets : List ℕ → ℕ → List ℕ → Bool
meets asked radius cells = list_all (λ p. nat_le (low_of p.1) (p.0 + radius) && nat_le p.0 (high_of p.1 + radius)) (zip asked cells)

-- some pivot shows that the object is within the radius of the query
abbrev pub is_sure : List ℕ → ℕ → List ℕ → Bool
is_sure asked radius cells = list_any (λ p. nat_le (p.0 + high_of p.1) radius) (zip asked cells)

-- how far a distance is from the nearest one of a cell: `-` stops at 0, so one of the two terms is 0
abbrev pub gap : ℕ → ℕ → ℕ
gap distance cell = (distance - high_of cell) + (low_of cell - distance)

-- the lower bound of the distance of query and object: 0 without pivots
abbrev pub lower_bound : List ℕ → List ℕ → ℕ
lower_bound asked cells = greatest (map (λ p. gap p.0 p.1) (zip asked cells))

-- ---- two objects, by their cells

-- no pivot shows that the two are further apart than the radius
abbrev pub pair_meets : List ℕ → ℕ → List ℕ → Bool
pair_meets a radius b = list_all (λ p. nat_le (low_of p.1) (high_of p.0 + radius) && nat_le (low_of p.0) (high_of p.1 + radius)) (zip a b)

-- some pivot shows that the two are within the radius of each other
abbrev pub pair_is_sure : List ℕ → ℕ → List ℕ → Bool
pair_is_sure a radius b = list_any (λ p. nat_le (high_of p.0 + high_of p.1) radius) (zip a b)
