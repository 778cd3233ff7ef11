-- The numbers that a trial draws, and the objects that they make.
use Rattle.std.specs.Prelude.{ℕ, zero, suc, ◌+◌, ◌*◌, ◌/◌, ◌%◌, ◌^◌, List, map}
use Rattle.std.specs.List.{range_with_len}
use Rattle.metrics_builtin.specs.Vectors.{object_of_components}

-- the state of the generator after a draw
unfoldable pub next_draw_state : ℕ → ℕ
next_draw_state x = (x * 6364136223846793005 + 1442695040888963407) % 2 ^ 64

-- what was drawn, a number up to 1000, by the state after the draw
unfoldable pub draw_of : ℕ → ℕ
draw_of x = x / 2 ^ 33 % 1001

-- the state after so many draws
unfoldable pub draw_state : ℕ → ℕ → ℕ
draw_state seed zero = seed
draw_state seed (suc k) = next_draw_state (draw_state seed k)

-- the draws, counted from 0
abbrev pub draw : ℕ → ℕ → ℕ
draw seed k = draw_of (draw_state seed (suc k))

-- the objects, counted from 0: each is made of four draws, one after the other
unfoldable pub drawn_object : ℕ → ℕ → List ℕ
drawn_object seed i = object_of_components (map (draw seed) (range_with_len (4 * i) 4))
