-- Objects and their distances.
use Rattle.std.specs.Prelude.{ℕ, List}

-- an object, by its bytes
abbrev pub Object : Type 0
Object = List ℕ

-- the distance of any two objects
abbrev pub Distance : Type 0
Distance = Object → Object → ℕ
