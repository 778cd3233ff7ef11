-- Four objects in slots, for computed rows.
use Rattle.std.specs.Prelude.{List, [], ◌∷◌}
use Rattle.store_check.specs.Stands.{Placed}

-- three objects of collection 0 and one of collection 1
abbrev pub four : List Placed
four =
    record { slot = 0; collection = 0; id = 9; object = 1 ∷ 0 ∷ [] }
    ∷ record { slot = 1; collection = 1; id = 2; object = 3 ∷ 3 ∷ [] }
    ∷ record { slot = 2; collection = 0; id = 4; object = 2 ∷ 1 ∷ [] }
    ∷ record { slot = 3; collection = 0; id = 1; object = 2 ∷ 1 ∷ [] }
    ∷ []
