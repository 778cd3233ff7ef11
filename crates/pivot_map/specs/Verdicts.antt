-- Whether the pivots decide if a distance is within a radius.
use Rattle.std.specs.Prelude.{◌≡◌, ℕ, ◌<◌, ◌≤◌, Bool, true, false, List}
use Rattle.spb_defs.specs.Pivots.{meets, is_sure, pair_meets, pair_is_sure}
use Rattle.pivot_map.specs.declared.verdict.PairTest.{PairTest}
use Rattle.pivot_map.specs.declared.verdict.PairTest.TheVariants.{Apart, Open, Sure}

-- the verdict, by whether the two meet and whether they are sure
abbrev pub verdict : Bool → Bool → PairTest
verdict false sure = Apart
verdict true false = Open
verdict true true = Sure

-- the verdict on a query and an object: apart if the two don't meet, else sure if they are, else open
abbrev pub query_verdict : List ℕ → ℕ → List ℕ → PairTest
query_verdict asked radius cells = verdict (meets asked radius cells) (is_sure asked radius cells)

-- and on two objects
abbrev pub pair_verdict : List ℕ → ℕ → List ℕ → PairTest
pair_verdict a radius b = verdict (pair_meets a radius b) (pair_is_sure a radius b)

-- the two tests, by the verdict
abbrev pub IsTestOf : PairTest → Bool → Bool → Type 0
IsTestOf Apart met sure = met ≡ false
IsTestOf Open met sure = (met ≡ true) × (sure ≡ false)
IsTestOf Sure met sure = (met ≡ true) × (sure ≡ true)

-- the distance has to be measured
abbrev pub test_is_open : PairTest → Bool
test_is_open Apart = false
test_is_open Open = true
test_is_open Sure = false

-- objects that are apart are further apart than the radius, those that are sure are within it
abbrev pub IsSoundTest : PairTest → ℕ → ℕ → Type 0
IsSoundTest Apart distance radius = radius < distance
IsSoundTest Open distance radius = Unit {0}
IsSoundTest Sure distance radius = distance ≤ radius
