-- Laws of the tests by pivots.
use Rattle.std.proofs.Common.{◌≡◌, ℕ, ◌<◌, ◌≤◌, Bool, true, false, List, refl, sym, ap, ◌∙◌, arith}
use Rattle.metric_laws.specs.Objects.{Object, Distance}
use Rattle.spb_defs.specs.Pivots.{vector_of, cells_of, meets, is_sure, pair_meets, pair_is_sure}
use Rattle.pivot_map.specs.declared.verdict.PairTest.{PairTest}
use Rattle.pivot_map.specs.declared.verdict.PairTest.TheVariants.{Apart, Open, Sure}
use Rattle.pivot_map.specs.Bounds.{BoundsHold}
use Rattle.pivot_map.specs.BoundLaws.{pair_meets-symmetric, pair_is_sure-symmetric}
use Rattle.pivot_map.specs.Verdicts.{verdict, query_verdict, pair_verdict, IsTestOf, IsSoundTest}

tells-of : (met sure : Bool) → IsTestOf (verdict met sure) met sure
tells-of false sure = refl
tells-of true false = (refl, refl)
tells-of true true = (refl, refl)

-- the verdict on a query and an object gives the two tests
pub query-tells : (asked cells : List ℕ) (radius : ℕ) → IsTestOf (query_verdict asked radius cells) (meets asked radius cells) (is_sure asked radius cells)
query-tells asked cells radius = tells-of (meets asked radius cells) (is_sure asked radius cells)

-- and so does that on two objects
pub pair-tells : (a b : Object) (radius : ℕ) → IsTestOf (pair_verdict a radius b) (pair_meets a radius b) (pair_is_sure a radius b)
pair-tells a b radius = tells-of (pair_meets a radius b) (pair_is_sure a radius b)

-- the verdict on two objects is the same both ways
pub pair_verdict-symmetric : (a b : Object) (radius : ℕ) → pair_verdict a radius b ≡ pair_verdict b radius a
pair_verdict-symmetric a b radius =
    ap (λ met. verdict met (pair_is_sure a radius b)) (pair_meets-symmetric a b radius)
    ∙ ap (λ sure. verdict (pair_meets b radius a) sure) (pair_is_sure-symmetric a b radius)

-- ---- what the verdict says of the distance

further : (radius distance : ℕ) → (distance ≤ radius → ⊥) → radius < distance
further radius distance h = omega arith

settles-by : (distance radius : ℕ) (told : PairTest) (met sure : Bool) → IsTestOf told met sure → (distance ≤ radius → met ≡ true)
    → (sure ≡ true → distance ≤ radius) → IsSoundTest told distance radius
settles-by distance radius Apart met sure t f g = further radius distance (λ h. let clash : false ≡ true = sym t ∙ f h in cc)
settles-by distance radius Open met sure t f g = tt
settles-by distance radius Sure met sure (m, s) f g = g s

-- the verdict on a query and an object is true of their distance
pub query_settles : (admitted : Object → Type 0) (dist : Distance) (pivots : List Object) → BoundsHold admitted dist pivots → (q o : Object) (radius : ℕ)
    → admitted q → admitted o
    → IsSoundTest (query_verdict (vector_of dist pivots q) radius (cells_of dist pivots o)) (dist q o) radius
query_settles admitted dist pivots bounds q o radius f g =
    let asked = vector_of dist pivots q in
    let cells = cells_of dist pivots o in
    settles-by (dist q o) radius (query_verdict asked radius cells) (meets asked radius cells) (is_sure asked radius cells) (query-tells asked cells radius)
    (bounds.within_meets q o radius f g)
    (bounds.sure_within q o radius f g)

-- and the verdict on two objects of theirs
pub pair_settles : (admitted : Object → Type 0) (dist : Distance) (pivots : List Object) → BoundsHold admitted dist pivots → (a b : Object) (radius : ℕ)
    → admitted a → admitted b
    → IsSoundTest (pair_verdict (cells_of dist pivots a) radius (cells_of dist pivots b)) (dist a b) radius
pair_settles admitted dist pivots bounds a b radius f g =
    let x = cells_of dist pivots a in
    let y = cells_of dist pivots b in
    settles-by (dist a b) radius (pair_verdict x radius y) (pair_meets x radius y) (pair_is_sure x radius y) (pair-tells x y radius)
    (bounds.within_pair_meets a b radius f g)
    (bounds.pair_sure_within a b radius f g)
