-- Rows as candidates, and as items of the queue.
use Rattle.std.proofs.Common.{◌≡◌, ℕ, ◌+◌, ◌≤◌, ◌<◌, false, List, [], ◌∷◌, ◌++◌, map, length, take, get_or, suc, refl, sym, ap, subst, ◌∙◌, arith}
use Rattle.std.specs.Prelude.{◌==◌, ◌&&◌, ◌||◌, nat_lt, sum_by, All, AllPairs, ◌≢◌, IsPermutation}
use Rattle.std.specs.List.{AllByRecursion, flat_map}
use Rattle.std.proofs.lemmas.Bool.Decides.{nat_tests}
use Rattle.std.proofs.lemmas.List.{take_more, get_or-map, get_or_default, length-map, length-take-le}
use Rattle.std.proofs.lemmas.List.Concat.{flat_map-cons}
use Rattle.std.proofs.lemmas.List.Elements.{All-from_recursion}
use Rattle.std.proofs.lemmas.List.Sums.{sum_by-cons}
use Rattle.std.proofs.lemmas.List.Sorted.{IsPermutation-map, IsPermutation-trans, sum_by-IsPermutation}
use Rattle.answer_lists.specs.Order.{goes_before}
use Rattle.answer_lists.specs.OrderLaws.{HasDistinctKeys, goes_before-is, permutation-sorted_by}
use Rattle.answer_lists.specs.Permutations.{permutation-flat_map}
use Rattle.spb_defs.specs.Pivots.{vector_of, cells_of, lower_bound}
use Rattle.spb_defs.specs.Scans.{Entry, rank_bound}
use Rattle.pivot_map.specs.declared.row.Row as vector_row
use Rattle.pivot_map.specs.Rows.{entry_of, entries_of}
use Rattle.pivot_map.specs.Bounds.{BoundsHold}
use Rattle.near_search.specs.declared.queue.Waiting.{Waiting}
use Rattle.nn_query.specs.Listed.{candidate_for, candidates_for, object_at_place, empty_nodes}
use Rattle.near_search.specs.Queue.{Candidate, as_waiting, bound_rank, candidate_is_before, candidates_under, weight_of, most_of, queued_candidates}
use Rattle.near_search.specs.Visits.{entry_at, entries_at, CanVisit, IsLeast, AreBounds}
use Rattle.near_search.proofs.Lists.{all-map, all-moved}

-- ---- the list

pub candidates_for-none : (asked : List ℕ) (place : ℕ) → candidates_for asked place [] ≡ []
unfolding candidates_for
candidates_for-none asked place = refl

candidates_for-last : (asked : List ℕ) (n m : ℕ) (rows : List vector_row.Row) (row : vector_row.Row) → n + length rows ≡ m
    → candidates_for asked n (rows ++ row ∷ []) ≡ candidates_for asked n rows ++ candidate_for asked m row ∷ []
unfolding candidates_for
candidates_for-last asked n m [] row is = ap (λ (place : ℕ). candidate_for asked place row ∷ []) (let e : n ≡ m = omega (arith, is) in e)
candidates_for-last asked n m (r ∷ rows) row is = ap (λ rest. candidate_for asked n r ∷ rest) (candidates_for-last asked (n + 1) m rows row (omega (arith, is)))

pub candidates_for-more : (asked : List ℕ) (rows : List vector_row.Row) (i bound : ℕ) (row : vector_row.Row) → i < length rows → row ≡ get_or rows i row
    → bound ≡ lower_bound asked row.vect
    → candidates_for asked 0 (take i rows) ++ record { bound = bound; id = row.id; place = i } ∷ [] ≡ candidates_for asked 0 (take (i + 1) rows)
candidates_for-more asked rows i bound row within at is =
    let long = length-take-le i rows (omega (arith, within)) in
    ap (λ (b : ℕ). candidates_for asked 0 (take i rows) ++ record { bound = b; id = row.id; place = i } ∷ []) is
    ∙ sym (candidates_for-last asked 0 i (take i rows) row (let e : 0 + length (take i rows) ≡ i = omega (arith, long) in e))
    ∙ ap (λ r. candidates_for asked 0 (take i rows ++ r ∷ [])) at
    ∙ ap (candidates_for asked 0) (sym (take_more rows i row within))

length-candidates_for : (asked : List ℕ) (n : ℕ) (rows : List vector_row.Row) → length (candidates_for asked n rows) ≡ length rows
unfolding candidates_for
length-candidates_for asked n [] = refl
length-candidates_for asked n (row ∷ rows) = ap suc (length-candidates_for asked (n + 1) rows)

all-candidates_for : (P : Candidate → Type 0) (asked : List ℕ) (n : ℕ) (rows : List vector_row.Row)
    → ((k : ℕ) (row : vector_row.Row) → k < length rows → row ≡ get_or rows k row → P (candidate_for asked (k + n) row))
    → AllByRecursion P (candidates_for asked n rows)
unfolding candidates_for
all-candidates_for P asked n [] each = tt
all-candidates_for P asked n (row ∷ rows) each = (
  subst (λ (m : ℕ). P (candidate_for asked m row)) (let e : 0 + n ≡ n = omega arith in e) (each 0 row (omega arith) refl),
  all-candidates_for P asked (n + 1) rows (λ k r below at.
      subst (λ (m : ℕ). P (candidate_for asked m r)) (let e : suc k + n ≡ k + (n + 1) = omega arith in e) (each (suc k) r (omega (arith, below)) at)),
)

at-candidates_for : (object_at : ℕ → List ℕ) (asked : List ℕ) (n : ℕ) (rows : List vector_row.Row)
    → ((k : ℕ) (row : vector_row.Row) → k < length rows → row ≡ get_or rows k row → object_at (k + n) ≡ row.object)
    → entries_at object_at (candidates_for asked n rows) ≡ entries_of rows
unfolding candidates_for
at-candidates_for object_at asked n [] each = refl
at-candidates_for object_at asked n (row ∷ rows) each =
    let first : object_at n ≡ row.object = subst (λ (m : ℕ). object_at m ≡ row.object) (let e : 0 + n ≡ n = omega arith in e) (each 0 row (omega arith) refl) in
    let rest = at-candidates_for object_at asked (n + 1) rows (λ k r below at.
    subst (λ (m : ℕ). object_at m ≡ r.object) (let e : suc k + n ≡ k + (n + 1) = omega arith in e) (each (suc k) r (omega (arith, below)) at)) in
    ap (λ (o : List ℕ). (row.id, o) ∷ entries_at object_at (candidates_for asked (n + 1) rows)) first ∙ ap (λ es. entry_of row ∷ es) rest

-- the object of the row at a place
pub object-is : (rows : List vector_row.Row) (place : ℕ) (row : vector_row.Row) → place < length rows → row ≡ get_or rows place row
    → object_at_place rows place ≡ row.object
object-is rows place row within at = ap (λ (r : vector_row.Row). r.object) (get_or_default rows place (record { id = 0; object = []; vect = [] }) row within
    ∙ sym at)

-- ---- the candidates of rows

not_less : (b d i : ℕ) → b ≤ d → (nat_lt d b || ((d == b) && nat_lt i i)) ≡ false
not_less b d i h = grind (arith, nat_tests)

-- no rank goes before its bound
pub not_under : (b d i : ℕ) → b ≤ d → goes_before (d, i) (b, i) ≡ false
not_under b d i h = goes_before-is (d, i) (b, i) ∙ not_less b d i h

pub whole-list : (asked : List ℕ) (rows : List vector_row.Row) (cs : List Candidate) → IsPermutation (candidates_for asked 0 rows) cs
    → IsPermutation (entries_of rows) (entries_at (object_at_place rows) cs)
whole-list asked rows cs moved =
    subst (λ es. IsPermutation es (entries_at (object_at_place rows) cs)) (at-candidates_for (object_at_place rows) asked 0 rows (λ k row below at.
    subst (λ (m : ℕ). object_at_place rows m ≡ row.object) (let e : k ≡ k + 0 = omega arith in e) (object-is rows k row below at)))
    (IsPermutation-map (entry_at (object_at_place rows)) _ cs moved)

each-candidates_for : (P : Candidate → Type 0) (asked : List ℕ) (rows : List vector_row.Row)
    → ((k : ℕ) (row : vector_row.Row) → k < length rows → row ≡ get_or rows k row → P (candidate_for asked k row))
    → AllByRecursion P (candidates_for asked 0 rows)
each-candidates_for P asked rows each = all-candidates_for P asked 0 rows
    (λ k row below at. subst (λ (m : ℕ). P (candidate_for asked m row)) (let e : k ≡ k + 0 = omega arith in e) (each k row below at))

-- rows with different ids have different bounds with ids
pub apart : (dist : List ℕ → List ℕ → ℕ) (pivots : List (List ℕ)) (query : List ℕ) (rows : List vector_row.Row)
    → AllPairs (λ (a b : vector_row.Row). a.id ≢ b.id) rows → HasDistinctKeys (rank_bound dist pivots query) (entries_of rows)
apart dist pivots query rows ids i j d less below same =
    let none : vector_row.Row = record { id = 0; object = []; vect = [] } in
    let long = length-map rows entry_of in
    let inside : j < length rows = omega (arith, below, long) in
    ids i j none less inside
    (ap (λ (e : Entry). e.0) (sym (get_or-map entry_of rows i none d (omega (arith, less, inside)))) ∙ ap (λ (b : ℕ × ℕ). b.1) same
    ∙ ap (λ (e : Entry). e.0) (get_or-map entry_of rows j none d inside))

-- ---- rows in the queue

candidates_under-rows : (cs : List Candidate) → flat_map (candidates_under empty_nodes) (map as_waiting cs) ≡ cs
candidates_under-rows [] = refl
candidates_under-rows (c ∷ cs) = flat_map-cons (candidates_under empty_nodes) (as_waiting c) (map as_waiting cs) ∙ ap (λ ds. c ∷ ds) (candidates_under-rows cs)

most-rows : (cs : List Candidate) → sum_by (most_of empty_nodes) (map as_waiting cs) ≡ length cs
most-rows [] = refl
most-rows (c ∷ cs) = let a = sum_by-cons (most_of empty_nodes) (as_waiting c) (map as_waiting cs) in let b = most-rows cs in omega (arith, a, b)

weight-rows : (cs : List Candidate) → sum_by (weight_of empty_nodes) (map as_waiting cs) ≡ length cs
weight-rows [] = refl
weight-rows (c ∷ cs) = let a = sum_by-cons (weight_of empty_nodes) (as_waiting c) (map as_waiting cs) in let b = weight-rows cs in omega (arith, a, b)

module _ (asked : List ℕ) (rows : List vector_row.Row) (items : List Waiting) (moved : IsPermutation (map as_waiting (candidates_for asked 0 rows)) items) where
  -- the candidates are under them
  candidates_under-items : IsPermutation (candidates_for asked 0 rows) (flat_map (candidates_under empty_nodes) items)
  candidates_under-items = subst (λ cs. IsPermutation cs (flat_map (candidates_under empty_nodes) items)) (candidates_under-rows (candidates_for asked 0 rows))
      (permutation-flat_map (candidates_under empty_nodes) (map as_waiting (candidates_for asked 0 rows)) items moved)

  pub in-order : IsPermutation (candidates_for asked 0 rows) (queued_candidates empty_nodes items)
  in-order = IsPermutation-trans _ _ _ candidates_under-items (permutation-sorted_by candidate_is_before (flat_map (candidates_under empty_nodes) items))

  pub weight-is : sum_by (weight_of empty_nodes) items ≡ length rows
  weight-is = sum_by-IsPermutation (weight_of empty_nodes) _ items moved ∙ weight-rows (candidates_for asked 0 rows) ∙ length-candidates_for asked 0 rows

  pub most-is : sum_by (most_of empty_nodes) items ≡ length rows
  most-is = sum_by-IsPermutation (most_of empty_nodes) _ items moved ∙ most-rows (candidates_for asked 0 rows) ∙ length-candidates_for asked 0 rows

  -- each has its row
  pub have-rows : AllByRecursion (CanVisit (λ level place. Unit {0}) (λ id place. place < length rows)) items
  have-rows = all-moved _ _ items moved (all-map (CanVisit (λ level place. Unit {0}) (λ id place. place < length rows)) as_waiting (candidates_for asked 0 rows)
      (each-candidates_for (λ (c : Candidate). c.place < length rows) asked rows (λ k row below at. below)))

  are-least : (cs : List Candidate) → AllByRecursion (IsLeast empty_nodes (λ level place. Unit {0})) (map as_waiting cs)
  are-least [] = tt
  are-least (c ∷ cs) = (record { objects = (omega arith, tt); bounds = tt; sound = tt }, are-least cs)

  -- no bound is too great
  pub are-bounds : (dist : List ℕ → List ℕ → ℕ) (query : List ℕ)
      → ((k : ℕ) (row : vector_row.Row) → k < length rows → row ≡ get_or rows k row → lower_bound asked row.vect ≤ dist query row.object)
      → AreBounds dist (object_at_place rows) query empty_nodes (λ level place. Unit {0}) items
  are-bounds dist query each = record {
    lower =
        all-moved (λ (c : Candidate). goes_before (dist query (object_at_place rows c.place), c.id) (bound_rank c) ≡ false) _ _ candidates_under-items
        (each-candidates_for (λ (c : Candidate). goes_before (dist query (object_at_place rows c.place), c.id) (bound_rank c) ≡ false) asked rows
        (λ k row below at.
        subst (λ (o : List ℕ). goes_before (dist query o, row.id) (lower_bound asked row.vect, row.id) ≡ false) (sym (object-is rows k row below at))
        (not_under (lower_bound asked row.vect) (dist query row.object) row.id (each k row below at))));
    least = all-moved _ _ items moved (are-least (candidates_for asked 0 rows));
  }

module _ (dist : List ℕ → List ℕ → ℕ) (pivots : List (List ℕ)) (query : List ℕ) (rows : List vector_row.Row) where
  -- the key of a candidate is the bound of its row
  pub keys-are : (cs : List Candidate) → IsPermutation (candidates_for (vector_of dist pivots query) 0 rows) cs
      → All (λ (row : vector_row.Row). row.vect ≡ cells_of dist pivots row.object) rows
      → All (λ (c : Candidate). bound_rank c ≡ rank_bound dist pivots query (entry_at (object_at_place rows) c)) cs
  keys-are cs moved vects =
      let asked = vector_of dist pivots query in
      All-from_recursion _ cs (all-moved (λ (c : Candidate). bound_rank c ≡ rank_bound dist pivots query (entry_at (object_at_place rows) c)) _ cs moved
      (each-candidates_for (λ (c : Candidate). bound_rank c ≡ rank_bound dist pivots query (entry_at (object_at_place rows) c)) asked rows (λ k row below at.
      let vect : row.vect ≡ cells_of dist pivots row.object =
      subst (λ (r : vector_row.Row). r.vect ≡ cells_of dist pivots r.object) (sym at) (vects k row below) in
      let key : ◌≡◌ {A = ℕ × ℕ} (lower_bound asked row.vect, row.id) (rank_bound dist pivots query (entry_of row)) =
      ap (λ v. (lower_bound asked v, row.id)) vect in
      key ∙ ap (λ (o : List ℕ). rank_bound dist pivots query (row.id, o)) (sym (object-is rows k row below at)))))

  -- the bounds are those that the pivots set
  pub bounds-are : (admitted : List ℕ → Type 0) → All (λ (row : vector_row.Row). row.vect ≡ cells_of dist pivots row.object) rows
      → All (λ (row : vector_row.Row). admitted row.object) rows → admitted query → BoundsHold admitted dist pivots
      → (k : ℕ) (row : vector_row.Row) → k < length rows → row ≡ get_or rows k row → lower_bound (vector_of dist pivots query) row.vect ≤ dist query row.object
  bounds-are admitted vects objects asks holds k row below at =
      let vect : row.vect ≡ cells_of dist pivots row.object =
      subst (λ (r : vector_row.Row). r.vect ≡ cells_of dist pivots r.object) (sym at) (vects k row below) in
      let object : admitted row.object = subst (λ (r : vector_row.Row). admitted r.object) (sym at) (objects k row below) in
      subst (λ v. lower_bound (vector_of dist pivots query) v ≤ dist query row.object) (sym vect) (holds.bound_below query row.object asks object)
