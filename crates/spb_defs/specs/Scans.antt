-- What scanning all objects of a collection answers, for any distance, and how many distance computations the answer
-- costs with the pivots given.
use Rattle.std.specs.Prelude.{ℕ, ◌+◌, ◌-◌, ◌&&◌, ◌++◌, Bool, true, not, nat_lt, nat_le, List, length, take, map, filter, count_by, Option, Some, None, if◌then◌else◌}
use Rattle.std.specs.List.{flat_map, slice_get}
use Rattle.metric_laws.specs.Objects.{Object, Distance}
use Rattle.answer_lists.specs.Order.{goes_before, sorted_by}
use Rattle.spb_defs.specs.declared.RangeAnswer.{RangeAnswer}
use Rattle.spb_defs.specs.declared.NearAnswer.{NearAnswer}
use Rattle.spb_defs.specs.declared.JoinAnswer.{JoinAnswer}
use Rattle.spb_defs.specs.Pivots.{vector_of, cells_of, meets, is_sure, lower_bound, pair_meets, pair_is_sure}

-- an object of a collection with its id
abbrev pub Entry : Type 0
Entry = ℕ × Object

-- a distance and an id
abbrev pub Rank : Type 0
Rank = ℕ × ℕ

-- ---- ranges

-- the ids of the rows whose object is within the radius of the query, ascending
abbrev pub scan_range : Distance → List Entry → Object → ℕ → List ℕ
scan_range dist rows query radius = sorted_by nat_lt (map (λ row. row.0) (filter (λ row. nat_le (dist query row.1) radius) rows))

-- the pivots don't decide whether the row is within the radius of the query
abbrev pub needs_distance : Distance → List Object → Object → ℕ → Entry → Bool
needs_distance dist pivots query radius row =
    let asked = vector_of dist pivots query in
    let cells = cells_of dist pivots row.1 in
    meets asked radius cells && not (is_sure asked radius cells)

-- the pivots alone show that the row is within the radius of the query
abbrev pub is_included : Distance → List Object → Object → ℕ → Entry → Bool
is_included dist pivots query radius row =
    let asked = vector_of dist pivots query in
    let cells = cells_of dist pivots row.1 in
    meets asked radius cells && is_sure asked radius cells

-- how many distances are computed: one for each pivot, and one for each row that the pivots don't decide
abbrev pub range_evals : Distance → List Object → List Entry → Object → ℕ → ℕ
range_evals dist pivots rows query radius = length pivots + count_by (needs_distance dist pivots query radius) rows

-- how many rows are within the radius by the pivots alone
abbrev pub range_sure : Distance → List Object → List Entry → Object → ℕ → ℕ
range_sure dist pivots rows query radius = count_by (is_included dist pivots query radius) rows

-- the answer to a range query
unfoldable pub range_answer : Distance → List Object → List Entry → Object → ℕ → RangeAnswer
range_answer dist pivots rows query radius = record {
  ids = scan_range dist rows query radius;
  evals = range_evals dist pivots rows query radius;
  sure = range_sure dist pivots rows query radius;
}

-- the objects that the query is measured with, in the rows' order: first the pivots
unfoldable pub range_visits : Distance → List Object → List Entry → Object → ℕ → List Object
range_visits dist pivots rows query radius = pivots ++ map (λ row. row.1) (filter (needs_distance dist pivots query radius) rows)

-- ---- the nearest

-- the distance of each row's object from the query, with its id
abbrev pub ranks_of : Distance → List Entry → Object → List Rank
ranks_of dist rows query = map (λ row. (dist query row.1, row.0)) rows

-- the first k of all rows, by distance and then by id
abbrev pub scan_near : Distance → List Entry → Object → ℕ → List Rank
scan_near dist rows query k = take k (sorted_by goes_before (ranks_of dist rows query))

-- the k-th of all rows, if there are that many
abbrev pub kth_rank : Distance → List Entry → Object → ℕ → Option Rank
kth_rank dist rows query k = slice_get (sorted_by goes_before (ranks_of dist rows query)) (k - 1)

-- the least rank that the pivots leave a row: the lower bound of its distance, with its id
abbrev pub rank_bound : Distance → List Object → Object → Entry → Rank
rank_bound dist pivots query row = (lower_bound (vector_of dist pivots query) (cells_of dist pivots row.1), row.0)

-- the pivots don't prune the row: its bound doesn't come after the last rank, if there is one
abbrev pub is_in_reach : Distance → List Object → Object → Option Rank → Entry → Bool
is_in_reach dist pivots query None row = true
is_in_reach dist pivots query (Some last) row = not (goes_before last (rank_bound dist pivots query row))

-- how many distances are computed: one for each pivot, and one for each row whose bound and id don't come after the
-- k-th rank
abbrev pub near_evals : Distance → List Object → List Entry → Object → ℕ → ℕ
near_evals dist pivots rows query k = length pivots + count_by (is_in_reach dist pivots query (kth_rank dist rows query k)) rows

-- the answer to a query for the k nearest
unfoldable pub near_answer : Distance → List Object → List Entry → Object → ℕ → NearAnswer
near_answer dist pivots rows query k = record {
  rows = scan_near dist rows query k;
  evals = near_evals dist pivots rows query k;
}

-- the objects that the query is measured with: first the pivots, then the rows by their bound and id
unfoldable pub near_visits : Distance → List Object → List Entry → Object → ℕ → List Object
near_visits dist pivots rows query k =
    pivots
    ++ map (λ row. row.1)
    (sorted_by (λ a b. goes_before (rank_bound dist pivots query a) (rank_bound dist pivots query b))
    (filter (is_in_reach dist pivots query (kth_rank dist rows query k)) rows))

-- ---- the pairs

-- all pairs of a row on the left and a row on the right
abbrev pub product : List Entry → List Entry → List (Entry × Entry)
product left right = flat_map (λ a. map (λ b. (a, b)) right) left

-- the pairs that a join looks at: all, or within one collection those with the lesser id on the left
abbrev pub considered_pairs : Bool → List Entry → List Entry → List (Entry × Entry)
considered_pairs same left right = if same then filter (λ p. nat_lt p.0.0 p.1.0) (product left right) else product left right

-- the ids of the pairs whose objects are within the radius of each other, in order
abbrev pub scan_join : Distance → List (Entry × Entry) → ℕ → List (ℕ × ℕ)
scan_join dist pairs radius = sorted_by goes_before (map (λ p. (p.0.0, p.1.0)) (filter (λ p. nat_le (dist p.0.1 p.1.1) radius) pairs))

-- the pivots don't decide whether the objects of the pair are within the radius of each other
abbrev pub pair_needs_distance : Distance → List Object → ℕ → Entry × Entry → Bool
pair_needs_distance dist pivots radius p =
    let a = cells_of dist pivots p.0.1 in
    let b = cells_of dist pivots p.1.1 in
    pair_meets a radius b && not (pair_is_sure a radius b)

-- the pivots alone show that the objects of the pair are within the radius of each other
abbrev pub pair_is_included : Distance → List Object → ℕ → Entry × Entry → Bool
pair_is_included dist pivots radius p =
    let a = cells_of dist pivots p.0.1 in
    let b = cells_of dist pivots p.1.1 in
    pair_meets a radius b && pair_is_sure a radius b

-- how many distances are computed: one for each pair that the pivots don't decide
abbrev pub join_evals : Distance → List Object → List (Entry × Entry) → ℕ → ℕ
join_evals dist pivots pairs radius = count_by (pair_needs_distance dist pivots radius) pairs

-- how many pairs are within the radius by the pivots alone
abbrev pub join_sure : Distance → List Object → List (Entry × Entry) → ℕ → ℕ
join_sure dist pivots pairs radius = count_by (pair_is_included dist pivots radius) pairs

-- the answer to a join of these pairs
unfoldable pub join_answer : Distance → List Object → List (Entry × Entry) → ℕ → JoinAnswer
join_answer dist pivots pairs radius = record {
  pairs = scan_join dist pairs radius;
  evals = join_evals dist pivots pairs radius;
  sure = join_sure dist pivots pairs radius;
}

-- the pairs of objects that are measured
unfoldable pub join_visits : Distance → List Object → List (Entry × Entry) → ℕ → List (List ℕ × List ℕ)
join_visits dist pivots pairs radius = map (λ p. (p.0.1, p.1.1)) (filter (pair_needs_distance dist pivots radius) pairs)
