-- What looking at nodes and objects in their order finds.
use Rattle.std.specs.Prelude.{◌≡◌, ℕ, ◌<◌, ◌≤◌, false, List, ◌++◌, nat_lt, length, take, drop, map, count_by, sum_by, All, IsPermutation}
use Rattle.std.specs.List.{AllByRecursion, flat_map}
use Rattle.metric_laws.specs.Objects.{Distance}
use Rattle.answer_lists.specs.Order.{goes_before, sorted_by}
use Rattle.spb_defs.specs.Scans.{Rank, Entry, ranks_of}
use Rattle.near_search.specs.declared.queue.Kind.{Kind}
use Rattle.near_search.specs.declared.queue.Kind.TheVariants.{Node, Object}
use Rattle.near_search.specs.declared.queue.Waiting.{Waiting}
use Rattle.near_search.specs.Queue.{Candidate, bound_rank, count_before, IsPruned, Nodes, candidates_under, bounds_under, weight_of, most_of, queued_candidates}

-- the id and the object of a candidate, with each object at its place
abbrev pub entry_at : (ℕ → List ℕ) → Candidate → Entry
entry_at object_at c = (c.id, object_at c.place)

abbrev pub entries_at : (ℕ → List ℕ) → List Candidate → List Entry
entries_at object_at cs = map (entry_at object_at) cs

abbrev pub objects_at : (ℕ → List ℕ) → List Candidate → List (List ℕ)
objects_at object_at cs = map (λ c. object_at c.place) cs

-- ---- the items of the queue

-- a node may be opened, by its level and place, and an object may be measured, by its id and place
abbrev pub CanVisitKind : (ℕ → ℕ → Type 0) → (ℕ → ℕ → Type 0) → ℕ → Kind → Type 0
CanVisitKind can_open can_measure place (Node level) = can_open level place
CanVisitKind can_open can_measure place (Object id) = can_measure id place

abbrev pub CanVisit : (ℕ → ℕ → Type 0) → (ℕ → ℕ → Type 0) → Waiting → Type 0
CanVisit can_open can_measure w = CanVisitKind can_open can_measure w.place w.kind

abbrev pub IsSoundKind : (ℕ → ℕ → Type 0) → ℕ → Kind → Type 0
IsSoundKind is_sound place (Node level) = is_sound level place
IsSoundKind is_sound place (Object id) = Unit {0}

-- nothing under it has a lesser bound, and that holds of each item in it
pub record IsLeast (nodes : Nodes) (is_sound : ℕ → ℕ → Type 0) (w : Waiting) : Type 0 where
  pub objects : AllByRecursion (λ (c : Candidate). w.bound ≤ c.bound) (candidates_under nodes w)
  pub bounds : AllByRecursion (λ (b : ℕ). w.bound ≤ b) (bounds_under nodes w)
  pub sound : IsSoundKind is_sound w.place w.kind

-- no bound is too great: neither that of an object for its distance, nor that of a node for what is under it
pub record AreBounds (dist : Distance) (object_at : ℕ → List ℕ) (query : List ℕ) (nodes : Nodes) (is_sound : ℕ → ℕ
    → Type 0) (items : List Waiting) : Type 0 where
  pub lower : AllByRecursion (λ (c : Candidate). goes_before (dist query (object_at c.place), c.id) (bound_rank c) ≡ false)
      (flat_map (candidates_under nodes) items)
  pub least : AllByRecursion (IsLeast nodes is_sound) items

-- A node of this level was opened: what was put in may be visited, weighs less than the node, and has no more objects
-- under it than the node may have.
pub record Enqueues (nodes : Nodes) (can_visit : Waiting → Type 0) (level : ℕ) (old new : List Waiting) : Type 0 where
  pub put_in : List Waiting
  pub added : IsPermutation (put_in ++ old) new
  pub visitable : AllByRecursion can_visit put_in
  pub lighter : sum_by (weight_of nodes) put_in < nodes.weight level
  pub fewer : sum_by (most_of nodes) put_in ≤ nodes.most level

-- The node of this level at this place was opened: its rows were put in, but for some that k of the ranks prune.
pub record Expands (nodes : Nodes) (is_sound : ℕ → ℕ → Type 0) (k : ℕ) (ranks : List Rank) (level place : ℕ) (old new : List Waiting) : Type 0 where
  pub rows : List Waiting
  pub objects : IsPermutation (nodes.objects level place) (flat_map (candidates_under nodes) rows)
  pub bounds : IsPermutation (nodes.bounds level place) (flat_map (bounds_under nodes) rows)
  pub least : is_sound level place → AllByRecursion (IsLeast nodes is_sound) rows
  pub put_in : List Waiting
  pub left_out : List Waiting
  pub parts : IsPermutation rows (put_in ++ left_out)
  pub added : IsPermutation (put_in ++ old) new
  pub shut : AllByRecursion (IsPruned k ranks) left_out

-- ---- what was found

-- how many nodes from the items on are in reach of the k-th of all objects under them: before the bound fewer than
-- k ranks go
abbrev pub nodes_in_reach : Distance → (ℕ → List ℕ) → List ℕ → Nodes → ℕ → List Waiting → ℕ
nodes_in_reach dist object_at query nodes k items =
    count_by (λ b. nat_lt (count_before (b, 0) (ranks_of dist (entries_at object_at (queued_candidates nodes items)) query)) k)
    (flat_map (bounds_under nodes) items)

-- The first n candidates are those before whose bound and id fewer than k ranks of all candidates go, and the least
-- ranks are the first k of all.
pub record Visited (dist : Distance) (object_at : ℕ → List ℕ) (query : List ℕ) (cs : List Candidate) (k n : ℕ) (least : List Rank) : Type 0 where
  pub within : n ≤ length cs
  pub looked_at : All (λ (c : Candidate). count_before (bound_rank c) (ranks_of dist (entries_at object_at cs) query) < k) (take n cs)
  pub left_out : All (λ (c : Candidate). k ≤ count_before (bound_rank c) (ranks_of dist (entries_at object_at cs) query)) (drop n cs)
  pub first : least ≡ take k (sorted_by goes_before (ranks_of dist (entries_at object_at cs) query))
