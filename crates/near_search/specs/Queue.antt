-- The queue of a search: nodes and objects, in the order in which they are looked at.
use Rattle.std.specs.Prelude.{◌≡◌, ℕ, ◌≤◌, ◌<◌, Bool, false, List, [], ◌∷◌, length, count_by}
use Rattle.std.specs.List.{slice_index_or, flat_map}
use Rattle.std.specs.Ordering.{is_lt, nat_cmp, ordering_then}
use Rattle.std.specs.declared.cmp.Ordering.{Ordering}
use Rattle.std.specs.declared.cmp.Ordering.TheVariants.{Less, Greater}
use Rattle.spb_defs.specs.Scans.{Rank}
use Rattle.answer_lists.specs.Order.{goes_before, sorted_by}
use Rattle.near_search.specs.declared.queue.Kind.{Kind}
use Rattle.near_search.specs.declared.queue.Kind.TheVariants.{Node, Object}
use Rattle.near_search.specs.declared.queue.Waiting.{Waiting}

-- nodes before objects, nodes by their level, objects by their id
abbrev pub kind_cmp : Kind → Kind → Ordering
kind_cmp (Node a) (Node b) = nat_cmp a b
kind_cmp (Node a) (Object b) = Less
kind_cmp (Object a) (Node b) = Greater
kind_cmp (Object a) (Object b) = nat_cmp a b

-- by the bound, the kind and the place
abbrev pub waiting_cmp : Waiting → Waiting → Ordering
waiting_cmp a b = ordering_then (nat_cmp a.bound b.bound) (ordering_then (kind_cmp a.kind b.kind) (nat_cmp a.place b.place))

-- one is looked at before the other
abbrev pub is_visited_before : Waiting → Waiting → Bool
is_visited_before a b = is_lt (waiting_cmp a b)

-- the least id under it, by its kind
abbrev pub least_id : Kind → ℕ
least_id (Node level) = 0
least_id (Object id) = id

-- the least rank that what is under it may have: its bound, and the id of an object
abbrev pub least_rank : Waiting → Rank
least_rank w = (w.bound, least_id w.kind)

-- how many ranks go before this one
abbrev pub count_before : Rank → List Rank → ℕ
count_before rank ranks = count_by (λ other. goes_before other rank) ranks

-- it is pruned: this many of the ranks go before all that is under it
abbrev pub IsPruned : ℕ → List Rank → Waiting → Type 0
IsPruned k ranks w = k ≤ count_before (least_rank w) ranks

-- ---- the objects under the items

-- an object that may be measured: the lower bound of its distance, its id and its place
pub record Candidate : Type 0 where
  pub bound : ℕ
  pub id : ℕ
  pub place : ℕ

-- the candidate as an item of the queue
abbrev pub as_waiting : Candidate → Waiting
as_waiting c = record { bound = c.bound; kind = Object c.id; place = c.place }

-- the bound and the id
abbrev pub bound_rank : Candidate → Rank
bound_rank c = (c.bound, c.id)

-- by the bound, the id and the place
abbrev pub candidate_is_before : Candidate → Candidate → Bool
candidate_is_before a b = is_lt (ordering_then (nat_cmp a.bound b.bound) (ordering_then (nat_cmp a.id b.id) (nat_cmp a.place b.place)))

-- What is under each node, by its level and its place: the objects, and the bounds of the nodes, at every depth. A node
-- at a level weighs more than all that is in it, and has so many objects at most under it.
pub record Nodes : Type 0 where
  pub objects : ℕ → ℕ → List Candidate
  pub bounds : ℕ → ℕ → List ℕ
  pub weight : ℕ → ℕ
  pub most : ℕ → ℕ

abbrev pub candidates_of_kind : Nodes → ℕ → ℕ → Kind → List Candidate
candidates_of_kind nodes bound place (Node level) = nodes.objects level place
candidates_of_kind nodes bound place (Object id) = record { bound = bound; id = id; place = place } ∷ []

-- the objects under an item of the queue: an object is under itself
abbrev pub candidates_under : Nodes → Waiting → List Candidate
candidates_under nodes w = candidates_of_kind nodes w.bound w.place w.kind

abbrev pub bounds_kind : Nodes → ℕ → ℕ → Kind → List ℕ
bounds_kind nodes bound place (Node level) = bound ∷ nodes.bounds level place
bounds_kind nodes bound place (Object id) = []

-- the bounds of the nodes from an item on
abbrev pub bounds_under : Nodes → Waiting → List ℕ
bounds_under nodes w = bounds_kind nodes w.bound w.place w.kind

abbrev pub weight_kind : Nodes → Kind → ℕ
weight_kind nodes (Node level) = nodes.weight level
weight_kind nodes (Object id) = 1

-- an object weighs 1
abbrev pub weight_of : Nodes → Waiting → ℕ
weight_of nodes w = weight_kind nodes w.kind

abbrev pub most_kind : Nodes → Kind → ℕ
most_kind nodes (Node level) = nodes.most level
most_kind nodes (Object id) = 1

-- how many objects may be under it
abbrev pub most_of : Nodes → Waiting → ℕ
most_of nodes w = most_kind nodes w.kind

-- the objects under all items, in the order in which they are measured
abbrev pub queued_candidates : Nodes → List Waiting → List Candidate
queued_candidates nodes items = sorted_by candidate_is_before (flat_map (candidates_under nodes) items)

-- none goes before an earlier one, by bound and id
abbrev pub IsSortedByBound : List Candidate → Type 0
IsSortedByBound cs = (i j : ℕ) (d : Candidate) → i ≤ j → j < length cs
    → goes_before (bound_rank (slice_index_or cs j d)) (bound_rank (slice_index_or cs i d)) ≡ false
