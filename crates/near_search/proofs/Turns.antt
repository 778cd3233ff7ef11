-- One iteration of the search: a node or an object was taken out of the queue.
use Rattle.std.proofs.Common.{◌≡◌, ℕ, ◌+◌, ◌≤◌, ◌<◌, ◌==◌, ◌&&◌, ◌||◌, Bool, true, false, List, [], ◌∷◌, ◌++◌, length, take, drop, get_or, refl, sym, ap, subst, ◌∙◌, append_assoc, append-nil, arith}
use Rattle.std.specs.Prelude.{nat_le, nat_lt, count_by, sum_by, if◌then◌else◌, All, IsPermutation}
use Rattle.std.specs.List.{AllByRecursion, flat_map}
use Rattle.std.proofs.lemmas.Bool.Decides.{nat_tests}
use Rattle.std.proofs.lemmas.List.Concat.{flat_map-cons, flat_map-append}
use Rattle.std.proofs.lemmas.List.Elements.{All-more}
use Rattle.std.proofs.lemmas.List.Sums.{sum_by-cons, sum_by-append}
use Rattle.std.proofs.lemmas.List.Sorted.{IsPermutation-refl, IsPermutation-trans, IsPermutation-append_left, IsPermutation-append_right, sum_by-IsPermutation}
use Rattle.answer_lists.specs.Order.{goes_before, with_inserted, sorted_by}
use Rattle.answer_lists.specs.OrderLaws.{Pair, pair_order, goes_before-is, all-sorted_by, sorted_by-same, sorted_by-append}
use Rattle.answer_lists.specs.Permutations.{permutation-flat_map, permutation-fronts}
use Rattle.metric_laws.specs.Log.{each_with}
use Rattle.near_search.specs.declared.queue.Kind.{Kind}
use Rattle.near_search.specs.declared.queue.Kind.TheVariants.{Node, Object}
use Rattle.near_search.specs.declared.queue.Waiting.{Waiting}
use Rattle.near_search.specs.Queue.{is_visited_before, least_id, least_rank, count_before, IsPruned, Candidate, bound_rank, candidate_is_before, Nodes, candidates_of_kind, candidates_under, bounds_kind, bounds_under, weight_kind, weight_of, most_kind, most_of, queued_candidates}
use Rattle.near_search.specs.Visits.{objects_at, IsSoundKind, IsLeast, Enqueues, Expands, Visited, AreBounds, nodes_in_reach}
use Rattle.near_search.proofs.Counting.{order, shut-is, open-is, count_before-append, count_before-more}
use Rattle.near_search.proofs.Lists.{all-append, all-drop, all-weaker, all-both, all-pieces, all-moved, moved-back, count-none}
use Rattle.near_search.proofs.Looking.{next-within, next-at, next-left, rank_at, ranks_at, seen-more, first-more, objects-more, no-fewer, no-more, told, ended}
use Rattle.near_search.proofs.Orders.{first_order, node-further, object-later, bound-later, key-later, open-first}

-- ---- tests

within-is : (k n : ℕ) → n < k → nat_lt n k ≡ true
within-is k n h = grind (arith, nat_tests)

without-is : (k n : ℕ) → k ≤ n → nat_lt n k ≡ false
without-is k n h = grind (arith, nat_tests)

le-told : (k m n : ℕ) → nat_le k m ≡ nat_le k n → k ≤ m → k ≤ n
le-told k m n same h = shut-is k n (sym (true-is k m h) ∙ same) where
  true-is : (k m : ℕ) → k ≤ m → nat_le k m ≡ true
  true-is k m h = grind (arith, nat_tests)

at_least : (a i x : ℕ) → x ≤ a → (nat_lt a x || ((a == x) && nat_lt i 0)) ≡ false
at_least a i x h = grind (arith, nat_tests)

-- a pair whose bound is no less doesn't go before it
at-least : (c : Pair) (x : ℕ) → x ≤ c.0 → goes_before c (x, 0) ≡ false
at-least c x h = goes_before-is c (x, 0) ∙ at_least c.0 c.1 x h

-- ---- what is under an item

module _ (nodes : Nodes) where
  keys-kind : (bound place : ℕ) (k : Kind) → AllByRecursion (λ (c : Candidate). bound ≤ c.bound) (candidates_of_kind nodes bound place k)
      → AllByRecursion (λ (c : Candidate). goes_before (bound_rank c) (bound, least_id k) ≡ false) (candidates_of_kind nodes bound place k)
  keys-kind bound place (Node level) all = all-weaker (λ (c : Candidate). bound ≤ c.bound) (λ (c : Candidate). goes_before (bound_rank c) (bound, 0) ≡ false)
      (λ c h. at-least (bound_rank c) bound h) (nodes.objects level place) all
  keys-kind bound place (Object id) all = (pair_order.never_itself (bound, id), tt)

  bounds-in-kind : (bound place : ℕ) (k : Kind) → AllByRecursion (λ (b : ℕ). bound ≤ b) (bounds_kind nodes bound place k)
      → AllByRecursion (λ (b : ℕ). goes_before (b, 0) (bound, least_id k) ≡ false) (bounds_kind nodes bound place k)
  bounds-in-kind bound place (Node level) all = all-weaker (λ (b : ℕ). bound ≤ b) (λ (b : ℕ). goes_before (b, 0) (bound, 0) ≡ false)
      (λ b h. at-least (b, 0) bound h) (bound ∷ nodes.bounds level place) all
  bounds-in-kind bound place (Object id) all = tt

  -- an object that goes first comes before all objects under what is left
  later-kind : (f : Waiting) (id bound place : ℕ) (k : Kind) → f.kind ≡ Object id
      → is_visited_before (record { bound = bound; kind = k; place = place }) (record { bound = f.bound; kind = Object id; place = f.place }) ≡ false
      → AllByRecursion (λ (c : Candidate). bound ≤ c.bound) (candidates_of_kind nodes bound place k)
      → AllByRecursion (λ (c : Candidate). candidate_is_before c (record { bound = f.bound; id = id; place = f.place }) ≡ false)
      (candidates_of_kind nodes bound place k)
  later-kind f id bound place (Node level) is first all =
      let less = node-further bound level place f.bound id f.place first in
      let this : Candidate = record { bound = f.bound; id = id; place = f.place } in
      all-weaker (λ (c : Candidate). bound ≤ c.bound) (λ (c : Candidate). candidate_is_before c this ≡ false)
      (λ c h. bound-later c this (omega (arith, less, h))) (nodes.objects level place) all
  later-kind f id bound place (Object next) is first all = (object-later bound next place f.bound id f.place first, tt)

  module _ (f : Waiting) (items new : List Waiting) (moved : IsPermutation items (f ∷ new)) where
    taken : (weigh : Waiting → ℕ) → sum_by weigh items ≡ weigh f + sum_by weigh new
    taken weigh = sym (sum_by-IsPermutation weigh items (f ∷ new) moved) ∙ sum_by-cons weigh f new

    -- the weights of what is put in
    module _ (can_visit : Waiting → Type 0) (level : ℕ) (now : List Waiting) (is : f.kind ≡ Node level) (opens : Enqueues nodes can_visit level new now) where
      put : (weigh : Waiting → ℕ) → sum_by weigh now ≡ sum_by weigh opens.put_in + sum_by weigh new
      put weigh = sum_by-IsPermutation weigh (opens.put_in ++ new) now opens.added ∙ sum_by-append weigh opens.put_in new

      pub lighter : sum_by (weight_of nodes) now < sum_by (weight_of nodes) items
      lighter =
          let a = taken (weight_of nodes) in
          let b = put (weight_of nodes) in
          let w : weight_of nodes f ≡ nodes.weight level = ap (weight_kind nodes) is in
          let l = opens.lighter in omega (arith, a, b, w, l)

      pub fewer : sum_by (most_of nodes) now ≤ sum_by (most_of nodes) items
      fewer =
          let a = taken (most_of nodes) in
          let b = put (most_of nodes) in
          let w : most_of nodes f ≡ nodes.most level = ap (most_kind nodes) is in
          let l = opens.fewer in omega (arith, a, b, w, l)

    module _ (id : ℕ) (is : f.kind ≡ Object id) where
      pub object-weighs : sum_by (weight_of nodes) items ≡ 1 + sum_by (weight_of nodes) new
      object-weighs =
          let a = taken (weight_of nodes) in
          let w : weight_of nodes f ≡ 1 = ap (weight_kind nodes) is in omega (arith, a, w)

      pub one-fewer : sum_by (most_of nodes) items ≡ 1 + sum_by (most_of nodes) new
      one-fewer =
          let a = taken (most_of nodes) in
          let w : most_of nodes f ≡ 1 = ap (most_kind nodes) is in omega (arith, a, w)

-- ---- what is known between two iterations

-- n candidates were measured, and the least ranks are the first of theirs. What is left is under the items and under
-- those that were left out of the queue, which the ranks that were seen prune. This many nodes of all in reach were
-- opened.
pub record Looked (dist : List ℕ → List ℕ → ℕ) (object_at : ℕ → List ℕ) (query : List ℕ) (nodes : Nodes) (is_sound : ℕ → ℕ
    → Type 0) (k : ℕ) (cs : List Candidate) (n : ℕ) (least : List Pair) (items : List Waiting) (opened all : ℕ) : Type 0 where
  pub within : n ≤ length cs
  pub first : least ≡ take k (sorted_by goes_before (ranks_at dist object_at query (take n cs)))
  pub looked_at : All (λ (c : Candidate). count_before (bound_rank c) (ranks_at dist object_at query cs) < k) (take n cs)
  pub aside : List Waiting
  pub left : drop n cs ≡ queued_candidates nodes (items ++ aside)
  pub bounded : AllByRecursion (IsLeast nodes is_sound) (items ++ aside)
  pub shut : AllByRecursion (IsPruned k (ranks_at dist object_at query (take n cs))) aside
  pub counted : opened + count_by (λ b. nat_lt (count_before (b, 0) (ranks_at dist object_at query cs)) k) (flat_map (bounds_under nodes) (items ++ aside))
      ≡ all

module _ (dist : List ℕ → List ℕ → ℕ) (object_at : ℕ → List ℕ) (query : List ℕ) (nodes : Nodes) (is_sound : ℕ → ℕ → Type 0) (k : ℕ) where
  -- nothing was looked at yet
  pub begun : (items : List Waiting) (least : List Pair) → AreBounds dist object_at query nodes is_sound items → least ≡ take k (sorted_by goes_before [])
      → Looked dist object_at query nodes is_sound k (queued_candidates nodes items) 0 least items 0 (nodes_in_reach dist object_at query nodes k items)
  begun items least bounds is =
      let none : items ++ [] ≡ items = append-nil items in record {
        within = omega arith;
        first = is;
        looked_at = λ j d below. absurd (omega (arith, below));
        aside = [];
        left = ap (queued_candidates nodes) (sym none);
        bounded = subst (AllByRecursion (IsLeast nodes is_sound)) (sym none) bounds.least;
        shut = tt;
        counted =
            (let whole = ap (λ xs. count_by (λ b. nat_lt (count_before (b, 0) (ranks_at dist object_at query (queued_candidates nodes items))) k)
            (flat_map (bounds_under nodes) xs)) none in
            omega (arith, whole));
      }

  -- no rank goes before the key of its candidate
  pub all-lower : (items : List Waiting) → AreBounds dist object_at query nodes is_sound items
      → AllByRecursion (λ (c : Candidate). goes_before (rank_at dist object_at query c) (bound_rank c) ≡ false) (queued_candidates nodes items)
  all-lower items bounds = all-sorted_by candidate_is_before (λ (c : Candidate). goes_before (rank_at dist object_at query c) (bound_rank c) ≡ false)
      (flat_map (candidates_under nodes) items) bounds.lower

  module _ (cs : List Candidate) (low : AllByRecursion (λ (c : Candidate). goes_before (rank_at dist object_at query c) (bound_rank c) ≡ false) cs) (n : ℕ)
      (least : List Pair) (items : List Waiting) (opened all : ℕ)
      (looked : Looked dist object_at query nodes is_sound k cs n least items opened all) where
    abbrev ranks : List Pair
    ranks = ranks_at dist object_at query cs

    abbrev seen : List Pair
    seen = ranks_at dist object_at query (take n cs)

    abbrev in_reach : ℕ → Bool
    in_reach b = nat_lt (count_before (b, 0) ranks) k

    abbrev bounds_of : List Waiting → List ℕ
    bounds_of ws = flat_map (bounds_under nodes) ws

    lower : AllByRecursion (λ (c : Candidate). goes_before (rank_at dist object_at query c) (bound_rank c) ≡ false) (drop n cs)
    lower = all-drop _ n cs low

    -- ---- all that is left is pruned

    keys-shut : (w : Waiting) → (IsLeast nodes is_sound w) × (IsPruned k seen w)
        → AllByRecursion (λ (c : Candidate). k ≤ count_before (bound_rank c) seen) (candidates_under nodes w)
    keys-shut w h =
        all-weaker (λ (c : Candidate). goes_before (bound_rank c) (least_rank w) ≡ false) (λ (c : Candidate). k ≤ count_before (bound_rank c) seen)
        (λ c later. let a = count_before-more (least_rank w) (bound_rank c) seen later in let b = h.1 in omega (arith, a, b)) (candidates_under nodes w)
        (keys-kind nodes w.bound w.place w.kind (h.0).objects)

    bounds-shut : (w : Waiting) → (IsLeast nodes is_sound w) × (IsPruned k seen w) → AllByRecursion (λ (b : ℕ). in_reach b ≡ false) (bounds_under nodes w)
    bounds-shut w h =
        all-weaker (λ (b : ℕ). goes_before (b, 0) (least_rank w) ≡ false) (λ (b : ℕ). in_reach b ≡ false)
        (λ b later. without-is k _ (let a = count_before-more (least_rank w) (b, 0) seen later in let c = no-fewer dist object_at query cs n lower (b, 0) in
        let d = h.1 in omega (arith, a, c, d))) (bounds_under nodes w)
        (bounds-in-kind nodes w.bound w.place w.kind (h.0).bounds)

    finished : (ws : List Waiting) → IsPermutation (items ++ looked.aside) ws → AllByRecursion (IsPruned k seen) ws → Visited dist object_at query cs k n least
    finished ws moved shut =
        let both = all-both (IsLeast nodes is_sound) (IsPruned k seen) ws (all-moved (IsLeast nodes is_sound) _ ws moved looked.bounded) shut in
        ended dist object_at query cs n lower k least looked.within looked.first looked.looked_at
        (subst (AllByRecursion (λ (c : Candidate). k ≤ count_before (bound_rank c) seen)) (sym looked.left)
        (all-sorted_by candidate_is_before (λ (c : Candidate). k ≤ count_before (bound_rank c) seen) (flat_map (candidates_under nodes) (items ++ looked.aside))
        (moved-back (λ (c : Candidate). k ≤ count_before (bound_rank c) seen) _ _ (permutation-flat_map (candidates_under nodes) _ ws moved)
        (all-pieces (λ w. (IsLeast nodes is_sound w)
        × (IsPruned k seen w)) (λ (c : Candidate). k ≤ count_before (bound_rank c) seen) (candidates_under nodes) keys-shut ws both))))

    none-left : (ws : List Waiting) → IsPermutation (items ++ looked.aside) ws → AllByRecursion (IsPruned k seen) ws → opened ≡ all
    none-left ws moved shut =
        let both = all-both (IsLeast nodes is_sound) (IsPruned k seen) ws (all-moved (IsLeast nodes is_sound) _ ws moved looked.bounded) shut in
        let none = count-none in_reach (bounds_of ws)
        (all-pieces (λ w. (IsLeast nodes is_sound w) × (IsPruned k seen w)) (λ (b : ℕ). in_reach b ≡ false) (bounds_under nodes) bounds-shut ws both) in
        let same : count_by in_reach (bounds_of ws) ≡ count_by in_reach (bounds_of (items ++ looked.aside)) =
        sum_by-IsPermutation _ _ _ (permutation-flat_map (bounds_under nodes) _ ws moved) in
        let counted = looked.counted in omega (arith, none, same, counted)

    -- the queue is empty: what is left was left out of it
    nothing-waits : items ≡ [] → items ++ looked.aside ≡ looked.aside
    nothing-waits none = ap (λ ws. ws ++ looked.aside) none

    pub visited-all : items ≡ [] → Visited dist object_at query cs k n least
    visited-all none = finished looked.aside (subst (IsPermutation (items ++ looked.aside)) (nothing-waits none) (IsPermutation-refl _)) looked.shut

    pub opened-all : items ≡ [] → opened ≡ all
    opened-all none = none-left looked.aside (subst (IsPermutation (items ++ looked.aside)) (nothing-waits none) (IsPermutation-refl _)) looked.shut

    -- ---- one is taken out

    module _ (f : Waiting) (new : List Waiting) (moved : IsPermutation items (f ∷ new))
        (first : AllByRecursion (λ (w : Waiting). is_visited_before w f ≡ false) new) where
      abbrev rest : List Waiting
      rest = new ++ looked.aside

      moved-on : IsPermutation (items ++ looked.aside) (f ∷ rest)
      moved-on = IsPermutation-append_left looked.aside items (f ∷ new) moved

      bounded : AllByRecursion (IsLeast nodes is_sound) (f ∷ rest)
      bounded = all-moved (IsLeast nodes is_sound) _ _ moved-on looked.bounded

      told-by : nat_le k (count_before (least_rank f) least) ≡ nat_le k (count_before (least_rank f) seen)
      told-by = told dist object_at query cs n lower k least looked.first (least_rank f)

      -- it is pruned, and so are all the others
      all-shut : true ≡ nat_le k (count_before (least_rank f) least) → AllByRecursion (IsPruned k seen) (f ∷ rest)
      all-shut shut =
          let this : IsPruned k seen f = shut-is k _ (shut ∙ told-by) in (
            this,
            all-append (IsPruned k seen) new looked.aside
                (all-weaker (λ (w : Waiting). is_visited_before w f ≡ false) (IsPruned k seen) (λ w h. let a =
                count_before-more (least_rank f) (least_rank w) seen (key-later f w h) in omega (arith, a, this)) new first) looked.shut,
          )

      pub visited-shut : true ≡ nat_le k (count_before (least_rank f) least) → Visited dist object_at query cs k n least
      visited-shut shut = finished (f ∷ rest) moved-on (all-shut shut)

      pub opened-shut : true ≡ nat_le k (count_before (least_rank f) least) → opened ≡ all
      opened-shut shut = none-left (f ∷ rest) moved-on (all-shut shut)

      -- it isn't pruned, and goes first of all that are left
      module _ (fits : false ≡ nat_le k (count_before (least_rank f) least)) where
        room : count_before (least_rank f) seen < k
        room = open-is k _ (fits ∙ told-by)

        rest-later : AllByRecursion (λ (w : Waiting). is_visited_before w f ≡ false) rest
        rest-later = all-append (λ (w : Waiting). is_visited_before w f ≡ false) new looked.aside first
            (all-weaker (IsPruned k seen) (λ (w : Waiting). is_visited_before w f ≡ false) (λ w h. open-first k seen f w room h) looked.aside looked.shut)

        keys-later : AllByRecursion (λ (w : Waiting). goes_before (least_rank w) (least_rank f) ≡ false) (f ∷ rest)
        keys-later = (
          pair_order.never_itself (least_rank f),
          all-weaker (λ (w : Waiting). is_visited_before w f ≡ false) (λ (w : Waiting). goes_before (least_rank w) (least_rank f) ≡ false)
              (λ w h. key-later f w h) rest rest-later,
        )

        candidates_under-later : (w : Waiting) → (IsLeast nodes is_sound w) × (goes_before (least_rank w) (least_rank f) ≡ false)
            → AllByRecursion (λ (c : Candidate). goes_before (bound_rank c) (least_rank f) ≡ false) (candidates_under nodes w)
        candidates_under-later w h =
            all-weaker (λ (c : Candidate). goes_before (bound_rank c) (least_rank w) ≡ false)
            (λ (c : Candidate). goes_before (bound_rank c) (least_rank f) ≡ false)
            (λ c later. order.chain (bound_rank c) (least_rank w) (least_rank f) later h.1) (candidates_under nodes w)
            (keys-kind nodes w.bound w.place w.kind (h.0).objects)

        left-later : AllByRecursion (λ (c : Candidate). goes_before (bound_rank c) (least_rank f) ≡ false) (drop n cs)
        left-later =
            subst (AllByRecursion (λ (c : Candidate). goes_before (bound_rank c) (least_rank f) ≡ false)) (sym looked.left)
            (all-sorted_by candidate_is_before (λ (c : Candidate). goes_before (bound_rank c) (least_rank f) ≡ false)
            (flat_map (candidates_under nodes) (items ++ looked.aside))
            (moved-back (λ (c : Candidate). goes_before (bound_rank c) (least_rank f) ≡ false) _ _
            (permutation-flat_map (candidates_under nodes) _ (f ∷ rest) moved-on)
            (all-pieces (λ w. (IsLeast nodes is_sound w) × (goes_before (least_rank w) (least_rank f) ≡ false))
            (λ (c : Candidate). goes_before (bound_rank c) (least_rank f) ≡ false) (candidates_under nodes) candidates_under-later (f ∷ rest)
            (all-both (IsLeast nodes is_sound) (λ (w : Waiting). goes_before (least_rank w) (least_rank f) ≡ false) (f ∷ rest) bounded keys-later))))

        -- fewer than k of all ranks go before its key
        few : count_before (least_rank f) ranks < k
        few = let a = no-more dist object_at query cs n lower (least_rank f) left-later in let b = room in omega (arith, a, b)

        counts : count_by in_reach (bounds_of (items ++ looked.aside)) ≡ count_by in_reach (bounds_under nodes f) + count_by in_reach (bounds_of rest)
        counts =
            sym (sum_by-IsPermutation _ _ _ (permutation-flat_map (bounds_under nodes) _ (f ∷ rest) moved-on))
            ∙ ap (count_by in_reach) (flat_map-cons (bounds_under nodes) f rest)
            ∙ sum_by-append (λ b. if in_reach b then 1 else 0) (bounds_under nodes f) (bounds_of rest)

        -- ---- an object is measured

        module _ (id : ℕ) (is : f.kind ≡ Object id) where
          abbrev this : Candidate
          this = record { bound = f.bound; id = id; place = f.place }

          itself : f ≡ record { bound = f.bound; kind = Object id; place = f.place }
          itself = ap {B = Waiting} (λ kind. record { bound = f.bound; kind = kind; place = f.place }) is

          one : sorted_by candidate_is_before (this ∷ []) ≡ this ∷ []
          unfolding sorted_by
          one = refl

          candidates-later : AllByRecursion (λ (c : Candidate). candidate_is_before c this ≡ false) (flat_map (candidates_under nodes) rest)
          candidates-later =
              all-pieces (λ w. (IsLeast nodes is_sound w)
              × (is_visited_before w f ≡ false)) (λ (c : Candidate). candidate_is_before c this ≡ false) (candidates_under nodes)
              (λ w h. later-kind nodes f id w.bound w.place w.kind is (subst (λ (g : Waiting). is_visited_before w g ≡ false) itself h.1) (h.0).objects) rest
              (all-both (IsLeast nodes is_sound) (λ (w : Waiting). is_visited_before w f ≡ false) rest bounded.1 rest-later)

          next : drop n cs ≡ this ∷ queued_candidates nodes rest
          next =
              looked.left
              ∙ sorted_by-same candidate_is_before first_order _ _ (permutation-flat_map (candidates_under nodes) _ (f ∷ rest) moved-on)
              ∙ ap (sorted_by candidate_is_before) (flat_map-cons (candidates_under nodes) f rest
              ∙ ap (λ kind. candidates_of_kind nodes f.bound f.place kind ++ flat_map (candidates_under nodes) rest) is)
              ∙ sorted_by-append candidate_is_before first_order (this ∷ []) (flat_map (candidates_under nodes) rest) (candidates-later, tt)
              ∙ ap (λ xs. xs ++ queued_candidates nodes rest) one

          within : n < length cs
          within = next-within cs (queued_candidates nodes rest) n this next

          at : this ≡ get_or cs n this
          at = next-at cs (queued_candidates nodes rest) n this next

          key : least_rank f ≡ bound_rank this
          key = ap {B = Pair} (λ kind. (f.bound, least_id kind)) is

          pub measured : (ranked : List Pair) → ranked ≡ take k (with_inserted goes_before (rank_at dist object_at query this) least)
              → Looked dist object_at query nodes is_sound k cs (n + 1) ranked new opened all
          measured ranked put = record {
            within = (let a = within in omega (arith, a));
            first = first-more dist object_at query cs n this within at k least ranked looked.first put;
            looked_at = All-more (λ (c : Candidate). count_before (bound_rank c) ranks < k) cs n this within looked.looked_at
                (subst (λ (c : Candidate). count_before (bound_rank c) ranks < k) at (subst (λ (p : Pair). count_before p ranks < k) key few));
            aside = looked.aside;
            left = sym (next-left cs (queued_candidates nodes rest) n this next);
            bounded = bounded.1;
            shut =
                subst (λ rs. AllByRecursion (IsPruned k rs) looked.aside) (sym (seen-more dist object_at query cs n this within at))
                (all-weaker (IsPruned k seen) (IsPruned k (seen ++ rank_at dist object_at query this ∷ [])) (λ w h. let a =
                count_before-append (least_rank w) seen (rank_at dist object_at query this ∷ []) in omega (arith, a, h)) looked.aside looked.shut);
            counted =
                (let a = counts in
                let b : count_by in_reach (bounds_under nodes f) ≡ 0 = ap (λ kind. count_by in_reach (bounds_kind nodes f.bound f.place kind)) is in
                let c = looked.counted in omega (arith, a, b, c));
          }

          pub logged : each_with query (objects_at object_at (take n cs)) ++ (query, object_at f.place) ∷ []
              ≡ each_with query (objects_at object_at (take (n + 1) cs))
          logged = objects-more dist object_at query cs n this within at

        -- ---- a node is opened

        module _ (level : ℕ) (is : f.kind ≡ Node level) (now : List Waiting) (opens : Expands nodes is_sound k least level f.place new now) where
          abbrev more : List Waiting
          more = opens.left_out ++ looked.aside

          replaced : IsPermutation (opens.rows ++ rest) (now ++ more)
          replaced =
              IsPermutation-trans _ _ _ (IsPermutation-append_left rest opens.rows _ opens.parts)
              (subst (λ xs. IsPermutation xs (now ++ more)) (sym (append_assoc opens.put_in opens.left_out rest))
              (IsPermutation-trans _ _ _ (IsPermutation-append_right opens.put_in _ _ (permutation-fronts opens.left_out new looked.aside))
              (subst (λ xs. IsPermutation xs (now ++ more)) (append_assoc opens.put_in new more)
              (IsPermutation-append_left more (opens.put_in ++ new) now opens.added))))

          same-objects : queued_candidates nodes (items ++ looked.aside) ≡ queued_candidates nodes (now ++ more)
          same-objects =
              sorted_by-same candidate_is_before first_order _ _
              (IsPermutation-trans _ _ _ (permutation-flat_map (candidates_under nodes) _ (f ∷ rest) moved-on)
              (subst (λ xs. IsPermutation xs (flat_map (candidates_under nodes) (now ++ more)))
              (sym (flat_map-cons (candidates_under nodes) f rest
              ∙ ap (λ kind. candidates_of_kind nodes f.bound f.place kind ++ flat_map (candidates_under nodes) rest) is))
              (IsPermutation-trans _ _ _ (IsPermutation-append_left (flat_map (candidates_under nodes) rest) _ _ opens.objects)
              (subst (λ xs. IsPermutation xs (flat_map (candidates_under nodes) (now ++ more))) (flat_map-append (candidates_under nodes) opens.rows rest)
              (permutation-flat_map (candidates_under nodes) _ _ replaced)))))

          sound : is_sound level f.place
          sound = subst (IsSoundKind is_sound f.place) is (bounded.0).sound

          node-key : least_rank f ≡ (f.bound, 0)
          node-key = ap {B = Pair} (λ kind. (f.bound, least_id kind)) is

          counts-now : 1 + count_by in_reach (bounds_of (now ++ more)) ≡ count_by in_reach (bounds_of (items ++ looked.aside))
          counts-now =
              let here : in_reach f.bound ≡ true = within-is k _ (subst (λ (p : Pair). count_before p ranks < k) node-key few) in
              let one = ap {B = ℕ} (λ (t : Bool). if t then 1 else 0) here in
              let a = counts in
              let b = ap (λ kind. count_by in_reach (bounds_kind nodes f.bound f.place kind)) is in
              let c = sum_by-cons (λ m. if in_reach m then 1 else 0) f.bound (nodes.bounds level f.place) in
              let d : count_by in_reach (nodes.bounds level f.place) ≡ count_by in_reach (bounds_of opens.rows) =
              sym (sum_by-IsPermutation _ _ _ opens.bounds) in
              let e : count_by in_reach (bounds_of (opens.rows ++ rest)) ≡ count_by in_reach (bounds_of (now ++ more)) =
              sym (sum_by-IsPermutation _ _ _ (permutation-flat_map (bounds_under nodes) _ _ replaced)) in
              let g = ap (count_by in_reach) (flat_map-append (bounds_under nodes) opens.rows rest) in
              let h = sum_by-append (λ m. if in_reach m then 1 else 0) (bounds_of opens.rows) (bounds_of rest) in
              omega (arith, one, a, b, c, d, e, g, h)

          pub went-on : Looked dist object_at query nodes is_sound k cs n least now (opened + 1) all
          went-on = record {
            within = looked.within;
            first = looked.first;
            looked_at = looked.looked_at;
            aside = more;
            left = looked.left ∙ same-objects;
            bounded = all-moved (IsLeast nodes is_sound) _ _ replaced (all-append (IsLeast nodes is_sound) opens.rows rest (opens.least sound) bounded.1);
            shut =
                all-append (IsPruned k seen) opens.left_out looked.aside
                (all-weaker (IsPruned k least) (IsPruned k seen)
                (λ w h. le-told k _ _ (told dist object_at query cs n lower k least looked.first (least_rank w)) h) opens.left_out opens.shut) looked.shut;
            counted = (let a = counts-now in let b = looked.counted in omega (arith, a, b));
          }
