-- What was looked at and what was left out make the answer that a scan gives.
use Rattle.std.proofs.Common.{◌≡◌, ℕ, ◌+◌, ◌-◌, ◌≤◌, ◌<◌, Bool, true, false, Option, Some, None, List, [], ◌∷◌, ◌++◌, length, take, drop, get_or, suc, refl, sym, ap, ◌∙◌, append-nil, arith}
use Rattle.std.specs.Prelude.{not, nat_le, if◌then◌else◌, map, filter, count_by, All, IsPermutation}
use Rattle.std.specs.List.{AllByRecursion}
use Rattle.std.specs.List.Sorted.{IsSortedBy}
use Rattle.std.proofs.lemmas.List.{take-append-drop, get_or-map, map-append, length-map, length-take-le}
use Rattle.std.proofs.lemmas.List.Elements.{recursion_from_All, All-take, All-drop, filter-append}
use Rattle.std.proofs.lemmas.List.Sorted.{IsPermutation-map, sum_by-IsPermutation}
use Rattle.std.proofs.lemmas.List.Sums.{length-filter}
use Rattle.std.proofs.lemmas.Bool.Decides.{nat_tests}
use Rattle.answer_lists.specs.Order.{goes_before, sorted_by}
use Rattle.answer_lists.specs.OrderLaws as laws
use Rattle.answer_lists.specs.OrderLaws.{Pair}
use Rattle.metric_laws.specs.Log.{each_with}
use Rattle.spb_defs.specs.Scans.{Entry, ranks_of, scan_near, kth_rank, rank_bound, is_in_reach, near_evals, near_visits}
use Rattle.near_search.specs.Queue.{Candidate, bound_rank, count_before, IsSortedByBound}
use Rattle.near_search.specs.Visits.{entry_at, entries_at, objects_at, Visited}
use Rattle.near_search.proofs.Counting.{in_order-sorted_by, sorted_by-permuted, past, past-is, count_before-sorted_by}

-- ---- the ranks

module _ (dist : List ℕ → List ℕ → ℕ) (query : List ℕ) where
  abbrev rank_of : Entry → Pair
  rank_of row = (dist query row.1, row.0)

  ranks-permuted : (rows others : List Entry) → IsPermutation rows others
      → sorted_by goes_before (ranks_of dist others query) ≡ sorted_by goes_before (ranks_of dist rows query)
  ranks-permuted rows others moved = sorted_by-permuted (ranks_of dist rows query) (ranks_of dist others query) (IsPermutation-map rank_of rows others moved)

  pub nearest-found : (object_at : ℕ → List ℕ) (entries : List Entry) (cs : List Candidate) (k n : ℕ) (least : List Pair)
      → IsPermutation entries (entries_at object_at cs) → Visited dist object_at query cs k n least → least ≡ scan_near dist entries query k
  nearest-found object_at entries cs k n least moved visited = visited.first ∙ ap (take k) (ranks-permuted entries (entries_at object_at cs) moved)

  not_behind-is : (pivots : List (List ℕ)) (last : Option Pair) (row : Entry)
      → is_in_reach dist pivots query last row ≡ not (past last (rank_bound dist pivots query row))
  not_behind-is pivots None row = refl
  not_behind-is pivots (Some last) row = refl

  -- how many ranks go before its bound decides whether a row is in reach
  told : (pivots : List (List ℕ)) (rows : List Entry) (k : ℕ) (row : Entry) → 1 ≤ k
      → is_in_reach dist pivots query (kth_rank dist rows query k) row
      ≡ not (nat_le k (count_before (rank_bound dist pivots query row) (ranks_of dist rows query)))
  told pivots rows k row some =
      let b = rank_bound dist pivots query row in
      let ranks = ranks_of dist rows query in
      let one : suc (k - 1) ≡ k = omega (arith, some) in
      not_behind-is pivots (kth_rank dist rows query k) row
      ∙ ap not (past-is b (k - 1) (sorted_by goes_before ranks) (in_order-sorted_by ranks)
      ∙ ap (λ n. nat_le n (count_before b (sorted_by goes_before ranks))) one ∙ ap (nat_le k) (count_before-sorted_by b ranks))

few : (k n : ℕ) → n < k → not (nat_le k n) ≡ true
few k n h = grind (arith, nat_tests)

many : (k n : ℕ) → k ≤ n → not (nat_le k n) ≡ false
many k n h = grind (arith, nat_tests)

-- ---- filters

kept : {A B : Type 0} (p : B → Bool) (f : A → B) (xs : List A) → AllByRecursion (λ x. p (f x) ≡ true) xs → filter p (map f xs) ≡ map f xs
kept p f [] all = refl
kept p f (x ∷ xs) all = ap (λ (b : Bool). if b then f x ∷ filter p (map f xs) else filter p (map f xs)) all.0 ∙ ap (λ ys. f x ∷ ys) (kept p f xs all.1)

dropped : {A B : Type 0} (p : B → Bool) (f : A → B) (xs : List A) → AllByRecursion (λ x. p (f x) ≡ false) xs → filter p (map f xs) ≡ []
dropped p f [] all = refl
dropped p f (x ∷ xs) all = ap (λ (b : Bool). if b then f x ∷ filter p (map f xs) else filter p (map f xs)) all.0 ∙ dropped p f xs all.1

-- ---- what was looked at

module _ (dist : List ℕ → List ℕ → ℕ) (pivots : List (List ℕ)) (query : List ℕ) (object_at : ℕ
    → List ℕ) (entries : List Entry) (cs : List Candidate) (k n : ℕ) (least : List Pair)
    (some : 1 ≤ k) (moved : IsPermutation entries (entries_at object_at cs))
    (keys : All (λ (c : Candidate). bound_rank c ≡ rank_bound dist pivots query (entry_at object_at c)) cs)
    (visited : Visited dist object_at query cs k n least) where
  abbrev pub in_reach : Entry → Bool
  in_reach = is_in_reach dist pivots query (kth_rank dist entries query k)

  same-count : (b : Pair) → count_before b (ranks_of dist (entries_at object_at cs) query) ≡ count_before b (ranks_of dist entries query)
  same-count b = sum_by-IsPermutation _ _ _ (IsPermutation-map (rank_of dist query) entries (entries_at object_at cs) moved)

  reach-is : (c : Candidate) → bound_rank c ≡ rank_bound dist pivots query (entry_at object_at c)
      → in_reach (entry_at object_at c) ≡ not (nat_le k (count_before (bound_rank c) (ranks_of dist (entries_at object_at cs) query)))
  reach-is c key =
      told dist query pivots entries k (entry_at object_at c) some
      ∙ ap (λ m. not (nat_le k m)) (ap (λ b. count_before b (ranks_of dist entries query)) (sym key) ∙ sym (same-count (bound_rank c)))

  inside : All (λ (c : Candidate). in_reach (entry_at object_at c) ≡ true) (take n cs)
  inside j d below = reach-is (get_or (take n cs) j d)
      (All-take (λ (c : Candidate). bound_rank c ≡ rank_bound dist pivots query (entry_at object_at c)) n cs keys j d below)
      ∙ few k _ (visited.looked_at j d below)

  outside : All (λ (c : Candidate). in_reach (entry_at object_at c) ≡ false) (drop n cs)
  outside j d below = reach-is (get_or (drop n cs) j d)
      (All-drop (λ (c : Candidate). bound_rank c ≡ rank_bound dist pivots query (entry_at object_at c)) n cs keys j d below)
      ∙ many k _ (visited.left_out j d below)

  -- those looked at are those in reach
  pub reached : filter in_reach (entries_at object_at cs) ≡ entries_at object_at (take n cs)
  reached =
      ap (λ xs. filter in_reach (entries_at object_at xs)) (sym (take-append-drop n cs))
      ∙ ap (filter in_reach) (map-append (entry_at object_at) (take n cs) (drop n cs))
      ∙ filter-append in_reach (entries_at object_at (take n cs)) (entries_at object_at (drop n cs))
      ∙ ap (λ xs. xs ++ filter in_reach (entries_at object_at (drop n cs))) (kept in_reach (entry_at object_at) (take n cs) (recursion_from_All _ _ inside))
      ∙ ap (λ xs. entries_at object_at (take n cs) ++ xs) (dropped in_reach (entry_at object_at) (drop n cs) (recursion_from_All _ _ outside))
      ∙ append-nil (entries_at object_at (take n cs))

  pub evals-found : length pivots + n ≡ near_evals dist pivots entries query k
  evals-found =
      let a : count_by in_reach (entries_at object_at cs) ≡ count_by in_reach entries = sum_by-IsPermutation _ _ _ moved in
      let b : length (filter in_reach (entries_at object_at cs)) ≡ count_by in_reach (entries_at object_at cs) =
      length-filter in_reach (entries_at object_at cs) in
      let c : length (filter in_reach (entries_at object_at cs)) ≡ n = ap length reached ∙ length-map (take n cs) (entry_at object_at)
      ∙ length-take-le n cs visited.within in omega (arith, a, b, c)

  -- the objects that are looked at are those in reach, by their bounds and ids
  module _ (distinct : laws.HasDistinctKeys (rank_bound dist pivots query) entries) (rises : IsSortedByBound cs) where
    bound-at : (i : ℕ) (none : Candidate) (d : Entry) → i < length cs
        → bound_rank (get_or cs i none) ≡ rank_bound dist pivots query (get_or (entries_at object_at cs) i d)
    bound-at i none d inside = keys i none inside ∙ ap (rank_bound dist pivots query) (sym (get_or-map (entry_at object_at) cs i none d inside))

    bounds-rise : IsSortedBy (λ (a b : Entry). goes_before (rank_bound dist pivots query a) (rank_bound dist pivots query b)) (entries_at object_at cs)
    bounds-rise j d low below =
        let none : Candidate = record { bound = 0; id = 0; place = 0 } in
        let long = length-map cs (entry_at object_at) in
        let later : j + 1 < length cs = omega (arith, below, long) in
        ap (λ b. goes_before b (rank_bound dist pivots query (get_or (entries_at object_at cs) j d))) (sym (bound-at (j + 1) none d later))
        ∙ ap (goes_before (bound_rank (get_or cs (j + 1) none))) (sym (bound-at j none d (omega (arith, later))))
        ∙ rises j (j + 1) none (omega arith) later

    pub visits-found : each_with query pivots ++ each_with query (objects_at object_at (take n cs)) ≡ each_with query (near_visits dist pivots entries query k)
    unfolding near_visits
    visits-found =
        let by = λ (a b : Entry). goes_before (rank_bound dist pivots query a) (rank_bound dist pivots query b) in
        let weak = laws.weak_by_key goes_before laws.pair_order (rank_bound dist pivots query) in
        let whole : entries_at object_at cs ≡ sorted_by by entries =
        laws.arranged_by-unique goes_before laws.pair_order (rank_bound dist pivots query) entries (entries_at object_at cs) moved distinct
        (laws.in_order-from_sorted by weak (entries_at object_at cs) bounds-rise) in
        let rows : sorted_by by (filter in_reach entries) ≡ entries_at object_at (take n cs) =
        laws.arranged_by-filter goes_before laws.pair_order (rank_bound dist pivots query) in_reach entries ∙ ap (filter in_reach) (sym whole) ∙ reached in
        sym (map-append (λ (o : List ℕ). (query, o)) pivots (objects_at object_at (take n cs)))
        ∙ ap (λ os. each_with query (pivots ++ os)) (objects-are (take n cs) ∙ ap (map (λ (row : Entry). row.1)) (sym rows))
      where
        objects-are : (xs : List Candidate) → objects_at object_at xs ≡ map (λ (row : Entry). row.1) (entries_at object_at xs)
        objects-are [] = refl
        objects-are (x ∷ xs) = ap (λ os. object_at x.place ∷ os) (objects-are xs)
