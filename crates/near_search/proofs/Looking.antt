-- What looking at the objects in order finds.
use Rattle.std.proofs.Common.{◌≡◌, ℕ, ◌+◌, ◌≤◌, ◌<◌, false, List, [], ◌∷◌, ◌++◌, length, take, drop, get_or, zero, suc, refl, sym, ap, ◌∙◌, arith}
use Rattle.std.specs.Prelude.{nat_le, All}
use Rattle.std.specs.List.{AllByRecursion}
use Rattle.std.proofs.lemmas.List.{take_more, map-append, length-drop, take-append-drop}
use Rattle.std.proofs.lemmas.List.Elements.{All-from_recursion}
use Rattle.answer_lists.specs.Order.{goes_before, with_inserted, sorted_by}
use Rattle.answer_lists.specs.OrderLaws.{Pair}
use Rattle.metric_laws.specs.Log.{each_with}
use Rattle.spb_defs.specs.Scans.{ranks_of}
use Rattle.near_search.specs.Queue.{Candidate, bound_rank, count_before}
use Rattle.near_search.specs.Visits.{entries_at, objects_at, Visited}
use Rattle.near_search.proofs.Counting.{in_order-sorted_by, order, count_before-append, count_before-none, count_before-more, count_before-take, count_before-sorted_by, sorted_by-none, sorted_by-more, with_inserted-take, take-far}
use Rattle.near_search.proofs.Lists.{all-weaker}

pub first-none : (k : ℕ) → [] ≡ take k (sorted_by goes_before [])
first-none zero = refl
first-none (suc k) = sym (ap (take (suc k)) sorted_by-none)

-- ---- the next of those that are left

pub next-within : (cs rest : List Candidate) (i : ℕ) (c : Candidate) → drop i cs ≡ c ∷ rest → i < length cs
next-within cs rest i c is = let long = length-drop i cs in let e : length (drop i cs) ≡ suc (length rest) = ap length is in omega (arith, long, e)

pub next-at : (cs rest : List Candidate) (i : ℕ) (c : Candidate) → drop i cs ≡ c ∷ rest → c ≡ get_or cs i c
next-at [] rest zero c is = refl
next-at [] rest (suc i) c is = refl
next-at (d ∷ cs) rest zero c is = sym (ap (λ ds. get_or ds 0 c) is)
next-at (d ∷ cs) rest (suc i) c is = next-at cs rest i c is

pub next-left : (cs rest : List Candidate) (i : ℕ) (c : Candidate) → drop i cs ≡ c ∷ rest → rest ≡ drop (i + 1) cs
next-left [] rest zero c is = absurd (let e : 0 ≡ suc (length rest) = ap length is in omega (arith, e))
next-left [] rest (suc i) c is = absurd (let e : 0 ≡ suc (length rest) = ap length is in omega (arith, e))
next-left (d ∷ cs) rest zero c is = sym (ap (drop 1) is)
next-left (d ∷ cs) rest (suc i) c is = next-left cs rest i c is ∙ ap (λ n. drop n (d ∷ cs)) (let e : suc (i + 1) ≡ suc i + 1 = omega arith in e)

module _ (dist : List ℕ → List ℕ → ℕ) (object_at : ℕ → List ℕ) (query : List ℕ) where
  -- the rank of a candidate
  abbrev pub rank_at : Candidate → Pair
  rank_at c = (dist query (object_at c.place), c.id)

  -- the ranks of candidates
  abbrev pub ranks_at : List Candidate → List Pair
  ranks_at cs = ranks_of dist (entries_at object_at cs) query

  ranks-append : (xs ys : List Candidate) → ranks_at (xs ++ ys) ≡ ranks_at xs ++ ranks_at ys
  ranks-append [] ys = refl
  ranks-append (x ∷ xs) ys = ap (λ rest. rank_at x ∷ rest) (ranks-append xs ys)

  -- one rank more
  pub seen-more : (cs : List Candidate) (i : ℕ) (c : Candidate) → i < length cs → c ≡ get_or cs i c
      → ranks_at (take (i + 1) cs) ≡ ranks_at (take i cs) ++ rank_at c ∷ []
  seen-more cs i c within at = ap ranks_at (take_more cs i c within) ∙ ranks-append (take i cs) (get_or cs i c ∷ [])
      ∙ ap (λ d. ranks_at (take i cs) ++ rank_at d ∷ []) (sym at)

  pub first-more : (cs : List Candidate) (i : ℕ) (c : Candidate) → i < length cs → c ≡ get_or cs i c → (k : ℕ) (least new : List Pair)
      → least ≡ take k (sorted_by goes_before (ranks_at (take i cs)))
      → new ≡ take k (with_inserted goes_before (rank_at c) least) → new ≡ take k (sorted_by goes_before (ranks_at (take (i + 1) cs)))
  first-more cs i c within at k least new is put =
      let seen = ranks_at (take i cs) in
      put ∙ ap (λ rs. take k (with_inserted goes_before (rank_at c) rs)) is ∙ with_inserted-take (rank_at c) k (sorted_by goes_before seen)
      ∙ ap (take k) (sym (sorted_by-more seen (rank_at c)) ∙ ap (sorted_by goes_before) (sym (seen-more cs i c within at)))

  pub objects-more : (cs : List Candidate) (i : ℕ) (c : Candidate) → i < length cs → c ≡ get_or cs i c
      → each_with query (objects_at object_at (take i cs)) ++ (query, object_at c.place) ∷ [] ≡ each_with query (objects_at object_at (take (i + 1) cs))
  objects-more cs i c within at =
      ap (λ (d : Candidate). each_with query (objects_at object_at (take i cs)) ++ (query, object_at d.place) ∷ []) at
      ∙ sym (map-append (λ (o : List ℕ). (query, o)) (objects_at object_at (take i cs)) (object_at (get_or cs i c).place ∷ []))
      ∙ ap (each_with query) (sym (map-append (λ (x : Candidate). object_at x.place) (take i cs) (get_or cs i c ∷ []))
      ∙ ap (objects_at object_at) (sym (take_more cs i c within)))

  -- ---- what the ranks that were seen decide

  module _ (cs : List Candidate) (i : ℕ) (lower : AllByRecursion (λ (c : Candidate). goes_before (rank_at c) (bound_rank c) ≡ false) (drop i cs)) where
    abbrev pub seen : List Pair
    seen = ranks_at (take i cs)

    whole : ranks_at cs ≡ seen ++ ranks_at (drop i cs)
    whole = ap ranks_at (sym (take-append-drop i cs)) ∙ ranks-append (take i cs) (drop i cs)

    -- no fewer of all go before a rank than of those that were seen
    pub no-fewer : (b : Pair) → count_before b seen ≤ count_before b (ranks_at cs)
    no-fewer b = let a = ap (count_before b) whole in let c = count_before-append b seen (ranks_at (drop i cs)) in omega (arith, a, c)

    later : (b : Pair) (xs : List Candidate) → AllByRecursion (λ (c : Candidate). goes_before (bound_rank c) b ≡ false) xs
        → AllByRecursion (λ (c : Candidate). goes_before (rank_at c) (bound_rank c) ≡ false) xs
        → AllByRecursion (λ (r : Pair). goes_before r b ≡ false) (ranks_at xs)
    later b [] h l = tt
    later b (c ∷ xs) h l = (order.chain (rank_at c) (bound_rank c) b l.0 h.0, later b xs h.1 l.1)

    -- and no more, before one that no key of the rest goes before
    pub no-more : (b : Pair) → AllByRecursion (λ (c : Candidate). goes_before (bound_rank c) b ≡ false) (drop i cs)
        → count_before b (ranks_at cs) ≡ count_before b seen
    no-more b keys =
        let none = count_before-none b (ranks_at (drop i cs)) (later b (drop i cs) keys lower) in
        let parts = count_before-append b seen (ranks_at (drop i cs)) in
        let all = ap (count_before b) whole in omega (arith, none, parts, all)

    -- the first k decide whether k of them go before
    pub told : (k : ℕ) (least : List Pair) → least ≡ take k (sorted_by goes_before seen) → (b : Pair)
        → nat_le k (count_before b least) ≡ nat_le k (count_before b seen)
    told k least is b = ap (λ rs. nat_le k (count_before b rs)) is ∙ count_before-take b k (sorted_by goes_before seen) (in_order-sorted_by seen)
        ∙ ap (nat_le k) (count_before-sorted_by b seen)

    far : (k : ℕ) (xs : List Candidate) → AllByRecursion (λ (c : Candidate). k ≤ count_before (bound_rank c) seen) xs
        → AllByRecursion (λ (c : Candidate). goes_before (rank_at c) (bound_rank c) ≡ false) xs
        → AllByRecursion (λ (r : Pair). k ≤ count_before r seen) (ranks_at xs)
    far k [] many l = tt
    far k (c ∷ xs) many l = (let a = count_before-more (bound_rank c) (rank_at c) seen l.0 in let b = many.0 in omega (arith, a, b), far k xs many.1 l.1)

    -- each of the rest has k of those seen before its key
    pub ended : (k : ℕ) (least : List Pair) → i ≤ length cs → least ≡ take k (sorted_by goes_before seen)
        → All (λ (c : Candidate). count_before (bound_rank c) (ranks_at cs) < k) (take i cs)
        → AllByRecursion (λ (c : Candidate). k ≤ count_before (bound_rank c) seen) (drop i cs) → Visited dist object_at query cs k i least
    ended k least within is all shut = record {
      within = within;
      looked_at = all;
      left_out = All-from_recursion _ (drop i cs) (all-weaker (λ (c : Candidate). k ≤ count_before (bound_rank c) seen)
          (λ (c : Candidate). k ≤ count_before (bound_rank c) (ranks_at cs)) (λ c h. let a = no-fewer (bound_rank c) in omega (arith, a, h)) (drop i cs) shut);
      first = is ∙ sym (take-far k seen (ranks_at (drop i cs)) (far k (drop i cs) shut lower)) ∙ ap (λ rs. take k (sorted_by goes_before rs)) (sym whole);
    }
