-- An answer is the same for rows, or pairs of rows, in any order.
use Rattle.std.proofs.Common.{◌≡◌, ℕ, ◌+◌, ◌-◌, Bool, true, false, List, map, take, sym, ap, ap₂, ◌∙◌}
use Rattle.std.specs.Prelude.{nat_lt, nat_le, count_by, length, filter}
use Rattle.std.specs.List.{slice_get}
use Rattle.std.specs.List.Sorted.{IsPermutation}
use Rattle.std.proofs.lemmas.List.Sorted.{IsPermutation-trans, IsPermutation-map, sum_by-IsPermutation}
use Rattle.metric_laws.specs.Objects.{Object, Distance}
use Rattle.answer_lists.specs.Order.{goes_before, sorted_by}
use Rattle.answer_lists.specs.OrderLaws.{nat_order, pair_order, sorted_by-same}
use Rattle.answer_lists.specs.Permutations.{permutation-filter, permutation-flat_map, permutation-pieces}
use Rattle.spb_defs.specs.declared.RangeAnswer.{RangeAnswer}
use Rattle.spb_defs.specs.declared.NearAnswer.{NearAnswer}
use Rattle.spb_defs.specs.declared.JoinAnswer.{JoinAnswer}
use Rattle.spb_defs.specs.Scans.{Entry, needs_distance, is_included, range_evals, range_sure, range_answer, ranks_of, kth_rank, is_in_reach, near_evals, near_answer, product, considered_pairs, pair_needs_distance, pair_is_included, join_evals, join_sure, join_answer}

-- as many pass
count-moved : {A : Type 0} (p : A → Bool) (xs ys : List A) → IsPermutation xs ys → count_by p xs ≡ count_by p ys
count-moved p xs ys moved = sym (sum_by-IsPermutation _ xs ys moved)

module _ (dist : Distance) (pivots : List Object) (rows rows' : List Entry) (moved : IsPermutation rows rows') (query : List ℕ) where
  pub range_answer-moved : (radius : ℕ) → range_answer dist pivots rows query radius ≡ range_answer dist pivots rows' query radius
  unfolding range_answer
  range_answer-moved radius =
      let within = sorted_by-same nat_lt nat_order _ _
      (IsPermutation-map (λ row. row.0) _ _ (permutation-filter (λ row. nat_le (dist query row.1) radius) rows rows' moved)) in
      let open_ones : range_evals dist pivots rows query radius ≡ range_evals dist pivots rows' query radius =
      ap (λ n. length pivots + n) (count-moved (needs_distance dist pivots query radius) rows rows' moved) in
      let settled : range_sure dist pivots rows query radius ≡ range_sure dist pivots rows' query radius =
      count-moved (is_included dist pivots query radius) rows rows' moved in
      ap (λ ids. record { ids = ids; evals = range_evals dist pivots rows query radius; sure = range_sure dist pivots rows query radius }) within
      ∙ ap₂ (λ evals sure. record {
        ids = sorted_by nat_lt (map (λ row. row.0) (filter (λ row. nat_le (dist query row.1) radius) rows'));
        evals = evals;
        sure = sure;
      }) open_ones settled

  -- the ranks of all rows in order
  ranks-moved : sorted_by goes_before (ranks_of dist rows query) ≡ sorted_by goes_before (ranks_of dist rows' query)
  ranks-moved = sorted_by-same goes_before pair_order _ _ (IsPermutation-map (λ row. (dist query row.1, row.0)) rows rows' moved)

  near_evals-moved : (k : ℕ) → near_evals dist pivots rows query k ≡ near_evals dist pivots rows' query k
  near_evals-moved k =
      ap (λ n. length pivots + n)
      (count-moved (is_in_reach dist pivots query (kth_rank dist rows query k)) rows rows' moved
      ∙ ap (λ last. count_by (is_in_reach dist pivots query last) rows') (ap (λ ranks. slice_get ranks (k - 1)) ranks-moved))

  pub near_answer-moved : (k : ℕ) → near_answer dist pivots rows query k ≡ near_answer dist pivots rows' query k
  unfolding near_answer
  near_answer-moved k = ap₂ (λ rows evals. record { rows = rows; evals = evals }) (ap (take k) ranks-moved) (near_evals-moved k)

-- ---- pairs

pub product-moved : (left left' right right' : List Entry) → IsPermutation left left' → IsPermutation right right'
    → IsPermutation (product left right) (product left' right')
product-moved left left' right right' lefts rights =
    IsPermutation-trans _ _ _
    (permutation-flat_map (λ a. map (λ b. (a, b)) right) left left' lefts)
    (permutation-pieces (λ a. map (λ b. (a, b)) right) (λ a. map (λ b. (a, b)) right') (λ a. IsPermutation-map (λ b. (a, b)) right right' rights) left')

pub considered_pairs-moved : (same : Bool) (left left' right right' : List Entry) → IsPermutation left left' → IsPermutation right right'
    → IsPermutation (considered_pairs same left right) (considered_pairs same left' right')
considered_pairs-moved true left left' right right' lefts rights =
    permutation-filter (λ p. nat_lt p.0.0 p.1.0) (product left right) (product left' right') (product-moved left left' right right' lefts rights)
considered_pairs-moved false left left' right right' lefts rights = product-moved left left' right right' lefts rights

module _ (dist : Distance) (pivots : List Object) (pairs pairs' : List (Entry × Entry)) (moved : IsPermutation pairs pairs') (radius : ℕ) where
  pub join_answer-moved : join_answer dist pivots pairs radius ≡ join_answer dist pivots pairs' radius
  unfolding join_answer
  join_answer-moved =
      let within = sorted_by-same goes_before pair_order _ _
      (IsPermutation-map (λ p. (p.0.0, p.1.0)) _ _ (permutation-filter (λ p. nat_le (dist p.0.1 p.1.1) radius) pairs pairs' moved)) in
      let open_ones : join_evals dist pivots pairs radius ≡ join_evals dist pivots pairs' radius =
      count-moved (pair_needs_distance dist pivots radius) pairs pairs' moved in
      let settled : join_sure dist pivots pairs radius ≡ join_sure dist pivots pairs' radius =
      count-moved (pair_is_included dist pivots radius) pairs pairs' moved in
      ap (λ found. record { pairs = found; evals = join_evals dist pivots pairs radius; sure = join_sure dist pivots pairs radius }) within
      ∙ ap₂ (λ evals sure. record {
        pairs = sorted_by goes_before (map (λ p. (p.0.0, p.1.0)) (filter (λ p. nat_le (dist p.0.1 p.1.1) radius) pairs'));
        evals = evals;
        sure = sure;
      }) open_ones settled
