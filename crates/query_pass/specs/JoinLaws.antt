-- What a whole pass over pairs has found is what a scan of all pairs finds, if those that it left out are apart.
use Rattle.std.proofs.Common.{◌≡◌, ℕ, Bool, List, [], ◌∷◌, ◌++◌, Option, refl, sym, ap, ap₂, subst, ◌∙◌, arith}
use Rattle.std.specs.Prelude.{nat_le, filter, map, All}
use Rattle.std.specs.List.Sorted.{IsPermutation}
use Rattle.std.proofs.lemmas.List.Sorted.{IsPermutation-map}
use Rattle.metric_laws.specs.Objects.{Object, Distance}
use Rattle.metric_laws.specs.Log.{MeasuredPair, LogExtendsInAnyOrder}
use Rattle.metric_laws.specs.LogLaws.{LogExtends-same}
use Rattle.answer_lists.specs.Order.{goes_before, sorted_by}
use Rattle.answer_lists.specs.Permutations.{permutation-filter}
use Rattle.scan_laws.specs.RowOrder.{join_answer-moved}
use Rattle.spb_defs.specs.Pivots.{cells_of, pair_meets, pair_is_sure}
use Rattle.spb_defs.specs.Scans.{Entry, scan_join, join_evals, join_sure, join_answer, join_visits, pair_needs_distance, pair_is_included}
use Rattle.pivot_map.specs.Bounds.{BoundsHold}
use Rattle.pivot_map.specs.Verdicts.{pair_verdict, IsTestOf}
use Rattle.pivot_map.specs.VerdictLaws.{pair-tells}
use Rattle.pivot_map.specs.declared.row.Row.{Row}
use Rattle.query_pass.specs.declared.verdict.Verdict.{Verdict}
use Rattle.query_pass.specs.declared.verdict.Verdict.TheVariants.{Apart}
use Rattle.query_pass.specs.declared.found.Found.{Found}
use Rattle.query_pass.specs.Verdicts.{is_within, was_measured, was_sure}
use Rattle.query_pass.specs.VerdictLaws.{verdict-within, verdict-measured, verdict-sure}
use Rattle.query_pass.specs.Findings.{PassesOver, MeasuresOpen}
use Rattle.query_pass.specs.PassLaws.{PassesOver-then, PassesOver-apart, MeasuresOpen-then, MeasuresOpen-apart, kept_same, count_same}
use Rattle.query_pass.specs.Pairs.{IsRow, ArePairs, pair_entries, pair_ids, pair_objects, verdict_of_pair}

-- ---- a pair

module _ (admitted : Object → Type 0) (dist : Distance) (pivots : List Object) (bounds : BoundsHold admitted dist pivots) (radius : ℕ) where
  -- a test of the cells of two objects
  abbrev of_cells : (List ℕ → ℕ → List ℕ → Bool) → Entry × Entry → Bool
  of_cells test p = test (cells_of dist pivots p.0.1) radius (cells_of dist pivots p.1.1)

  told-by-cells : (p : Row × Row) → IsRow admitted dist pivots p.0 → IsRow admitted dist pivots p.1
      → IsTestOf (pair_verdict p.0.vect radius p.1.vect) (of_cells pair_meets (pair_entries p)) (of_cells pair_is_sure (pair_entries p))
  told-by-cells p left right =
      subst (λ a. IsTestOf (pair_verdict p.0.vect radius p.1.vect) (pair_meets a radius (cells_of dist pivots p.1.object))
      (pair_is_sure a radius (cells_of dist pivots p.1.object))) left.vector
      (subst (λ b. IsTestOf (pair_verdict p.0.vect radius p.1.vect) (pair_meets p.0.vect radius b) (pair_is_sure p.0.vect radius b)) right.vector
      (pair-tells p.0.vect p.1.vect radius))

  pair-within : (p : Row × Row) → IsRow admitted dist pivots p.0 → IsRow admitted dist pivots p.1
      → is_within (verdict_of_pair dist radius p) ≡ nat_le (dist p.0.object p.1.object) radius
  pair-within p left right =
      verdict-within (pair_verdict p.0.vect radius p.1.vect) (of_cells pair_meets (pair_entries p)) (of_cells pair_is_sure (pair_entries p))
      (dist p.0.object p.1.object) radius
      (told-by-cells p left right)
      (bounds.within_pair_meets p.0.object p.1.object radius left.object right.object)
      (bounds.pair_sure_within p.0.object p.1.object radius left.object right.object)

  pair-measured : (p : Row × Row) → IsRow admitted dist pivots p.0 → IsRow admitted dist pivots p.1
      → was_measured (verdict_of_pair dist radius p) ≡ pair_needs_distance dist pivots radius (pair_entries p)
  pair-measured p left right =
      verdict-measured (pair_verdict p.0.vect radius p.1.vect) (of_cells pair_meets (pair_entries p)) (of_cells pair_is_sure (pair_entries p))
      (nat_le (dist p.0.object p.1.object) radius) (told-by-cells p left right)

  pair-sure : (p : Row × Row) → IsRow admitted dist pivots p.0 → IsRow admitted dist pivots p.1
      → was_sure (verdict_of_pair dist radius p) ≡ pair_is_included dist pivots radius (pair_entries p)
  pair-sure p left right =
      verdict-sure (pair_verdict p.0.vect radius p.1.vect) (of_cells pair_meets (pair_entries p)) (of_cells pair_is_sure (pair_entries p))
      (nat_le (dist p.0.object p.1.object) radius) (told-by-cells p left right)

-- ---- the end of a join

-- `tested` were passed over, `rest` were left out, and together they are the pairs that are looked at
module _ (admitted : Object → Type 0) (dist : Distance) (pivots : List Object) (bounds : BoundsHold admitted dist pivots) (radius : ℕ)
    (tested rest : List (Row × Row)) (looked_at : List (Entry × Entry)) (are : ArePairs admitted dist pivots (tested ++ rest))
    (moved : IsPermutation looked_at (map pair_entries (tested ++ rest))) (apart : All (λ pair. verdict_of_pair dist radius pair ≡ Apart) rest) where
  abbrev verdict : Row × Row → Verdict
  verdict = verdict_of_pair dist radius

  abbrev pairs : List (Row × Row)
  pairs = tested ++ rest

  finds-all : (start found : Found (ℕ × ℕ)) → PassesOver verdict pair_ids tested start found → PassesOver verdict pair_ids pairs start found
  finds-all start found finds = PassesOver-then verdict pair_ids tested rest start found found finds (PassesOver-apart verdict pair_ids rest found apart)

  each_pair : (P : Row × Row → Type 0) → ((p : Row × Row) → IsRow admitted dist pivots p.0 → IsRow admitted dist pivots p.1 → P p) → All P pairs
  each_pair P holds = λ k d below. holds _ (are.left k d below) (are.right k d below)

  pairs_within : All (λ p. is_within (verdict p) ≡ nat_le (dist (pair_entries p).0.1 (pair_entries p).1.1) radius) pairs
  pairs_within = each_pair (λ p. is_within (verdict p) ≡ nat_le (dist (pair_entries p).0.1 (pair_entries p).1.1) radius)
      (pair-within admitted dist pivots bounds radius)

  pairs_measured : All (λ p. was_measured (verdict p) ≡ pair_needs_distance dist pivots radius (pair_entries p)) pairs
  pairs_measured = each_pair (λ p. was_measured (verdict p) ≡ pair_needs_distance dist pivots radius (pair_entries p))
      (pair-measured admitted dist pivots bounds radius)

  pairs_sure : All (λ p. was_sure (verdict p) ≡ pair_is_included dist pivots radius (pair_entries p)) pairs
  pairs_sure = each_pair (λ p. was_sure (verdict p) ≡ pair_is_included dist pivots radius (pair_entries p)) (pair-sure admitted dist pivots bounds radius)

  abbrev entries : List (Entry × Entry)
  entries = map pair_entries pairs

  join-pairs : (start found : Found (ℕ × ℕ)) → start.kept.items ≡ [] → PassesOver verdict pair_ids pairs start found
      → sorted_by goes_before found.kept.items ≡ scan_join dist entries radius
  join-pairs start found none finds =
      ap (sorted_by goes_before)
      (finds.kept ∙ ap (λ kept. kept ++ map pair_ids (filter (λ p. is_within (verdict p)) pairs)) none
      ∙ kept_same {K = ℕ × ℕ} pair_entries (λ p. is_within (verdict p)) (λ p. nat_le (dist p.0.1 p.1.1) radius) pair_ids (λ p. (p.0.0, p.1.0)) (λ p. refl)
      pairs pairs_within)

  join-evals : (start found : Found (ℕ × ℕ)) → start.evals ≡ 0 → PassesOver verdict pair_ids pairs start found
      → found.evals ≡ join_evals dist pivots entries radius
  join-evals start found none finds =
      let a = finds.evals in
      let b = count_same pair_entries (λ p. was_measured (verdict p)) (pair_needs_distance dist pivots radius) pairs pairs_measured in omega (arith, none, a, b)

  join-sure : (start found : Found (ℕ × ℕ)) → start.sure ≡ 0 → PassesOver verdict pair_ids pairs start found → found.sure ≡ join_sure dist pivots entries radius
  join-sure start found none finds =
      let a = finds.sure in
      let b = count_same pair_entries (λ p. was_sure (verdict p)) (pair_is_included dist pivots radius) pairs pairs_sure in omega (arith, none, a, b)

  of-parts : (ids : List (ℕ × ℕ)) (evals sure : ℕ) → ids ≡ scan_join dist entries radius → evals ≡ join_evals dist pivots entries radius
      → sure ≡ join_sure dist pivots entries radius
      → record { pairs = ids; evals = evals; sure = sure } ≡ join_answer dist pivots entries radius
  unfolding join_answer
  of-parts ids evals sure a b c =
      ap (λ ids. record { pairs = ids; evals = evals; sure = sure }) a
      ∙ ap₂ (λ evals sure. record { pairs = scan_join dist entries radius; evals = evals; sure = sure }) b c

  -- what was found, in order, and what was counted are the answer to the join
  pub join-answer : (start found : Found (ℕ × ℕ)) → start.kept.items ≡ [] → start.evals ≡ 0 → start.sure ≡ 0 → PassesOver verdict pair_ids tested start found
      → (ids : List (ℕ × ℕ)) → ids ≡ sorted_by goes_before found.kept.items
      → record { pairs = ids; evals = found.evals; sure = found.sure } ≡ join_answer dist pivots looked_at radius
  join-answer start found none no_evals no_sure finds ids is =
      let all = finds-all start found finds in
      of-parts ids found.evals found.sure (is ∙ join-pairs start found none all) (join-evals start found no_evals all) (join-sure start found no_sure all)
      ∙ sym (join_answer-moved dist pivots looked_at entries moved radius)

  pub join-log : (count : ℕ) (log : Option (List MeasuredPair)) (count' : ℕ) (log' : Option (List MeasuredPair))
      → MeasuresOpen verdict pair_objects tested count log count' log'
      → LogExtendsInAnyOrder log log' (join_visits dist pivots looked_at radius)
  unfolding join_visits
  join-log count log count' log' measures =
      let all = MeasuresOpen-then verdict pair_objects tested rest count log count' log' count' log' measures
      (MeasuresOpen-apart verdict pair_objects rest count' log' apart) in
      let objects : Entry × Entry → MeasuredPair = λ p. (p.0.1, p.1.1) in
      let opened : Entry × Entry → Bool = pair_needs_distance dist pivots radius in
      let visits : map {B = MeasuredPair} pair_objects (filter (λ p. was_measured (verdict p)) pairs) ≡ map objects (filter opened (map pair_entries pairs)) =
      kept_same {K = MeasuredPair} pair_entries (λ p. was_measured (verdict p)) opened pair_objects objects (λ p. refl) pairs pairs_measured in (
        map objects (filter opened (map pair_entries pairs)),
        IsPermutation-map objects (filter opened looked_at) (filter opened (map pair_entries pairs))
            (permutation-filter opened looked_at (map pair_entries pairs) moved),
        LogExtends-same log log' _ _ visits all.logged,
      )
