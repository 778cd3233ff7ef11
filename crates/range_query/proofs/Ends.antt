-- What a whole pass over rows has found is what a scan of all rows finds.
use Rattle.std.proofs.Common.{◌≡◌, ℕ, ◌+◌, Bool, false, List, [], ◌++◌, length, get_or, Option, refl, sym, ap, ap₂, subst, ◌∙◌, arith}
use Rattle.std.specs.Prelude.{nat_lt, nat_le, filter, map, All}
use Rattle.std.proofs.lemmas.List.{map-append}
use Rattle.std.proofs.lemmas.Simd.{map-map}
use Rattle.metric_laws.specs.Log.{MeasuredPair, LogExtends, each_with}
use Rattle.metric_laws.specs.LogLaws.{LogExtends-then, LogExtends-same}
use Rattle.answer_lists.specs.Order.{sorted_by}
use Rattle.spb_defs.specs.Pivots.{vector_of, cells_of, meets, is_sure}
use Rattle.spb_defs.specs.Scans.{Entry, needs_distance, is_included, scan_range, range_evals, range_sure, range_answer, range_visits}
use Rattle.pivot_map.specs.Bounds.{BoundsHold}
use Rattle.pivot_map.specs.Rows.{AreRows, entry_of, entries_of}
use Rattle.pivot_map.specs.Verdicts.{query_verdict, IsTestOf}
use Rattle.pivot_map.specs.Verdicts as vectors
use Rattle.pivot_map.specs.VerdictLaws.{query-tells}
use Rattle.pivot_map.specs.declared.row.Row.{Row}
use Rattle.query_pass.specs.declared.verdict.Verdict.{Verdict}
use Rattle.query_pass.specs.declared.verdict.Verdict.TheVariants.{Apart}
use Rattle.query_pass.specs.declared.found.Found.{Found}
use Rattle.query_pass.specs.Verdicts.{verdict_of, is_within, was_measured, was_sure}
use Rattle.query_pass.specs.VerdictLaws.{verdict-within, verdict-measured, verdict-sure}
use Rattle.query_pass.specs.Findings.{PassesOver, MeasuresOpen}
use Rattle.query_pass.specs.PassLaws.{PassesOver-kept, MeasuresOpen-kept, kept_same, count_same}
use Rattle.query_pass.specs.Pairs.{IsRow}
use Rattle.range_query.specs.Passes.{verdict_of_row}

pub each_row : (admitted : List ℕ → Type 0) (dist : List ℕ → List ℕ → ℕ) (pivots : List (List ℕ)) (rows : List Row) → AreRows admitted dist pivots rows
    → All (IsRow admitted dist pivots) rows
each_row admitted dist pivots rows are = λ k d below. record { object = are.objects k d below; vector = are.vects k d below }

-- ---- rows that don't meet the query

module _ (dist : List ℕ → List ℕ → ℕ) (query asked : List ℕ) (radius : ℕ) where
  abbrev meets_query : Row → Bool
  meets_query row = meets asked radius row.vect

  abbrev judged : Row → Verdict
  judged = verdict_of_row dist asked query radius

  unmet : (row : Row) → meets_query row ≡ false → judged row ≡ Apart
  unmet row out = ap (λ met. verdict_of (vectors.verdict met (is_sure asked radius row.vect)) (nat_le (dist query row.object) radius)) out

  -- a pass over the rows that meet the query is one over all rows
  pub range-met : {K : Type 0} (name : Row → K) (rows : List Row) (start found : Found K) → PassesOver judged name (filter meets_query rows) start found
      → PassesOver judged name rows start found
  range-met name rows start found finds = PassesOver-kept judged name meets_query rows start found (λ k d below. unmet (get_or rows k d)) finds

  pub measured-met : (objects : Row → MeasuredPair) (rows : List Row) (count : ℕ) (log : Option (List MeasuredPair)) (count' : ℕ)
      (log' : Option (List MeasuredPair)) → MeasuresOpen judged objects (filter meets_query rows) count log count' log'
      → MeasuresOpen judged objects rows count log count' log'
  measured-met objects rows count log count' log' measures =
      MeasuresOpen-kept judged objects meets_query rows count log count' log' (λ k d below. unmet (get_or rows k d)) measures

-- ---- the end of a range

module _ (admitted : List ℕ → Type 0) (dist : List ℕ → List ℕ
    → ℕ) (pivots : List (List ℕ)) (bounds : BoundsHold admitted dist pivots) (rows : List Row) (are : All (IsRow admitted dist pivots) rows)
    (query asked : List ℕ) (radius : ℕ) (admits : admitted query) (is : asked ≡ vector_of dist pivots query) where
  abbrev verdict : Row → Verdict
  verdict = verdict_of_row dist asked query radius

  abbrev met : Entry → Bool
  met row = meets (vector_of dist pivots query) radius (cells_of dist pivots row.1)

  abbrev sure : Entry → Bool
  sure row = is_sure (vector_of dist pivots query) radius (cells_of dist pivots row.1)

  row-tells : (row : Row) → IsRow admitted dist pivots row → IsTestOf (query_verdict asked radius row.vect) (met (entry_of row)) (sure (entry_of row))
  row-tells row r =
      subst (λ a. IsTestOf (query_verdict asked radius row.vect) (meets a radius (cells_of dist pivots row.object))
      (is_sure a radius (cells_of dist pivots row.object))) is
      (subst (λ b. IsTestOf (query_verdict asked radius row.vect) (meets asked radius b) (is_sure asked radius b)) r.vector
      (query-tells asked row.vect radius))

  rows_within : All (λ row. is_within (verdict row) ≡ nat_le (dist query (entry_of row).1) radius) rows
  rows_within = λ k d below.
      verdict-within _ _ _ (dist query _) radius (row-tells _ (are k d below))
      (bounds.within_meets query _ radius admits (are k d below).object)
      (bounds.sure_within query _ radius admits (are k d below).object)

  rows_measured : All (λ row. was_measured (verdict row) ≡ needs_distance dist pivots query radius (entry_of row)) rows
  rows_measured = λ k d below. verdict-measured _ _ _ _ (row-tells _ (are k d below))

  rows_sure : All (λ row. was_sure (verdict row) ≡ is_included dist pivots query radius (entry_of row)) rows
  rows_sure = λ k d below. verdict-sure _ _ _ _ (row-tells _ (are k d below))

  range-ids : (start found : Found ℕ) → start.kept.items ≡ [] → PassesOver verdict (λ (row : Row). row.id) rows start found
      → sorted_by nat_lt found.kept.items ≡ scan_range dist (entries_of rows) query radius
  range-ids start found none finds =
      ap (sorted_by nat_lt)
      (finds.kept ∙ ap (λ kept. kept ++ map (λ (row : Row). row.id) (filter (λ row. is_within (verdict row)) rows)) none
      ∙ kept_same entry_of (λ row. is_within (verdict row)) (λ row. nat_le (dist query row.1) radius) (λ (row : Row). row.id) (λ row. row.0) (λ row. refl)
      rows rows_within)

  range-evals : (start found : Found ℕ) → start.evals ≡ 0 → PassesOver verdict (λ (row : Row). row.id) rows start found
      → length pivots + found.evals ≡ range_evals dist pivots (entries_of rows) query radius
  range-evals start found none finds =
      let a = finds.evals in
      let b = count_same entry_of (λ row. was_measured (verdict row)) (needs_distance dist pivots query radius) rows rows_measured in omega (arith, none, a, b)

  range-sure : (start found : Found ℕ) → start.sure ≡ 0 → PassesOver verdict (λ (row : Row). row.id) rows start found
      → found.sure ≡ range_sure dist pivots (entries_of rows) query radius
  range-sure start found none finds =
      let a = finds.sure in
      let b = count_same entry_of (λ row. was_sure (verdict row)) (is_included dist pivots query radius) rows rows_sure in omega (arith, none, a, b)

  -- what was found, in order, and what was counted are the answer to the query
  pub range-answer : (start found : Found ℕ) → start.kept.items ≡ [] → start.evals ≡ 0 → start.sure ≡ 0
      → PassesOver verdict (λ (row : Row). row.id) rows start found
      → (ids : List ℕ) (evals : ℕ) → ids ≡ sorted_by nat_lt found.kept.items → evals ≡ length pivots + found.evals
      → record { ids = ids; evals = evals; sure = found.sure } ≡ range_answer dist pivots (entries_of rows) query radius
  unfolding range_answer
  range-answer start found none no_evals no_sure finds ids evals of_ids of_evals =
      ap (λ ids. record { ids = ids; evals = evals; sure = found.sure }) (of_ids ∙ range-ids start found none finds)
      ∙ ap₂ (λ evals sure. record { ids = scan_range dist (entries_of rows) query radius; evals = evals; sure = sure }) (of_evals
      ∙ range-evals start found no_evals finds) (range-sure start found no_sure finds)

  pub range-log : (first : Option (List MeasuredPair)) (count : ℕ) (log : Option (List MeasuredPair)) (count' : ℕ) (log' : Option (List MeasuredPair))
      → LogExtends first log (each_with query pivots) → MeasuresOpen verdict (λ (row : Row). (query, row.object)) rows count log count' log'
      → LogExtends first log' (each_with query (range_visits dist pivots (entries_of rows) query radius))
  unfolding range_visits
  range-log first count log count' log' asks measures =
      let tests : map {B = MeasuredPair} (λ (row : Row). (query, row.object)) (filter (λ row. was_measured (verdict row)) rows)
      ≡ map (λ row. (query, row.1)) (filter (needs_distance dist pivots query radius) (entries_of rows)) =
      kept_same {K = MeasuredPair} entry_of (λ row. was_measured (verdict row)) (needs_distance dist pivots query radius) (λ (row : Row). (query, row.object))
      (λ row. (query, row.1)) (λ row. refl) rows rows_measured in
      let pair : List ℕ → MeasuredPair = λ other. (query, other) in
      let object : Entry → List ℕ = λ row. row.1 in
      let opened : List Entry = filter (needs_distance dist pivots query radius) (entries_of rows) in
      LogExtends-same first log' _ _
      (ap (λ more. each_with query pivots ++ more) (tests ∙ sym (map-map pair object opened)) ∙ sym (map-append pair pivots (map object opened)))
      (LogExtends-then first log log' _ _ asks measures.logged)
