-- What a whole pass over pairs of rows has found is what a scan of all pairs finds.
use Rattle.std.proofs.Common.{◌≡◌, ◌≢◌, ℕ, Bool, true, false, List, [], ◌∷◌, ◌++◌, length, suc, get_or, ◌<◌, Option, refl, sym, ap, subst, ◌∙◌, append-nil, arith}
use Rattle.std.specs.Prelude.{◌&&◌, nat_lt, if◌then◌else◌, map, drop, All, AllPairs}
use Rattle.std.specs.List.Sorted.{IsPermutation}
use Rattle.std.proofs.lemmas.List.{length-map, map-append}
use Rattle.std.proofs.lemmas.List.Elements.{All-nil, All-head, All-tail, All-weaker, All-append, All-map, All-drop, All-get_or}
use Rattle.metric_laws.specs.Log.{MeasuredPair, LogExtendsInAnyOrder}
use Rattle.answer_lists.specs.Order.{goes_before, sorted_by}
use Rattle.spb_defs.specs.Pivots.{cells_of}
use Rattle.spb_defs.specs.Scans.{Entry, considered_pairs, join_answer, join_visits}
use Rattle.pivot_map.specs.Bounds.{BoundsHold}
use Rattle.pivot_map.specs.Rows.{AreRows, entry_of, entries_of}
use Rattle.pivot_map.specs.declared.row.Row.{Row}
use Rattle.query_pass.specs.declared.verdict.Verdict.{Verdict}
use Rattle.query_pass.specs.declared.verdict.Verdict.TheVariants.{Apart}
use Rattle.query_pass.specs.declared.found.Found.{Found}
use Rattle.query_pass.specs.Findings.{PassesOver, MeasuresOpen}
use Rattle.query_pass.specs.Pairs.{IsRow, ArePairs, pair_entries, verdict_of_pair, pair_ids, pair_objects, ordered_pair}
use Rattle.query_pass.specs.JoinLaws as laws
use Rattle.range_query.specs.Passes.{AreAlike, pairs_of, partners_of}
use Rattle.range_query.proofs.Passing.{passed}
use Rattle.range_query.proofs.Ends.{each_row}
use Rattle.range_query.proofs.Halves.{turned, turned_all, AreDistinct, considered_pairs-turned}

-- ---- rows and their entries

turned_if : (b : Bool) (left right : Row)
    → pair_entries (if b then (right, left) else (left, right)) ≡ (if b then (entry_of right, entry_of left) else (entry_of left, entry_of right))
turned_if true left right = refl
turned_if false left right = refl

pairs_of-entries : (same : Bool) (others : List Row) (left : Row)
    → map pair_entries (pairs_of same others left) ≡ map (turned same (entry_of left)) (entries_of others)
pairs_of-entries same [] left = refl
pairs_of-entries same (x ∷ others) left =
    ap (λ (p : Entry × Entry). p ∷ map pair_entries (pairs_of same others left)) (turned_if (same && nat_lt x.id left.id) left x)
    ∙ ap (λ ps. turned same (entry_of left) (entry_of x) ∷ ps) (pairs_of-entries same others left)

passed-entries : (same : Bool) (left right : List Row) → map pair_entries (passed same left right) ≡ turned_all same (entries_of left) (entries_of right)
passed-entries true [] right = refl
passed-entries false [] right = refl
passed-entries true (row ∷ rows) right =
    map-append pair_entries (pairs_of true rows row) (passed true rows right)
    ∙ ap (λ ps. ps ++ map pair_entries (passed true rows right)) (pairs_of-entries true rows row)
    ∙ ap (λ ps. map (turned true (entry_of row)) (entries_of rows) ++ ps) (passed-entries true rows right)
passed-entries false (row ∷ rows) right =
    map-append pair_entries (pairs_of false right row) (passed false rows right)
    ∙ ap (λ ps. ps ++ map pair_entries (passed false rows right)) (pairs_of-entries false right row)
    ∙ ap (λ ps. map (turned false (entry_of row)) (entries_of right) ++ ps) (passed-entries false rows right)

distinct-entries : (rows : List Row) → AllPairs (λ (a b : Row). a.id ≢ b.id) rows → AreDistinct (entries_of rows)
distinct-entries [] ids = tt
distinct-entries (row ∷ rows) ids = (
  All-map (λ (c : Entry). row.id ≢ c.0) entry_of rows (λ k d below. ids 0 (suc k) d (omega arith) (omega (arith, below))),
  distinct-entries rows (λ i j d less below. ids (suc i) (suc j) d (omega (arith, less)) (omega (arith, below))),
)

-- the pairs that were passed over are those that a join looks at
passed-considered_pairs : (admitted : List ℕ → Type 0) (dist : List ℕ → List ℕ → ℕ) (pivots : List (List ℕ)) (same : Bool) (left right : List Row)
    → (same ≡ true → left ≡ right) → AreRows admitted dist pivots left
    → IsPermutation (considered_pairs same (entries_of left) (entries_of right)) (map pair_entries (passed same left right))
passed-considered_pairs admitted dist pivots same left right one are =
    subst (IsPermutation (considered_pairs same (entries_of left) (entries_of right))) (sym (passed-entries same left right))
    (considered_pairs-turned same (entries_of left) (entries_of right) (λ h. ap entries_of (one h)) (distinct-entries left are.ids))

-- ---- what holds of the pairs

pair_if : (P : Row × Row → Type 0) (b : Bool) (left right : Row) → P (left, right) → P (right, left) → P (if b then (right, left) else (left, right))
pair_if P true left right there back = back
pair_if P false left right there back = there

module _ (admitted : List ℕ → Type 0) (dist : List ℕ → List ℕ → ℕ) (pivots : List (List ℕ)) where
  with_others : (P : Row × Row → Type 0) → ((a b : Row) → IsRow admitted dist pivots a → IsRow admitted dist pivots b → P (a, b))
      → (same : Bool) (row : Row) (others : List Row) → IsRow admitted dist pivots row → All (IsRow admitted dist pivots) others
      → All P (pairs_of same others row)
  with_others P holds same row others is are =
      All-map P (ordered_pair same row) others
      (All-weaker (IsRow admitted dist pivots) (λ (x : Row). P (ordered_pair same row x))
      (λ x r. pair_if P (same && nat_lt x.id row.id) row x (holds row x is r) (holds x row r is)) others are)

  all_if : (b : Bool) (rows right : List Row) → All (IsRow admitted dist pivots) rows → All (IsRow admitted dist pivots) right
      → All (IsRow admitted dist pivots) (if b then rows else right)
  all_if true rows right a b = a
  all_if false rows right a b = b

  all_passed : (P : Row × Row → Type 0) → ((a b : Row) → IsRow admitted dist pivots a → IsRow admitted dist pivots b → P (a, b))
      → (same : Bool) (left right : List Row) → All (IsRow admitted dist pivots) left → All (IsRow admitted dist pivots) right → All P (passed same left right)
  all_passed P holds same [] right first second = All-nil P
  all_passed P holds same (row ∷ rows) right first second =
      let head = All-head (IsRow admitted dist pivots) row rows first in
      let tail = All-tail (IsRow admitted dist pivots) row rows first in
      All-append P (pairs_of same (if same then rows else right) row) (passed same rows right)
      (with_others P holds same row (if same then rows else right) head (all_if same rows right tail second))
      (all_passed P holds same rows right tail second)

  length_same : (vector other : List ℕ) (a b : List ℕ) → vector ≡ cells_of dist pivots a → other ≡ cells_of dist pivots b → length vector ≡ length other
  length_same vector other a b is are =
      let e = ap length is in
      let f = ap length are in
      let h = length-map {B = ℕ} pivots (λ pivot. dist a pivot) in
      let k = length-map {B = ℕ} pivots (λ pivot. dist b pivot) in omega (arith, e, f, h, k)

  alike : (row : Row) (rows : List Row) → IsRow admitted dist pivots row → All (IsRow admitted dist pivots) rows → AreAlike admitted (length row.vect) rows
  alike row rows is are = record {
    objects = λ k d below. (are k d below).object;
    vectors = λ k d below. length_same row.vect _ row.object _ is.vector (are k d below).vector;
  }

  -- the rows that a row is paired with
  pub partners-alike : (left right : List Row) (i next : ℕ) (row : Row) (same : Bool) (others : List Row) → AreRows admitted dist pivots left
      → AreRows admitted dist pivots right → i < length left → row ≡ get_or left i row → others ≡ partners_of same right next
      → AreAlike admitted (length row.vect) others
  partners-alike left right i next row same others first second below is are =
      let Is : Row → Type 0 = IsRow admitted dist pivots in
      let here : Is row = subst Is (sym is) (All-get_or Is left i row below (each_row admitted dist pivots left first)) in
      let rights = each_row admitted dist pivots right second in
      subst (AreAlike admitted (length row.vect)) (sym are)
      (alike row (partners_of same right next) here (all_if same (drop next right) right (All-drop Is next right rights) rights))

-- ---- the end of a join

module _ (admitted : List ℕ → Type 0) (dist : List ℕ → List ℕ
    → ℕ) (pivots : List (List ℕ)) (bounds : BoundsHold admitted dist pivots) (left right : List Row) (first : AreRows admitted dist pivots left)
    (second : AreRows admitted dist pivots right) (same : Bool) (one : same ≡ true → left ≡ right) (radius : ℕ) where
  abbrev verdict : Row × Row → Verdict
  verdict = verdict_of_pair dist radius

  abbrev pairs : List (Row × Row)
  pairs = passed same left right

  abbrev looked_at : List (Entry × Entry)
  looked_at = considered_pairs same (entries_of left) (entries_of right)

  are_pairs : ArePairs admitted dist pivots pairs
  are_pairs =
      let lefts = each_row admitted dist pivots left first in
      let rights = each_row admitted dist pivots right second in record {
        left = all_passed admitted dist pivots (λ (pair : Row × Row). IsRow admitted dist pivots pair.0) (λ a b ra rb. ra) same left right lefts rights;
        right = all_passed admitted dist pivots (λ (pair : Row × Row). IsRow admitted dist pivots pair.1) (λ a b ra rb. rb) same left right lefts rights;
      }

  -- none is left out
  whole : pairs ≡ pairs ++ []
  whole = sym (append-nil pairs)

  all_are : ArePairs admitted dist pivots (pairs ++ [])
  all_are = subst (λ (all : List (Row × Row)). ArePairs admitted dist pivots all) whole are_pairs

  all_moved : IsPermutation looked_at (map pair_entries (pairs ++ []))
  all_moved = subst (λ (all : List (Row × Row)). IsPermutation looked_at (map pair_entries all)) whole
      (passed-considered_pairs admitted dist pivots same left right one first)

  none_apart : All (λ pair. verdict pair ≡ Apart) []
  none_apart = All-nil (λ pair. verdict pair ≡ Apart)

  pub join-answer : (start found : Found (ℕ × ℕ)) → start.kept.items ≡ [] → start.evals ≡ 0 → start.sure ≡ 0 → PassesOver verdict pair_ids pairs start found
      → (ids : List (ℕ × ℕ)) → ids ≡ sorted_by goes_before found.kept.items
      → record { pairs = ids; evals = found.evals; sure = found.sure } ≡ join_answer dist pivots looked_at radius
  join-answer = laws.join-answer admitted dist pivots bounds radius pairs [] looked_at all_are all_moved none_apart

  pub join-log : (count : ℕ) (log : Option (List MeasuredPair)) (count' : ℕ) (log' : Option (List MeasuredPair))
      → MeasuresOpen verdict pair_objects pairs count log count' log'
      → LogExtendsInAnyOrder log log' (join_visits dist pivots looked_at radius)
  join-log = laws.join-log admitted dist pivots bounds radius pairs [] looked_at all_are all_moved none_apart
