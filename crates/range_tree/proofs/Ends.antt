-- What a pass over the entries of a shelf's tree has found is what a scan of all objects finds.
use Rattle.std.proofs.Common.{◌≡◌, ℕ, ◌+◌, Bool, true, false, List, [], ◌∷◌, ◌++◌, length, get_or, Option, refl, sym, ap, ap₂, subst, ◌∙◌, inl, inr}
use Rattle.std.specs.Prelude.{nat_lt, nat_le, if◌then◌else◌, filter, map, count_by, All, ◌⊎◌}
use Rattle.std.proofs.lemmas.Bool.{false≢true}
use Rattle.std.proofs.lemmas.List.{map-append}
use Rattle.std.proofs.lemmas.List.Elements.{All-head, All-tail, All-map, All-contains, All-filter}
use Rattle.std.proofs.lemmas.Simd.{map-map}
use Rattle.metric_laws.specs.Objects.{Object, Distance}
use Rattle.metric_laws.specs.Log.{MeasuredPair, LogExtends, each_with}
use Rattle.metric_laws.specs.LogLaws.{LogExtends-then, LogExtends-same}
use Rattle.answer_lists.specs.Order.{sorted_by}
use Rattle.curve_laws.specs.Grid.{IsCell, IsKey}
use Rattle.curve_laws.specs.Laws.{IsCurve}
use Rattle.spb_defs.specs.Pivots.{vector_of, cells_of, meets, is_sure}
use Rattle.spb_defs.specs.Scans.{Entry as Row, needs_distance, is_included, scan_range, range_evals, range_sure, range_answer, range_visits}
use Rattle.page_laws.specs.Errors.{TellsNoDamage}
use Rattle.page_laws.specs.declared.errors.TreeError.{TreeError}
use Rattle.page_laws.specs.declared.errors.TreeError.TheVariants as tree
use Rattle.page_laws.specs.declared.root.Root.{Root}
use Rattle.bptree_node.specs.declared.rows.Entry.{Entry}
use Rattle.bptree_node.specs.Trees.{HaveCornersAt, IsCoveredAt, list_at}
use Rattle.bptree_walk.proofs.Gathering.{begun_walk}
use Rattle.object_file.specs.Slots.{Slot, Holds}
use Rattle.object_file.specs.ObjectFile.{Slots, is_filled, slot_at}
use Rattle.pivot_map.specs.Bounds.{BoundsHold}
use Rattle.pivot_map.specs.declared.verdict.PairTest.{PairTest}
use Rattle.pivot_map.specs.Verdicts.{query_verdict, IsTestOf}
use Rattle.pivot_map.specs.Verdicts as vectors
use Rattle.pivot_map.specs.VerdictLaws.{query-tells}
use Rattle.query_pass.specs.declared.verdict.Verdict.{Verdict}
use Rattle.query_pass.specs.declared.verdict.Verdict.TheVariants.{Apart}
use Rattle.query_pass.specs.declared.found.Found.{Found}
use Rattle.query_pass.specs.Verdicts.{verdict_of, is_within, was_measured, was_sure}
use Rattle.query_pass.specs.VerdictLaws.{verdict-within, verdict-measured, verdict-sure}
use Rattle.query_pass.specs.PassLaws.{filter-kept, count-kept, kept_same, count_same}
use Rattle.box_corner.specs.Shelves.{Held, HoldsCollection, AreMeasured, AreCurveCorners, entry_of, row_of}
use Rattle.box_corner.specs.CurveBoxes.{AreKeys, is_key}
use Rattle.query_shelf.specs.Regions.{meets_box, has_key}
use Rattle.range_entries.specs.Entries.{object_of, object_at, verdict_at, pair_at, TellsOfEntry}
use Rattle.range_tree.specs.Ranges.{FindsAmong, TellsOfWalk, TellsOfOne, entries_in_range, pairs_measured}

-- names that are the same, of what passes a test
named_if : {A K : Type 0} (name name' : A → K) (x : A) (xs : List A) (b : Bool) → name x ≡ name' x → map name xs ≡ map name' xs
    → map name (if b then x ∷ xs else xs) ≡ map name' (if b then x ∷ xs else xs)
named_if name name' x xs true same others = ap (λ n. n ∷ map name xs) same ∙ ap (λ ns. name' x ∷ ns) others
named_if name name' x xs false same others = others

named_same : {A K : Type 0} (test : A → Bool) (name name' : A → K) (xs : List A) → All (λ x. name x ≡ name' x) xs → map name (filter test xs) ≡ map name' (filter test xs)
named_same test name name' [] same = refl
named_same test name name' (x ∷ xs) same =
    named_if name name' x (filter test xs) (test x) (All-head (λ x. name x ≡ name' x) x xs same)
    (named_same test name name' xs (All-tail (λ x. name x ≡ name' x) x xs same))

out_if : (test met : Bool) → (if test then met else true) ≡ false → met ≡ false
out_if true met out = out
out_if false met out = absurd (false≢true (sym out))

-- ---- entries that aren't damaged

record IsFine (admitted : Object → Type 0) (axes bits : ℕ) (slots : Slots) (pages : ℕ → List ℕ) (collection : ℕ) (e : Entry) : Type 0 where
  key : IsKey axes bits e.key
  filled : is_filled slots e.slot ≡ true
  object : Object
  there : slot_at pages e.slot ≡ Holds collection e.id object
  admits : admitted object

fine_tells : (admitted : Object → Type 0) (axes bits : ℕ) (slots : Slots) (pages : ℕ → List ℕ) (collection : ℕ) (e : Entry) → IsFine admitted axes bits slots pages collection e → (why : TreeError)
    → TellsOfEntry admitted axes bits slots pages collection e why → TellsNoDamage why
fine_tells admitted axes bits slots pages collection e fine tree.Fault tells = tt
fine_tells admitted axes bits slots pages collection e fine tree.Memory tells = tt
fine_tells admitted axes bits slots pages collection e fine (tree.Damaged page r) tells = elim tells [
  | inl key ↦ key.none fine.key
  | inr slot ↦ elim slot.shown [
    | inl free ↦ absurd (false≢true (sym free.free ∙ fine.filled))
    | inr other ↦ other.other fine.object fine.there fine.admits
  ]
]

-- ---- the entries of a collection

module _ (admitted : Object → Type 0) (dist : Distance) (pivots : List Object) (bounds : BoundsHold admitted dist pivots) (axes bits : ℕ) (key_of : List ℕ → ℕ) (cell_of : ℕ → List ℕ)
    (laws : IsCurve axes bits key_of cell_of) (pages : ℕ → List ℕ) (live : ℕ → Bool) (slots : Slots) (collection : ℕ) (root : Root) (held : List Held)
    (holds : HoldsCollection axes bits key_of cell_of pages live slots collection root held) (are : AreMeasured admitted dist pivots held) (query asked : List ℕ) (radius : ℕ)
    (admits : admitted query) (is : asked ≡ vector_of dist pivots query)
    (cover : HaveCornersAt (AreCurveCorners axes bits key_of cell_of) pages root.height root.page → AreKeys axes bits (list_at pages root)
    → IsCoveredAt (meets_box axes bits cell_of asked radius) (has_key axes bits cell_of asked radius) pages root.height root.page) where
  abbrev listed : List Entry
  listed = map (entry_of key_of) held

  abbrev keeps : Entry → Bool
  keeps e = has_key axes bits cell_of asked radius e.key

  abbrev ranged : List Entry
  ranged = entries_in_range axes bits cell_of asked radius pages root

  abbrev verdict : Entry → Verdict
  verdict e = verdict_at dist cell_of asked query radius pages e

  keys : AreKeys axes bits (list_at pages root)
  keys = subst (AreKeys axes bits) (sym holds.entries)
      (All-map (λ (e : Entry). IsKey axes bits e.key) (entry_of key_of) held (λ k d below. laws.key_of_cell _ (holds.cells k d below)))

  in_range : ranged ≡ filter keeps listed
  in_range = begun_walk pages (meets_box axes bits cell_of asked radius) (has_key axes bits cell_of asked radius) root (cover holds.tree.corners keys)
      ∙ ap (filter keeps) holds.entries

  -- those that the walk leaves out are apart
  unmet : (e : Entry) → keeps e ≡ false → verdict e ≡ Apart
  unmet e out = ap (λ met. verdict_of (vectors.verdict met (is_sure asked radius (cell_of e.key))) (nat_le (dist query (object_at pages e)) radius))
      (out_if (is_key axes bits e.key) (meets asked radius (cell_of e.key)) out)

  module _ (test : Verdict → Bool) (none : test Apart ≡ false) where
    left_out : All (λ (e : Entry). keeps e ≡ false → test (verdict e) ≡ false) listed
    left_out = λ k d below out. ap test (unmet (get_or listed k d) out) ∙ none

    kept_all : filter (λ (e : Entry). test (verdict e)) ranged ≡ filter (λ (e : Entry). test (verdict e)) listed
    kept_all = ap (filter (λ (e : Entry). test (verdict e))) in_range ∙ filter-kept (λ (e : Entry). test (verdict e)) keeps listed left_out

    count_all : count_by (λ (e : Entry). test (verdict e)) ranged ≡ count_by (λ (h : Held). test (verdict (entry_of key_of h))) held
    count_all =
        ap (count_by (λ (e : Entry). test (verdict e))) in_range ∙ count-kept (λ (e : Entry). test (verdict e)) keeps listed left_out
        ∙ sym (count_same (entry_of key_of) (λ (h : Held). test (verdict (entry_of key_of h))) (λ (e : Entry). test (verdict e)) held (λ k d below. refl))

    names_all : {K : Type 0} (name : Entry → K) → map name (filter (λ (e : Entry). test (verdict e)) ranged)
        ≡ map (λ (h : Held). name (entry_of key_of h)) (filter (λ (h : Held). test (verdict (entry_of key_of h))) held)
    names_all name =
        ap (map name) kept_all
        ∙ sym (kept_same (entry_of key_of) (λ (h : Held). test (verdict (entry_of key_of h))) (λ (e : Entry). test (verdict e)) (λ (h : Held). name (entry_of key_of h)) name (λ h. refl) held (λ k d below. refl))

  -- ---- the verdict on an object

  abbrev test_of : Held → PairTest
  test_of h = query_verdict asked radius h.cells

  same_verdict : (h : Held) → IsCell axes bits h.cells → slot_at pages h.slot ≡ Holds collection h.id h.object
      → verdict (entry_of key_of h) ≡ verdict_of (test_of h) (nat_le (dist query h.object) radius)
  same_verdict h cell there =
      ap₂ (λ cells object. verdict_of (query_verdict asked radius cells) (nat_le (dist query object) radius)) (laws.cell_back h.cells cell) (ap object_of there)

  abbrev met : Row → Bool
  met row = meets (vector_of dist pivots query) radius (cells_of dist pivots row.1)

  abbrev sure : Row → Bool
  sure row = is_sure (vector_of dist pivots query) radius (cells_of dist pivots row.1)

  held-tells : (h : Held) → h.cells ≡ cells_of dist pivots h.object → IsTestOf (test_of h) (met (row_of h)) (sure (row_of h))
  held-tells h cells =
      subst (λ a. IsTestOf (test_of h) (meets a radius (cells_of dist pivots h.object)) (is_sure a radius (cells_of dist pivots h.object))) is
      (subst (λ b. IsTestOf (test_of h) (meets asked radius b) (is_sure asked radius b)) cells (query-tells asked h.cells radius))

  held_within : All (λ (h : Held). is_within (verdict (entry_of key_of h)) ≡ nat_le (dist query (row_of h).1) radius) held
  held_within = λ k d below.
      let h = get_or held k d in
      ap is_within (same_verdict h (holds.cells k d below) (holds.objects k d below))
      ∙ verdict-within (test_of h) (met (row_of h)) (sure (row_of h)) (dist query h.object) radius (held-tells h (are.cells k d below))
      (bounds.within_meets query h.object radius admits (are.objects k d below)) (bounds.sure_within query h.object radius admits (are.objects k d below))

  held_measured : All (λ (h : Held). was_measured (verdict (entry_of key_of h)) ≡ needs_distance dist pivots query radius (row_of h)) held
  held_measured = λ k d below.
      let h = get_or held k d in
      ap was_measured (same_verdict h (holds.cells k d below) (holds.objects k d below))
      ∙ verdict-measured (test_of h) (met (row_of h)) (sure (row_of h)) (nat_le (dist query h.object) radius) (held-tells h (are.cells k d below))

  held_sure : All (λ (h : Held). was_sure (verdict (entry_of key_of h)) ≡ is_included dist pivots query radius (row_of h)) held
  held_sure = λ k d below.
      let h = get_or held k d in
      ap was_sure (same_verdict h (holds.cells k d below) (holds.objects k d below))
      ∙ verdict-sure (test_of h) (met (row_of h)) (sure (row_of h)) (nat_le (dist query h.object) radius) (held-tells h (are.cells k d below))

  -- ---- the answer

  abbrev rows : List Row
  rows = map row_of held

  range-ids : (found : Found ℕ) → FindsAmong verdict ranged found → sorted_by nat_lt found.kept.items ≡ scan_range dist rows query radius
  range-ids found finds =
      ap (sorted_by nat_lt)
      (finds.kept ∙ names_all is_within refl (λ (e : Entry). e.id)
      ∙ kept_same row_of (λ (h : Held). is_within (verdict (entry_of key_of h))) (λ (row : Row). nat_le (dist query row.1) radius) (λ (h : Held). h.id) (λ (row : Row). row.0) (λ h. refl)
      held held_within)

  range-evals : (found : Found ℕ) → FindsAmong verdict ranged found → length pivots + found.evals ≡ range_evals dist pivots rows query radius
  range-evals found finds =
      ap (λ n. length pivots + n)
      (finds.evals ∙ count_all was_measured refl
      ∙ count_same row_of (λ (h : Held). was_measured (verdict (entry_of key_of h))) (needs_distance dist pivots query radius) held held_measured)

  range-sure : (found : Found ℕ) → FindsAmong verdict ranged found → found.sure ≡ range_sure dist pivots rows query radius
  range-sure found finds =
      finds.sure ∙ count_all was_sure refl
      ∙ count_same row_of (λ (h : Held). was_sure (verdict (entry_of key_of h))) (is_included dist pivots query radius) held held_sure

  pub range-answer : (found : Found ℕ) → FindsAmong verdict ranged found → (ids : List ℕ) → ids ≡ sorted_by nat_lt found.kept.items
      → record { ids = ids; evals = length pivots + found.evals; sure = found.sure } ≡ range_answer dist pivots rows query radius
  unfolding range_answer
  range-answer found finds ids of_ids =
      ap (λ ids. record { ids = ids; evals = length pivots + found.evals; sure = found.sure }) (of_ids ∙ range-ids found finds)
      ∙ ap₂ (λ evals sure. record { ids = scan_range dist rows query radius; evals = evals; sure = sure }) (range-evals found finds) (range-sure found finds)

  pub range-log : (first log log' : Option (List MeasuredPair)) → LogExtends first log (each_with query pivots) → LogExtends log log' (pairs_measured verdict query pages ranged)
      → LogExtends first log' (each_with query (range_visits dist pivots rows query radius))
  unfolding range_visits
  range-log first log log' asks measures =
      let pair : List ℕ → MeasuredPair = λ other. (query, other) in
      let object : Row → List ℕ = λ row. row.1 in
      let opened : List Row = filter (needs_distance dist pivots query radius) rows in
      let paired : All (λ (h : Held). ◌≡◌ {A = MeasuredPair} (pair_at query pages (entry_of key_of h)) (query, h.object)) held =
      λ k d below. ap {B = MeasuredPair} (λ (s : Slot). (query, object_of s)) (holds.objects k d below) in
      let tests : pairs_measured verdict query pages ranged ≡ map (λ (row : Row). pair row.1) opened =
      names_all was_measured refl (pair_at query pages)
      ∙ named_same (λ (h : Held). was_measured (verdict (entry_of key_of h))) (λ (h : Held). pair_at query pages (entry_of key_of h)) (λ (h : Held). pair h.object) held paired
      ∙ kept_same {K = MeasuredPair} row_of (λ (h : Held). was_measured (verdict (entry_of key_of h))) (needs_distance dist pivots query radius) (λ (h : Held). pair h.object)
      (λ (row : Row). pair row.1) (λ h. refl) held held_measured in
      LogExtends-same first log' _ _
      (ap (λ more. each_with query pivots ++ more) (tests ∙ sym (map-map pair object opened)) ∙ sym (map-append pair pivots (map object opened)))
      (LogExtends-then first log log' _ _ asks measures)

  -- ---- nothing is damaged

  all_fine : All (IsFine admitted axes bits slots pages collection) ranged
  all_fine =
      subst (All (IsFine admitted axes bits slots pages collection)) (sym in_range)
      (All-filter keeps (IsFine admitted axes bits slots pages collection) listed
      (All-map (IsFine admitted axes bits slots pages collection) (entry_of key_of) held (λ k d below. record {
        key = laws.key_of_cell _ (holds.cells k d below);
        filled = holds.filled k d below;
        object = (get_or held k d).object;
        there = holds.objects k d below;
        admits = are.objects k d below;
      })))

  pub range-sound : (why : TreeError) → TellsOfWalk pages live root why ⊎ TellsOfOne admitted axes bits slots pages collection ranged why → TellsNoDamage why
  range-sound why tells = elim tells [
    | inl walk ↦ walk.sound holds.tree.tree
    | inr one ↦ fine_tells admitted axes bits slots pages collection one.entry
        (All-contains (IsFine admitted axes bits slots pages collection) ranged one.entry all_fine one.among) why one.tells
  ]
