-- Over a shelf that holds a collection, what a search finds is what a scan of its objects finds.
use Rattle.std.proofs.Common.{◌≡◌, ℕ, ◌+◌, ◌≤◌, ◌<◌, Option, zero, suc, List, [], ◌∷◌, ◌++◌, length, get_or, take, map, refl, sym, ap, ap₂, subst, ◌∙◌, arith}
use Rattle.std.specs.Prelude.{IsTrue, All, IsPermutation}
use Rattle.std.specs.List.{AllByRecursion}
use Rattle.std.proofs.lemmas.List.{get_or-map, length-map}
use Rattle.std.proofs.lemmas.List.Elements.{All-from_recursion, recursion_from_All}
use Rattle.std.proofs.lemmas.List.Sorted.{IsPermutation-map}
use Rattle.metric_laws.specs.Objects.{Object, Distance}
use Rattle.metric_laws.specs.Log.{MeasuredPair, LogExtends, each_with}
use Rattle.metric_laws.specs.LogLaws.{LogExtends-then, LogExtends-same}
use Rattle.answer_lists.specs.OrderLaws.{HasDistinctKeys, permutation-sorted_by}
use Rattle.curve_laws.specs.Grid.{IsCell}
use Rattle.curve_laws.specs.Laws.{IsCurve}
use Rattle.spb_defs.specs.Pivots.{vector_of, cells_of, lower_bound}
use Rattle.spb_defs.specs.Scans.{Entry as Row, Rank, rank_bound, near_answer, near_visits}
use Rattle.bptree_node.specs.declared.rows.Entry.{Entry}
use Rattle.bptree_node.specs.Trees.{Tree, Limb, tree_at, list_of, list_at, HaveCorners, HaveCornersAt}
use Rattle.object_file.specs.Slots.{Holds}
use Rattle.object_file.specs.ObjectFile.{slot_at}
use Rattle.pivot_map.specs.Bounds.{BoundsHold}
use Rattle.box_corner.specs.Shelves.{Held, HoldsCollection, AreMeasured, AreCurveCorners, entry_of, row_of}
use Rattle.box_corner.specs.CurveBoxes.{ReadBack}
use Rattle.near_search.specs.Queue.{Candidate, bound_rank, candidate_is_before}
use Rattle.near_search.specs.Visits.{entry_at, entries_at, objects_at, Visited}
use Rattle.near_search.proofs.Lists.{all-map, all-moved}
use Rattle.near_search.proofs.Found.{nearest-found, evals-found, visits-found}
use Rattle.near_search.proofs.Orders.{sorted_by-rises}
use Rattle.shelf_tree.specs.Contents.{TreeContent, candidate_of, object_in, object_at_slot}
use Rattle.near_tree.specs.Searches.{tree_candidates, HasBounds}

all_each : {A : Type 0} (P Q : A → Type 0) → ((x : A) → P x → Q x) → (xs : List A) → AllByRecursion P xs → AllByRecursion Q xs
all_each P Q each [] all = tt
all_each P Q each (x ∷ xs) all = (each x all.0, all_each P Q each xs all.1)

-- ---- the corners

module _ (A B : List Entry → ℕ → ℕ → Type 0) (each : (entries : List Entry) (low high : ℕ) → A entries low high → B entries low high) where
  corners_each : (l : ℕ) (t : Tree l) → HaveCorners A l t → HaveCorners B l t
  corners_each zero t has = tt
  corners_each (suc l) t has =
      all_each (λ (limb : Limb (Tree l)). A (list_of l limb.below) limb.branch.low limb.branch.high × HaveCorners A l limb.below)
      (λ (limb : Limb (Tree l)). B (list_of l limb.below) limb.branch.low limb.branch.high × HaveCorners B l limb.below)
      (λ limb has. (each (list_of l limb.below) limb.branch.low limb.branch.high has.0, corners_each l limb.below has.1)) t.limbs has

  corners_from : (pages : ℕ → List ℕ) (height page : ℕ) → HaveCornersAt A pages height page → HaveCornersAt B pages height page
  corners_from pages zero page has = tt
  corners_from pages (suc l) page has = corners_each l (tree_at pages l page) has

-- ---- the objects

module _ (admitted : Object → Type 0) (dist : Distance) (pivots : List Object) (bounds : BoundsHold admitted dist pivots) (s : TreeContent) (key_of : List ℕ → ℕ)
    (laws : IsCurve s.axes s.bits key_of s.cell_of) (held : List Held)
    (holds : HoldsCollection s.axes s.bits key_of s.cell_of s.page_at s.is_live s.slots s.collection s.root held)
    (are : AreMeasured admitted dist pivots held) (query : Object) (admits : admitted query) (asks : s.asked ≡ vector_of dist pivots query) (known : IsTrue s.is_known)
    (back : (entries : List Entry) (low high : ℕ) → AreCurveCorners s.axes s.bits key_of s.cell_of entries low high → ReadBack s.axes s.bits s.cell_of entries low high) where
  abbrev rows : List Row
  rows = map row_of held

  abbrev candidate : Entry → Candidate
  candidate = candidate_of s.cell_of s.asked

  abbrev listed : List Candidate
  listed = map candidate (map (entry_of key_of) held)

  -- a held object is in its slot, and its cells are those of its key and its distances
  record IsThere (h : Held) : Type 0 where
    object : object_at_slot s h.slot ≡ h.object
    cells : s.cell_of (key_of h.cells) ≡ cells_of dist pivots h.object
    measured : admitted h.object

  all_there : AllByRecursion IsThere held
  all_there = recursion_from_All IsThere held (λ k d below. record {
    object = ap object_in (holds.objects k d below);
    cells = laws.cell_back (get_or held k d).cells (holds.cells k d below) ∙ are.cells k d below;
    measured = are.objects k d below;
  })

  all_listed : (P : Candidate → Type 0) → ((h : Held) → IsThere h → P (candidate (entry_of key_of h))) → AllByRecursion P listed
  all_listed P each =
      all-map P candidate (map (entry_of key_of) held) (all-map (λ (e : Entry). P (candidate e)) (entry_of key_of) held
      (all_each IsThere (λ (h : Held). P (candidate (entry_of key_of h))) each held all_there))

  moved : IsPermutation listed (tree_candidates s)
  moved = subst (λ (es : List Entry). IsPermutation (map candidate es) (tree_candidates s)) holds.entries
      (permutation-sorted_by candidate_is_before (map candidate (list_at s.page_at s.root)))

  -- ---- no bound is too great

  lower_each : (h : Held) → IsThere h → lower_bound s.asked (s.cell_of (key_of h.cells)) ≤ dist query (object_at_slot s h.slot)
  lower_each h there =
      subst (λ (o : Object). lower_bound s.asked (s.cell_of (key_of h.cells)) ≤ dist query o) (sym there.object)
      (subst (λ (v : List ℕ). lower_bound s.asked v ≤ dist query h.object) (sym there.cells)
      (subst (λ (a : List ℕ). lower_bound a (cells_of dist pivots h.object) ≤ dist query h.object) (sym asks) (bounds.bound_below query h.object admits there.measured)))

  abbrev IsLower : Entry → Type 0
  IsLower e = lower_bound s.asked (s.cell_of e.key) ≤ dist query (object_at_slot s e.slot)

  pub has_bounds : HasBounds dist query s
  has_bounds = record {
    known = known;
    lower = subst (AllByRecursion IsLower) (sym holds.entries)
        (all-map IsLower (entry_of key_of) held (all_each IsThere (λ (h : Held). IsLower (entry_of key_of h)) lower_each held all_there));
    corners = corners_from (AreCurveCorners s.axes s.bits key_of s.cell_of) (ReadBack s.axes s.bits s.cell_of) back s.page_at s.root.height s.root.page holds.tree.corners;
  }

  -- ---- what is found

  rows_listed : (xs : List Held) → AllByRecursion IsThere xs → entries_at (object_at_slot s) (map candidate (map (entry_of key_of) xs)) ≡ map row_of xs
  rows_listed [] there = refl
  rows_listed (h ∷ xs) there =
      ap (λ (o : Object). (h.id, o) ∷ entries_at (object_at_slot s) (map candidate (map (entry_of key_of) xs))) there.0.object
      ∙ ap (λ rows. row_of h ∷ rows) (rows_listed xs there.1)

  whole : IsPermutation rows (entries_at (object_at_slot s) (tree_candidates s))
  whole = subst (λ rows. IsPermutation rows (entries_at (object_at_slot s) (tree_candidates s))) (rows_listed held all_there)
      (IsPermutation-map (entry_at (object_at_slot s)) listed (tree_candidates s) moved)

  abbrev HasKey : Candidate → Type 0
  HasKey c = bound_rank c ≡ rank_bound dist pivots query (entry_at (object_at_slot s) c)

  key_each : (h : Held) → IsThere h → HasKey (candidate (entry_of key_of h))
  key_each h there =
      ap₂ (λ (a v : List ℕ). (lower_bound a v, h.id)) asks there.cells
      ∙ ap (λ (o : Object). rank_bound dist pivots query (h.id, o)) (sym there.object)

  keys : All HasKey (tree_candidates s)
  keys = All-from_recursion HasKey (tree_candidates s) (all-moved HasKey listed (tree_candidates s) moved (all_listed HasKey key_each))

  apart : HasDistinctKeys (rank_bound dist pivots query) rows
  apart i j d less below same =
      let none : Held = record { id = 0; object = []; cells = []; slot = 0 } in
      let long = length-map held row_of in
      let inside : j < length held = omega (arith, below, long) in
      holds.ids i j none less inside
      (ap (λ (row : Row). row.0) (sym (get_or-map row_of held i none d (omega (arith, less, inside)))) ∙ ap (λ (b : Rank). b.1) same
      ∙ ap (λ (row : Row). row.0) (get_or-map row_of held j none d inside))

  module _ (k n : ℕ) (least : List Rank) (some : 1 ≤ k) (visited : Visited dist (object_at_slot s) query (tree_candidates s) k n least) where
    pub near-answer : record { rows = least; evals = length pivots + n } ≡ near_answer dist pivots rows query k
    unfolding near_answer
    near-answer =
        ap₂ (λ rows evals. record { rows = rows; evals = evals })
        (nearest-found dist query (object_at_slot s) rows (tree_candidates s) k n least whole visited)
        (evals-found dist pivots query (object_at_slot s) rows (tree_candidates s) k n least some whole keys visited)

    pub near-log : (first log log' : Option (List MeasuredPair)) → LogExtends first log (each_with query pivots)
        → LogExtends log log' (each_with query (objects_at (object_at_slot s) (take n (tree_candidates s))))
        → LogExtends first log' (each_with query (near_visits dist pivots rows query k))
    near-log first log log' asked measured =
        LogExtends-same first log' _ _
        (visits-found dist pivots query (object_at_slot s) rows (tree_candidates s) k n least some whole keys visited apart (sorted_by-rises _))
        (LogExtends-then first log log' _ _ asked measured)
