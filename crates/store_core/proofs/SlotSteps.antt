-- One slot more that is read.
use Rattle.std.proofs.Common.{◌≡◌, inl, ℕ, zero, suc, ◌+◌, ◌%◌, ◌<◌, true, false, List, [], ◌∷◌, ◌++◌, length, map, All, refl, sym, ap, subst, ◌∙◌, arith}
use Rattle.std.specs.Prelude.{slice_set, Bool, IsTrue, Result, Ok, Err, MatchResult, OnOk}
use Rattle.std.specs.List.{AllByRecursion, IsDistinct}
use Rattle.std.specs.List.Sorted.{IsPermutation}
use Rattle.std.proofs.lemmas.Bool.Decides.{nat_tests}
use Rattle.std.proofs.lemmas.List.{length-set, length-append, map-set, length-map}
use Rattle.std.proofs.lemmas.List.Elements.{All-set, All-push, All-weaker}
use Rattle.std.proofs.lemmas.List.Sorted.{IsPermutation-map, IsPermutation-to_front}
use Rattle.std.proofs.lemmas.List.Sums.{sum_by-set}
use Rattle.metric_laws.specs.Objects.{Object, Distance}
use Rattle.metrics_builtin.specs.declared.Space.{Space}
use Rattle.spb_defs.specs.MetricOf.{IsMetricOf}
use Rattle.spb_defs.specs.Pivots.{cells_of}
use Rattle.page_laws.specs.Pages.{is_among, AreFree}
use Rattle.page_laws.specs.FreeLaws.{among_all, given_free, last_first}
use Rattle.page_laws.specs.declared.rule.Rule.TheVariants as rule
use Rattle.row_list.specs.declared.sorting.SlottedRow.{SlottedRow}
use Rattle.object_file.specs.Slots.{Slot, Free, Holds, Broken, slot_in}
use Rattle.object_file.specs.ObjectFile.{is_slot, slot_page, slot_at}
use Rattle.store_check.specs.Stands.{IsReadable}
use Rattle.slot_laws.specs.SlotTables.{slot_table, GainsRow}
use Rattle.slot_laws.specs.TableRows.{gains_row}
use Rattle.slot_laws.specs.ReadingLaws.{nothing_is_read, a_free_slot_is_read, a_filled_slot_is_read}
use Rattle.open_store.specs.Store.{table_at, slot_row, slot_tables, measured_row}
use Rattle.store_core.specs.declared.errors.OpenError.{OpenError}
use Rattle.store_core.specs.declared.errors.OpenError.TheVariants as refusal
use Rattle.store_core.specs.SlotContents.{IsSlotTable, HasTables, AddsRow, HoldsTables, HasBadSlotAt, RefusesSlot, RefusesSlots}

-- ---- numbers below one more

under : (n m : ℕ) → IsTrue (is_slot n m) → IsTrue (is_slot (n + 1) m)
under n m is = grind (arith, nat_tests, is)

all_under : (n : ℕ) (free : List ℕ) → AllByRecursion (λ m. IsTrue (is_slot n m)) free → AllByRecursion (λ m. IsTrue (is_slot (n + 1) m)) free
all_under n [] all = tt
all_under n (m ∷ free) all = (under n m all.0, all_under n free all.1)

wider_free : (n : ℕ) (free : List ℕ) → AreFree (is_slot n) free → AreFree (is_slot (n + 1)) free
wider_free n free are = record { pool = all_under n free are.pool; distinct = are.distinct }

not_yet : (n : ℕ) (free : List ℕ) → AreFree (is_slot n) free → is_among n free ≡ false
not_yet n free are = by (is_among n free) refl
  where
    by : (b : Bool) → is_among n free ≡ b → is_among n free ≡ false
    by false is = is
    by true is = let inside = among_all (λ m. IsTrue (is_slot n m)) n free are.pool is in absurd (let no : n < n = grind (arith, nat_tests, inside) in omega (arith, no))

free_more : (n : ℕ) (free : List ℕ) → AreFree (is_slot n) free → AreFree (is_slot (n + 1)) (free ++ n ∷ [])
free_more n free are =
    let none = not_yet n free are in
    given_free (is_slot (n + 1)) free n (wider_free n free are) (grind (arith, nat_tests, none))

-- ---- tables in memory

module _ (admitted : Object → Type 0) (dist : Distance) (pivots : List Object) where
  wider_table : (n : ℕ) (table : List SlottedRow) → IsSlotTable admitted dist pivots n table → IsSlotTable admitted dist pivots (n + 1) table
  wider_table n table is = record {
    below = All-weaker (λ (row : SlottedRow). row.slot < n) (λ (row : SlottedRow). row.slot < n + 1) (λ row less. omega (arith, less)) table is.below;
    objects = is.objects;
    vects = is.vects;
  }

  pub no_tables : (tables : List (List SlottedRow)) → tables ≡ [] ∷ [] ∷ [] ∷ [] ∷ [] → HasTables admitted dist pivots 0 tables []
  unfolding IsDistinct
  no_tables tables is = subst (λ ts. HasTables admitted dist pivots 0 ts []) (sym is) (record {
    four = refl;
    each = each;
    counted = refl;
    unused = record { pool = tt; distinct = tt };
  })
    where
      none : IsSlotTable admitted dist pivots 0 []
      none = record { below = λ k d less. absurd (omega (arith, less)); objects = λ k d less. absurd (omega (arith, less)); vects = λ k d less. absurd (omega (arith, less)) }

      each : All (IsSlotTable admitted dist pivots 0) ([] ∷ [] ∷ [] ∷ [] ∷ [])
      each zero d below = none
      each (suc zero) d below = none
      each (suc (suc zero)) d below = none
      each (suc (suc (suc zero))) d below = none
      each (suc (suc (suc (suc k)))) d below = absurd (omega (arith, below))

  -- the slots of a table's rows
  pub rows_below : (n : ℕ) (tables : List (List SlottedRow)) (free : List ℕ) → HasTables admitted dist pivots n tables free
      → (c : ℕ) → c < 4 → All (λ (row : SlottedRow). row.slot < n) (table_at tables c)
  rows_below n tables free has c inside = let four = has.four in (has.each c [] (omega (arith, four, inside))).below

  pub free_tables : (n : ℕ) (tables : List (List SlottedRow)) (free : List ℕ) → HasTables admitted dist pivots n tables free
      → HasTables admitted dist pivots (n + 1) tables (free ++ n ∷ [])
  free_tables n tables free has = record {
    four = has.four;
    each = All-weaker (IsSlotTable admitted dist pivots n) (IsSlotTable admitted dist pivots (n + 1)) (λ table is. wider_table n table is) tables has.each;
    counted = let all = has.counted in let more = length-append free (n ∷ []) in omega (arith, all, more);
    unused = free_more n free has.unused;
  }

  pub row_tables : (n c id : ℕ) (object : Object) (old new : List (List SlottedRow)) (free : List ℕ) → c < 4
      → HasTables admitted dist pivots n old free → AddsRow admitted dist pivots n c id object old new → HasTables admitted dist pivots (n + 1) new free
  row_tables n c id object old new free inside has adds =
      let row : SlottedRow = record { slot = n; row = measured_row dist pivots id object } in
      let table = table_at old c in
      let four = has.four in
      let below : c < length old = omega (arith, four, inside) in
      let wide = wider_table n table (has.each c [] below) in
      let is : IsSlotTable admitted dist pivots (n + 1) (table ++ row ∷ []) = record {
        below = All-push (λ (r : SlottedRow). r.slot < n + 1) table row wide.below (omega arith);
        objects = All-push (λ (r : SlottedRow). admitted r.row.object) table row wide.objects adds.object_is;
        vects = All-push (λ (r : SlottedRow). r.row.vect ≡ cells_of dist pivots r.row.object) table row wide.vects refl;
      } in
      subst (λ ts. HasTables admitted dist pivots (n + 1) ts free) (sym adds.pushed) (record {
        four = length-set old c (table ++ row ∷ []) ∙ has.four;
        each = All-set (IsSlotTable admitted dist pivots (n + 1)) old c (table ++ row ∷ []) is
            (All-weaker (IsSlotTable admitted dist pivots n) (IsSlotTable admitted dist pivots (n + 1)) (λ t was. wider_table n t was) old has.each);
        counted =
            let all = sum_by-set length old c (table ++ row ∷ []) [] below in
            let more = length-append table (row ∷ []) in let counted = has.counted in omega (arith, all, more, counted);
        unused = wider_free n free has.unused;
      })

-- ---- what the pages hold

slot_table_at : (ts : List (List SlottedRow)) (c : ℕ) → slot_table (slot_tables ts) c ≡ map slot_row (table_at ts c)
slot_table_at [] c = refl
slot_table_at (table ∷ ts) zero = refl
slot_table_at (table ∷ ts) (suc c) = slot_table_at ts c

table_gains : (ts : List (List SlottedRow)) (c : ℕ) (row : SlottedRow) → c < length ts
    → GainsRow c (slot_row row) (slot_tables ts) (slot_tables (slice_set ts c (table_at ts c ++ row ∷ [])))
table_gains ts c row below =
    let more = map slot_row (table_at ts c ++ row ∷ []) in
    subst (GainsRow c (slot_row row) (slot_tables ts)) (sym (map-set (λ (table : List SlottedRow). map slot_row table) ts c (table_at ts c ++ row ∷ [])))
    (gains_row (slot_tables ts) c (slot_row row) more
    (let many = length-map ts (λ (table : List SlottedRow). map slot_row table) in omega (arith, many, below))
    (subst (λ table. IsPermutation more (slot_row row ∷ table)) (sym (slot_table_at ts c))
    (IsPermutation-map slot_row (table_at ts c ++ row ∷ []) (row ∷ table_at ts c) (IsPermutation-to_front (table_at ts c) row))))

pub none_read : (space : Space) (pages : ℕ → List ℕ) (tables : List (List SlottedRow)) → tables ≡ [] ∷ [] ∷ [] ∷ [] ∷ [] → HoldsTables space 0 pages tables []
none_read space pages tables is = nothing_is_read space (slot_at pages) (slot_tables tables)
    (λ c inside. slot_table_at tables c ∙ ap (map slot_row) (ap (λ ts. table_at ts c) is ∙ empty c))
  where
    empty : (c : ℕ) → table_at ([] ∷ [] ∷ [] ∷ [] ∷ []) c ≡ []
    empty zero = refl
    empty (suc zero) = refl
    empty (suc (suc zero)) = refl
    empty (suc (suc (suc zero))) = refl
    empty (suc (suc (suc (suc c)))) = refl

pub free_read : (space : Space) (n : ℕ) (pages : ℕ → List ℕ) (tables : List (List SlottedRow)) (free : List ℕ) → HoldsTables space n pages tables free
    → slot_at pages n ≡ Free → HoldsTables space (n + 1) pages tables (free ++ n ∷ [])
free_read space n pages tables free holds is =
    a_free_slot_is_read space n (slot_at pages) (slot_tables tables) free (free ++ n ∷ []) holds is (last_first free n)

pub row_read : (admitted : Object → Type 0) (dist : Distance) (pivots : List Object) (space : Space) (n c id : ℕ) (object : Object) (pages : ℕ → List ℕ)
    (old new : List (List SlottedRow)) (free : List ℕ) → IsMetricOf admitted dist space → c < length old → HoldsTables space n pages old free
    → slot_at pages n ≡ Holds c id object → AddsRow admitted dist pivots n c id object old new → HoldsTables space (n + 1) pages new free
row_read admitted dist pivots space n c id object pages old new free metric below holds is adds =
    let row : SlottedRow = record { slot = n; row = measured_row dist pivots id object } in
    a_filled_slot_is_read space n c id object (slot_at pages) (slot_tables old) (slot_tables new) free holds is adds.few
    ((metric.admits object).0 adds.object_is)
    (subst (λ ts. GainsRow c (n, (id, object)) (slot_tables old) (slot_tables ts)) (sym adds.pushed) (table_gains old c row below))

-- ---- refusals

pub unreadable : (space : Space) (cap slot page : ℕ) (slots : ℕ → Slot) → slot < cap → page ≡ slot_page slot → (IsReadable space (slots slot) → ⊥)
    → HasBadSlotAt space cap slots page
unreadable space cap slot page slots below is bad = record { slot = slot; below = below; page_is = is; bad = inl bad }

-- a slot that reads as none
pub broken : (space : Space) (cap slot : ℕ) (slots : ℕ → Slot) → slot < cap → slots slot ≡ Broken → RefusesSlots space cap slots (refusal.Damaged (slot_page slot) rule.Slot)
broken space cap slot slots below is = unreadable space cap slot (slot_page slot) slots below refl (λ readable. subst (IsReadable space) is readable)

-- a slot with bytes that aren't an object
pub no_object : (admitted : Object → Type 0) (dist : Distance) (space : Space) (cap slot c id : ℕ) (object : Object) (slots : ℕ → Slot) (e : OpenError)
    → IsMetricOf admitted dist space → slot < cap → slots slot ≡ Holds c id object → RefusesSlot (admitted object → ⊥) slot e → RefusesSlots space cap slots e
no_object admitted dist space cap slot c id object slots refusal.NotStore metric below is bad = bad
no_object admitted dist space cap slot c id object slots (refusal.Damaged page rule.Slot) metric below is bad =
    unreadable space cap slot page slots below bad.0
    (λ readable. bad.1 ((metric.admits object).1 ((subst (IsReadable space) is readable).1)))
no_object admitted dist space cap slot c id object slots (refusal.Damaged page rule.Size) metric below is bad = bad
no_object admitted dist space cap slot c id object slots (refusal.Damaged page rule.Journal) metric below is bad = bad
no_object admitted dist space cap slot c id object slots (refusal.Damaged page rule.Profile) metric below is bad = bad
no_object admitted dist space cap slot c id object slots (refusal.Damaged page rule.Pivot) metric below is bad = bad
no_object admitted dist space cap slot c id object slots (refusal.Damaged page rule.Page) metric below is bad = bad
no_object admitted dist space cap slot c id object slots (refusal.Damaged page rule.Node) metric below is bad = bad
no_object admitted dist space cap slot c id object slots (refusal.Damaged page rule.Fill) metric below is bad = bad
no_object admitted dist space cap slot c id object slots (refusal.Damaged page rule.Order) metric below is bad = bad
no_object admitted dist space cap slot c id object slots (refusal.Damaged page rule.Key) metric below is bad = bad
no_object admitted dist space cap slot c id object slots (refusal.Damaged page rule.Box) metric below is bad = bad
no_object admitted dist space cap slot c id object slots (refusal.Damaged page rule.Match) metric below is bad = bad
no_object admitted dist space cap slot c id object slots refusal.DiskFault metric below is bad = tt
no_object admitted dist space cap slot c id object slots refusal.Memory metric below is bad = tt

-- ---- a slot of a page

-- the page's slot is that of the pages
pub page_slot : (pages : ℕ → List ℕ) (slot : ℕ) (page : List ℕ) (content : Slot) → pages (slot_page slot) ≡ page → slot_in page (slot % 4) ≡ content
    → slot_at pages slot ≡ content
page_slot pages slot page content at is = ap (λ p. slot_in p (slot % 4)) at ∙ is

-- ---- what an addition of an object answers

module _ (admitted : Object → Type 0) (dist : Distance) (pivots : List Object) (slot c id : ℕ) (object : Object) (old new : List (List SlottedRow)) (free : List ℕ)
    (inside : c < 4) (has : HasTables admitted dist pivots slot old free) where
  pub object_tables : (result : Result Unit OpenError)
      → MatchResult result (λ _. AddsRow admitted dist pivots slot c id object old new) (RefusesSlot (admitted object → ⊥) slot)
      → OnOk result (HasTables admitted dist pivots (slot + 1) new free)
  object_tables (Ok _) adds = row_tables admitted dist pivots slot c id object old new free inside has adds
  object_tables (Err e) refused = tt

  pub object_read : (space : Space) (cap : ℕ) (pages : ℕ → List ℕ) (result : Result Unit OpenError)
      → MatchResult result (λ _. AddsRow admitted dist pivots slot c id object old new) (RefusesSlot (admitted object → ⊥) slot)
      → IsMetricOf admitted dist space → slot < cap → slot_at pages slot ≡ Holds c id object → HoldsTables space slot pages old free
      → MatchResult result (λ _. HoldsTables space (slot + 1) pages new free) (RefusesSlots space cap (slot_at pages))
  object_read space cap pages (Ok _) adds metric below is holds =
      row_read admitted dist pivots space slot c id object pages old new free metric (let four = has.four in omega (arith, four, inside)) holds is adds
  object_read space cap pages (Err e) refused metric below is holds = no_object admitted dist space cap slot c id object (slot_at pages) e metric below is refused
