-- A store to which an object is added.
use Rattle.std.proofs.Common.{◌≡◌, inl, inr, ℕ, ◌+◌, ◌*◌, ◌^◌, ◌<◌, ◌≤◌, Bool, true, false, IsTrue, List, [], ◌∷◌, length, get_or, Option, Some, None, Result, Ok, Err, refl, sym, ap, subst, ◌∙◌, arith}
use Rattle.std.specs.Prelude.{nat_eq, nat_le, ◌||◌, All, IsSome, slice_set}
use Rattle.std.specs.List.{insert}
use Rattle.std.specs.List.Sorted.{IsPermutation}
use Rattle.std.specs.Option.{option_map}
use Rattle.std.proofs.lemmas.Bool.Decides.{nat_tests}
use Rattle.std.proofs.lemmas.List.{length-set, length-map, get_or_default}
use Rattle.std.proofs.lemmas.List.Sums.{get_or-le-sum_by}
use Rattle.std.proofs.lemmas.List.Elements.{All-set}
use Rattle.std.proofs.lemmas.List.Sorted.{length_permutation}
use Rattle.metric_laws.specs.Objects.{Object, Distance}
use Rattle.metrics_builtin.specs.Space.{IsValid}
use Rattle.spb_defs.specs.State.{State, object_at, is_full, with_object}
use Rattle.pivot_map.specs.declared.row.Row.{Row}
use Rattle.pivot_map.specs.Rows.{AreRows}
use Rattle.row_table.specs.Tables.{row_with}
use Rattle.row_list.specs.declared.sorting.SlottedRow.{SlottedRow}
use Rattle.row_list.specs.Slotted.{rows_of}
use Rattle.row_list.specs.Lists.{ListedRows, IsListed, IsPlaceOf, IsPlaceFor, IsInOrder, slotted}
use Rattle.row_list.specs.ListLaws.{row_with-found, row_with-absent, rows_of-slotted}
use Rattle.row_list.specs.Members.{AreRows-insert}
use Rattle.redo_journal.specs.Pages.{page}
use Rattle.redo_journal.specs.Redo.{RecoversTo, has_open_gate}
use Rattle.page_store.specs.PageStore.{PagesView, is_home, in_pool, has}
use Rattle.object_file.specs.Slots.{Holds}
use Rattle.object_file.specs.ObjectFile.{Slots, HasSlots, slot_page, slot_at}
use Rattle.store_check.specs.Layout.{file_pages}
use Rattle.store_check.specs.Stands.{store_magic}
use Rattle.slot_laws.specs.FreeSlotLaws.{free_slots_read_as_free, filling_takes_a_free_slot}
use Rattle.slot_laws.specs.SlotTables.{GainsRow}
use Rattle.slot_laws.specs.SlotTableLaws.{filling_adds_a_row}
use Rattle.open_store.specs.declared.errors.First.{First}
use Rattle.open_store.specs.declared.errors.First.TheVariants as errors
use Rattle.open_store.specs.Errors.{change_error, IsUndamaged}
use Rattle.open_store.specs.declared.errors.ChangeError.{ChangeError}
use Rattle.open_store.specs.declared.errors.ChangeError.TheVariants as change
use Rattle.open_store.specs.SlotChange.{HasSlotSet, IsFilledOrNot, HasSamePool, IsReady}
use Rattle.open_store.specs.Store.{StoreView, IsStore, IsInState, IsTable, tables_of, table_at, row_in, slot_tables, row_count, is_full_store, measured_row, with_member}
use Rattle.open_store.specs.Answers.{AnswersAdd, StandsForEither}
use Rattle.open_store.proofs.SlotRuns.{stands_for_itself}
use Rattle.open_store.proofs.Tables.{table-at, tables-insert, rows_of-insert, All-insert, table_gains, row_count-insert}
use Rattle.open_store.proofs.States.{fits_in_slot, cap_of, space_of, key_in, full_in, stands_before, stands_after, filled_keeps, in_state_after}

-- ---- what an addition answers

-- by an object in place of its row
answers_mapped : (o : Option Row) (full : Bool) (result : Result Unit ChangeError) → AnswersAdd o full result
    → AnswersAdd (option_map (λ (row : Row). row.object) o) full result
answers_mapped None full (Ok _) says = (refl, says.1)
answers_mapped (Some row) full (Ok _) says = absurd (let none : Some row ≡ None = says.0 in cc)
answers_mapped None full (Err change.Exists) says = says
answers_mapped (Some row) full (Err change.Exists) says = refl
answers_mapped o full (Err change.Absent) says = says
answers_mapped None full (Err change.Full) says = (refl, says.1)
answers_mapped (Some row) full (Err change.Full) says = absurd (let none : Some row ≡ None = says.0 in cc)
answers_mapped None full (Err change.DiskFault) says = (refl, says.1)
answers_mapped (Some row) full (Err change.DiskFault) says = absurd (let none : Some row ≡ None = says.0 in cc)
answers_mapped o full (Err (change.Damaged n rule)) says = says
answers_mapped None full (Err change.Memory) says = (refl, says.1)
answers_mapped (Some row) full (Err change.Memory) says = absurd (let none : Some row ≡ None = says.0 in cc)
answers_mapped o full (Err (change.Spent e)) says = tt

-- what it answers after an error
pub failed_answers : {X : Type 0} (found : Option X) (full : Bool) (first : First) (e : ChangeError) → e ≡ change_error first → IsUndamaged {A = ℕ} (Err first)
    → found ≡ None → full ≡ false → AnswersAdd found full (Err e)
failed_answers found full first e is undamaged none room = subst (λ why. AnswersAdd found full (Err why)) (sym is) (by first undamaged)
  where
    by : (first : First) → IsUndamaged {A = ℕ} (Err first) → AnswersAdd found full (Err (change_error first))
    by errors.DiskFault undamaged = (none, room)
    by (errors.Damaged n rule) undamaged = absurd undamaged
    by errors.Memory undamaged = (none, room)

pub full_without_free : (count free cap : ℕ) → count + free ≡ cap → nat_eq free 0 ≡ true → nat_le cap count ≡ true
full_without_free count free cap counted none = grind (arith, nat_tests, counted, none)

pub room_with_free : (count free cap : ℕ) → count + free ≡ cap → nat_eq free 0 ≡ false → nat_le cap count ≡ false
room_with_free count free cap counted some = grind (arith, nat_tests, counted, some)

pub in_lists : (lists : List ListedRows) (c : ℕ) → length (tables_of lists) ≡ 4 → c < 4 → c < length lists
in_lists lists c four below = let same = length-map lists (λ (l : ListedRows). slotted l.rows l.slots) in omega (arith, same, four, below)

-- the rows that are searched
pub rows_in : (lists : List ListedRows) (c : ℕ) (d : ListedRows) → c < length lists → IsListed (get_or lists c d).rows (get_or lists c d).slots
    → rows_of (table_at (tables_of lists) c) ≡ (get_or lists c d).rows
rows_in lists c d below listed = ap rows_of (table-at lists c d below) ∙ rows_of-slotted (get_or lists c d).rows (get_or lists c d).slots listed.same_length

pub len_in : (lists : List ListedRows) (c : ℕ) (d : ListedRows) → length lists ≡ 4 → c < 4 → IsListed (get_or lists c d).rows (get_or lists c d).slots
    → length (table_at (tables_of lists) c) ≡ length (get_or lists c d).rows
len_in lists c d long inside listed =
    sym (length-map (table_at (tables_of lists) c) (λ (r : SlottedRow). r.row)) ∙ ap length (rows_in lists c d (omega (arith, long, inside)) listed)

pub row_is_there : (lists : List ListedRows) (c id place : ℕ) (d : ListedRows) → c < length lists → IsListed (get_or lists c d).rows (get_or lists c d).slots
    → IsPlaceOf (get_or lists c d).rows id place → IsSome (row_in (tables_of lists) c id)
row_is_there lists c id place d below listed at =
    let row : Row = record { id = 0; object = []; vect = [] } in
    subst IsSome (sym (ap (row_with id) (rows_in lists c d below listed) ∙ row_with-found (get_or lists c d).rows id place row listed.order at)) refl

pub row_is_absent : (lists : List ListedRows) (c id place : ℕ) (d : ListedRows) → c < length lists → IsListed (get_or lists c d).rows (get_or lists c d).slots
    → IsPlaceFor (get_or lists c d).rows id place → row_in (tables_of lists) c id ≡ None
row_is_absent lists c id place d below listed at =
    ap (row_with id) (rows_in lists c d below listed) ∙ row_with-absent (get_or lists c d).rows id place at

-- a list with a row more in its collection's place
pub list_grows : (lists : List ListedRows) (c id place slot : ℕ) (row : Row) (list d e : ListedRows) → c < length lists
    → IsListed (get_or lists c d).rows (get_or lists c d).slots → IsPlaceFor (get_or lists c d).rows id place
    → list.rows ≡ insert (get_or lists c e).rows place row → list.slots ≡ insert (get_or lists c e).slots place slot → IsListed list.rows list.slots
    → IsPlaceFor (rows_of (table_at (tables_of lists) c)) id place × IsInOrder (insert (rows_of (table_at (tables_of lists) c)) place row)
    × (tables_of (slice_set lists c list) ≡ slice_set (tables_of lists) c (insert (table_at (tables_of lists) c) place (record { slot = slot; row = row })))
list_grows lists c id place slot row list d e below listed at rows slots sound =
    let same = get_or_default lists c e d below in
    let is = rows_in lists c d below listed in
    let of_rows : list.rows ≡ insert (get_or lists c d).rows place row = rows ∙ ap (λ (l : ListedRows). insert l.rows place row) same in
    let of_slots : list.slots ≡ insert (get_or lists c d).slots place slot = slots ∙ ap (λ (l : ListedRows). insert l.slots place slot) same in (
      subst (λ rs. IsPlaceFor rs id place) (sym is) at,
      subst IsInOrder (of_rows ∙ ap (λ rs. insert rs place row) (sym is)) sound.order,
      tables-insert lists c place slot row list d below listed at.within of_rows of_slots,
    )

module _ {D M : Type 0} (is_known : D → Bool) (image : D → List ℕ) (admitted : M → Object → Type 0) (dist : M → Distance) (v : StoreView D M)
    (store : IsStore is_known image admitted dist v) where
  -- ---- the parts of a store

  pub total_in : (s : State) → IsInState is_known image v s → v.pages.total ≡ file_pages s.cap
  total_in s in_state = store.total_is ∙ ap file_pages (sym (cap_of is_known image v s in_state))

  -- the pages of the slots are there
  pub has_slots : HasSlots (has v.pages) v.slots.cap
  has_slots slot below =
      let total = store.total_is in
      let cap = store.cap_is in
      let inside : slot_page slot < v.pages.total = omega (arith, below, total, cap) in
      let home : is_home v.pages.total (slot_page slot) ≡ true = within v.pages.total (slot_page slot) (omega arith) inside in
      ap (λ b. b || in_pool v.pages (slot_page slot)) home
    where
      within : (total n : ℕ) → 85 ≤ n → n < total → is_home total n ≡ true
      within total n least below = grind (arith, nat_tests, least, below)

  pub object_fits : (object : List ℕ) → admitted v.metric object → length object ≤ 120
  object_fits object admits = fits_in_slot v.profile.space object store.in_range.fit ((store.metric_is.admits object).0 admits)

  pub object_is_valid : (s : State) (object : List ℕ) → IsInState is_known image v s → admitted v.metric object → IsValid s.space object
  object_is_valid s object in_state admits =
      subst (λ space. IsValid space object) (sym (space_of is_known image v s in_state)) ((store.metric_is.admits object).0 admits)

  -- the image stands for its own pages
  pub stands_now : (s : State) → IsInState is_known image v s → RecoversTo v.pages.total (image v.pages.disk) store_magic (page (image v.pages.disk))
  stands_now s in_state =
      let total = store.total_is in
      subst (λ marks. RecoversTo v.pages.total (image v.pages.disk) marks (page (image v.pages.disk))) in_state.stored.marks_are
      (stands_for_itself v.pages.total (image v.pages.disk) (omega (arith, total))
      (in_state.stored.size ∙ ap (λ n. 512 * n) (sym (total_in s in_state))) in_state.stored.closed)

  pub replies_add : (c id : ℕ) (result : Result Unit ChangeError) → v.spent ≡ None → AnswersAdd (row_in v.tables c id) (is_full_store v) result
      → (s : State) → IsInState is_known image v s → AnswersAdd (object_at s c id) (is_full s) result
  replies_add c id result unspent says s in_state =
      subst (λ o. AnswersAdd o (is_full s) result) (sym (key_in is_known image v s c id in_state store.four))
      (subst (λ full. AnswersAdd (option_map (λ (row : Row). row.object) (row_in v.tables c id)) full result)
      (sym (full_in is_known image v s in_state (store.counted unspent)))
      (answers_mapped (row_in v.tables c id) (is_full_store v) result says))

  -- ---- the store after a call

  -- one that is spent
  pub spent_store : (pages : PagesView D) (slots : Slots) (tables : List (List SlottedRow)) (e : First) → HasSamePool v.pages pages → slots.cap ≡ v.slots.cap
      → tables ≡ v.tables → IsStore is_known image admitted dist (record v { pages = pages; slots = slots; tables = tables; spent = Some e })
  spent_store pages slots tables e pool cap same = record {
    in_range = store.in_range;
    metric_is = store.metric_is;
    total_is = pool.same_total ∙ store.total_is;
    first_is = pool.same_first ∙ store.first_is;
    count_is = pool.same_count ∙ store.count_is;
    cap_is = cap ∙ store.cap_is;
    pivots_are = store.pivots_are;
    pivot_count = store.pivot_count;
    four = ap length same ∙ store.four;
    each = subst (All (IsTable (admitted v.metric) (dist v.metric) v.pivots v.profile.cap)) (sym same) store.each;
    few = subst (λ ts. row_count ts ≤ v.profile.cap) (sym same) store.few;
    counted = λ is. absurd (some_more e is);
    ready = λ is. absurd (some_more e is);
    closed = λ is. absurd (some_more e is);
  }
    where
      some_more : (first : First) → Some first ≡ None → ⊥
      some_more first is = cc

  -- one with a row more
  pub grown_store : (pages : PagesView D) (slots : Slots) (tables : List (List SlottedRow)) (e : Option First) (c place slot id : ℕ) (object : List ℕ) → HasSamePool v.pages pages
      → slots.cap ≡ v.slots.cap → v.spent ≡ None → c < 4 → slot < v.slots.cap → IsPermutation v.slots.free (slot ∷ slots.free)
      → admitted v.metric object → IsPlaceFor (rows_of (table_at v.tables c)) id place
      → IsInOrder (insert (rows_of (table_at v.tables c)) place (measured_row (dist v.metric) v.pivots id object))
      → tables ≡ slice_set v.tables c (insert (table_at v.tables c) place (record { slot = slot; row = measured_row (dist v.metric) v.pivots id object }))
      → IsReady pages → (IsTrue (is_known pages.disk) → has_open_gate (image pages.disk) ≡ false)
      → IsStore is_known image admitted dist (record v { pages = pages; slots = slots; tables = tables; spent = e })
  grown_store pages slots tables e c place slot id object pool cap unspent collection below taken admits at order is ready closed =
      let row : SlottedRow = record { slot = slot; row = measured_row (dist v.metric) v.pivots id object } in
      let old = table_at v.tables c in
      let in_tables : c < length v.tables = let four = store.four in omega (arith, four, collection) in
      let one : IsTable (admitted v.metric) (dist v.metric) v.pivots v.profile.cap old = store.each c [] in_tables in
      let few : v.profile.cap ≤ 65536 = store.in_range.few in
      let counted = store.counted unspent in
      let all = length_permutation v.slots.free (slot ∷ slots.free) taken in
      let more = row_count-insert v.tables c place row in_tables in
      let now : row_count tables ≡ row_count (slice_set v.tables c (insert old place row)) = ap row_count is in
      let within = get_or-le-sum_by length v.tables c [] in_tables in
      let long = length-map old (λ (r : SlottedRow). r.row) in
      let held = store.few in
      let many : length (rows_of old) ≤ 65536 = omega (arith, within, long, held, few) in
      let rows = rows_of-insert old place row in
      let new : IsTable (admitted v.metric) (dist v.metric) v.pivots v.profile.cap (insert old place row) = record {
        order = subst IsInOrder (sym rows) order;
        rows = subst (λ rs. AreRows (admitted v.metric) (dist v.metric) v.pivots rs) (sym rows)
            (AreRows-insert (admitted v.metric) (dist v.metric) v.pivots (rows_of old) place row.row one.rows (omega (arith, many)) at admits refl);
        below = All-insert (λ (r : SlottedRow). r.slot < v.profile.cap) old place row (let cap = store.cap_is in omega (arith, below, cap)) one.below;
      } in
      record {
        in_range = store.in_range;
        metric_is = store.metric_is;
        total_is = pool.same_total ∙ store.total_is;
        first_is = pool.same_first ∙ store.first_is;
        count_is = pool.same_count ∙ store.count_is;
        cap_is = cap ∙ store.cap_is;
        pivots_are = store.pivots_are;
        pivot_count = store.pivot_count;
        four = ap length is ∙ length-set v.tables c (insert old place row) ∙ store.four;
        each = subst (All (IsTable (admitted v.metric) (dist v.metric) v.pivots v.profile.cap)) (sym is)
            (All-set (IsTable (admitted v.metric) (dist v.metric) v.pivots v.profile.cap) v.tables c (insert old place row) new store.each);
        few = omega (arith, counted, all, more, now);
        counted = λ _. omega (arith, counted, all, more, now);
        ready = λ _. ready;
        closed = λ _. closed;
      }

  -- ---- states after an addition

  -- what a crash leaves
  pub left_by_adding : (s : State) (c id : ℕ) (object left : List ℕ) → IsInState is_known image v s → v.spent ≡ None → row_in v.tables c id ≡ None
      → id < 2 ^ 32 → admitted v.metric object
      → IsFilledOrNot v.pages.total v.slots.free (Holds c id object) store_magic (page (image v.pages.disk)) left
      → StandsForEither s (with_member s c id object) left
  left_by_adding s c id object left in_state unspent none small admits (inl before) =
      inl (stands_before is_known image v s v.pages.total left in_state (total_in s in_state) before)
  left_by_adding s c id object left in_state unspent none small admits (inr after) =
      inr (stands_after is_known image v s v.pages.total c id object left in_state (total_in s in_state) after (absent s c id in_state none) small
      (object_is_valid s object in_state admits))
    where
      absent : (s : State) (c id : ℕ) → IsInState is_known image v s → row_in v.tables c id ≡ None → object_at s c id ≡ None
      absent s c id in_state none = key_in is_known image v s c id in_state store.four ∙ ap (option_map (λ (row : Row). row.object)) none

  -- the state with the object
  pub in_state_with : (pages : PagesView D) (slots : Slots) (tables : List (List SlottedRow)) (e : Option First) (s : State) (c place slot id : ℕ) (object : List ℕ)
      → IsInState is_known image v s → c < 4 → id < 2 ^ 32 → admitted v.metric object → row_in v.tables c id ≡ None → HasSamePool v.pages pages
      → is_known pages.disk ≡ is_known v.pages.disk → IsPermutation v.slots.free (slot ∷ slots.free)
      → tables ≡ slice_set v.tables c (insert (table_at v.tables c) place (record { slot = slot; row = measured_row (dist v.metric) v.pivots id object }))
      → HasSlotSet v.pages.total slot (Holds c id object) store_magic (page (image v.pages.disk)) (image pages.disk) → has_open_gate (image pages.disk) ≡ false
      → IsInState is_known image (record v { pages = pages; slots = slots; tables = tables; spent = e }) (with_member s c id object)
  in_state_with pages slots tables e s c place slot id object in_state collection small admits none pool known taken is after closed =
      let old = page (image v.pages.disk) in
      let w : StoreView D M = record v { pages = pages; slots = slots; tables = tables; spent = e } in
      let row : SlottedRow = record { slot = slot; row = measured_row (dist v.metric) v.pivots id object } in
      let in_tables : c < length v.tables = let four = store.four in omega (arith, four, collection) in
      let free = free_slots_read_as_free s.cap (slot_at old) v.slots.free slots.free slot in_state.free_are taken in
      let absent : object_at s c id ≡ None = key_in is_known image v s c id in_state store.four ∙ ap (option_map (λ (row : Row). row.object)) none in
      in_state_after is_known image v w s (with_member s c id object) slot (Holds c id object) in_state known refl refl pool (total_in s in_state) after closed
      (with_object s.members c id object) refl
      (filled_keeps is_known image v s slot c id object slots.free after.home in_state taken after.sets absent small (object_is_valid s object in_state admits))
      (filling_adds_a_row s.cap slot c id object old after.home (slot_tables v.tables) (slot_tables tables) in_state.rows_are free.0 free.1 after.sets
      (subst (λ ts. GainsRow c (slot, (id, object)) (slot_tables v.tables) (slot_tables ts)) (sym is)
      (table_gains v.tables c place slot id object row in_tables refl refl refl)))
      (filling_takes_a_free_slot s.cap slot c id object old after.home v.slots.free slots.free in_state.free_are taken after.sets)
