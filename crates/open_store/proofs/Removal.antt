-- A store from which an object is removed, or that gives one.
use Rattle.std.proofs.Common.{◌≡◌, inl, inr, ℕ, zero, suc, ◌+◌, ◌<◌, Bool, false, IsTrue, List, [], ◌∷◌, map, length, get_or, Option, Some, None, Result, Ok, Err, refl, sym, ap, subst, ◌∙◌, arith}
use Rattle.std.specs.Prelude.{All, IsSome, slice_set}
use Rattle.std.specs.List.{remove}
use Rattle.std.specs.List.Sorted.{IsPermutation}
use Rattle.std.specs.Map.{keys_of}
use Rattle.std.specs.Option.{option_map}
use Rattle.std.proofs.lemmas.List.{length-set, length-map, get_or-map, get_or_default, map-set}
use Rattle.std.proofs.lemmas.List.Elements.{All-set}
use Rattle.std.proofs.lemmas.List.Sorted.{IsPermutation-map, All-permutation, length_permutation}
use Rattle.std.proofs.lemmas.List.Sums.{sum_by-set}
use Rattle.metric_laws.specs.Objects.{Object, Distance}
use Rattle.spb_defs.specs.State.{State, object_at, member_count, entries_in, without_object}
use Rattle.pivot_map.specs.declared.row.Row.{Row}
use Rattle.pivot_map.specs.Rows.{AreRows, entries_of}
use Rattle.row_list.specs.declared.sorting.SlottedRow.{SlottedRow}
use Rattle.row_list.specs.Slotted.{rows_of}
use Rattle.row_list.specs.Lists.{ListedRows, IsListed, IsPlaceOf, IsInOrder, slotted}
use Rattle.row_list.specs.ListLaws.{remove-permutation, length-remove_one, slotted-at, slotted-remove}
use Rattle.row_list.specs.Members.{AreRows-remove}
use Rattle.redo_journal.specs.Pages.{page}
use Rattle.redo_journal.specs.Redo.{RecoversTo, has_open_gate, overlay}
use Rattle.page_laws.specs.Pages.{is_among}
use Rattle.page_store.specs.PageStore.{PagesView, page_at}
use Rattle.object_file.specs.Slots.{Free, Holds}
use Rattle.object_file.specs.ObjectFile.{Slots, slot_page, slot_at, is_filled, SetsSlot}
use Rattle.store_check.specs.Profile.{profile_in}
use Rattle.store_check.specs.Stands.{Keeps, store_magic}
use Rattle.slot_laws.specs.ChangeLaws.{clearing_removes, slots_give_objects}
use Rattle.slot_laws.specs.FreeSlots.{AreFreeSlots}
use Rattle.slot_laws.specs.FreeSlotLaws.{clearing_frees_a_slot, filled_slots_are_live}
use Rattle.slot_laws.specs.SlotTables.{SlotRow, slot_table, AreTablesOf, GainsRow}
use Rattle.slot_laws.specs.SlotTableLaws.{clearing_takes_a_row, rows_are_in_slots}
use Rattle.slot_laws.specs.TableRows.{loses_row}
use Rattle.open_store.specs.declared.errors.First.{First}
use Rattle.open_store.specs.declared.errors.First.TheVariants as errors
use Rattle.open_store.specs.declared.errors.ChangeError.{ChangeError}
use Rattle.open_store.specs.declared.errors.ChangeError.TheVariants as change
use Rattle.open_store.specs.Errors.{change_error, IsUndamaged, BlamesSlot}
use Rattle.open_store.specs.SlotChange.{HasSlotSet, IsSetOrNot, HasSamePool, IsReady}
use Rattle.open_store.specs.Store.{StoreView, IsStore, IsStored, IsInState, IsTable, tables_of, table_at, row_in, slot_row, slot_tables, row_count, without_member}
use Rattle.open_store.specs.Answers.{AnswersKey, IsSound, HasUnfilledRow, BlamesProfile, BlamesSlots, StandsForEither}
use Rattle.open_store.proofs.Tables.{slot_table_at, rows_are_members, count_is, tables-set, table-at}
use Rattle.open_store.proofs.States.{cap_of, key_in, stands_before, set_keeps, in_state_after, pool_same}
use Rattle.open_store.proofs.Addition.{rows_in, total_in}

-- ---- what is answered

key_mapped : (o : Option Row) (result : Result Unit ChangeError) → AnswersKey o result → AnswersKey (option_map (λ (row : Row). row.object) o) result
key_mapped (Some row) (Ok _) says = refl
key_mapped None (Ok _) says = says
key_mapped o (Err change.Exists) says = says
key_mapped None (Err change.Absent) says = refl
key_mapped (Some row) (Err change.Absent) says = absurd (let none : Some row ≡ None = says in cc)
key_mapped o (Err change.Full) says = says
key_mapped (Some row) (Err change.DiskFault) says = refl
key_mapped None (Err change.DiskFault) says = says
key_mapped (Some row) (Err (change.Damaged n r)) says = refl
key_mapped None (Err (change.Damaged n r)) says = says
key_mapped (Some row) (Err change.Memory) says = refl
key_mapped None (Err change.Memory) says = says
key_mapped o (Err (change.Spent e)) says = tt

-- after an error
pub failed_key : {X : Type 0} (found : Option X) (first : First) (e : ChangeError) → e ≡ change_error first → IsSome found → AnswersKey found (Err e)
failed_key found first e is some = subst (λ why. AnswersKey found (Err why)) (sym is) (by first)
  where
    by : (first : First) → AnswersKey found (Err (change_error first))
    by errors.DiskFault = some
    by (errors.Damaged n r) = some
    by errors.Memory = some

pub failed_sound : (first : First) (e : ChangeError) → e ≡ change_error first → IsUndamaged {A = Unit {0}} (Err first) → IsSound (Err e)
failed_sound first e is undamaged = subst (λ why. IsSound (Err why)) (sym is) (by first undamaged)
  where
    by : (first : First) → IsUndamaged {A = Unit {0}} (Err first) → IsSound (Err (change_error first))
    by errors.DiskFault undamaged = tt
    by (errors.Damaged n r) undamaged = absurd undamaged
    by errors.Memory undamaged = tt

-- what is blamed for a reason that can't be isn't damaged
pub blameless : (n : ℕ) (reason : Type 0) (first : First) → BlamesSlot {A = Unit {0}} n reason (Err first) → (reason → ⊥) → IsUndamaged {A = Unit {0}} (Err first)
blameless n reason errors.DiskFault blames never = tt
blameless n reason (errors.Damaged m r) blames never = never blames.2
blameless n reason errors.Memory blames never = tt

-- ---- a table with a row less

abbrev no_row : SlottedRow
no_row = record { slot = 0; row = record { id = 0; object = []; vect = [] } }

abbrev pub row_of : List SlottedRow → ℕ → SlottedRow
row_of table place = get_or table place no_row

rows_of-remove : (table : List SlottedRow) (place : ℕ) → rows_of (remove table place) ≡ remove (rows_of table) place
rows_of-remove [] zero = refl
rows_of-remove [] (suc place) = refl
rows_of-remove (r ∷ table) zero = refl
rows_of-remove (r ∷ table) (suc place) = ap (λ more. r.row ∷ more) (rows_of-remove table place)

All-remove : {X : Type 0} (P : X → Type 0) (xs : List X) (place : ℕ) (d : X) → place < length xs → All P xs → All P (remove xs place)
All-remove P xs place d below all =
    let moved = All-permutation P xs (get_or xs place d ∷ remove xs place) (remove-permutation xs place d below) all in
    λ k e under. moved (suc k) e (omega (arith, under))

pub table_loses : (ts : List (List SlottedRow)) (c place id : ℕ) → c < length ts → place < length (table_at ts c) → (row_of (table_at ts c) place).row.id ≡ id
    → GainsRow c ((row_of (table_at ts c) place).slot, (id, (row_of (table_at ts c) place).row.object)) (slot_tables (slice_set ts c (remove (table_at ts c) place))) (slot_tables ts)
table_loses ts c place id below within is =
    let old = table_at ts c in
    let row = row_of old place in
    let left = map slot_row (remove old place) in
    let lost : IsPermutation (slot_table (slot_tables ts) c) (slot_row row ∷ left) =
    subst (λ table. IsPermutation table (slot_row row ∷ left)) (sym (slot_table_at ts c))
    (IsPermutation-map slot_row old (row ∷ remove old place) (remove-permutation old place no_row within)) in
    subst (λ fewer. GainsRow c (row.slot, (id, row.row.object)) fewer (slot_tables ts)) (sym (map-set (λ (table : List SlottedRow). map slot_row table) ts c (remove old place)))
    (loses_row (slot_tables ts) c (row.slot, (id, row.row.object)) left (let same = length-map ts (λ (table : List SlottedRow). map slot_row table) in omega (arith, same, below))
    (subst (λ n. IsPermutation (slot_table (slot_tables ts) c) ((row.slot, (n, row.row.object)) ∷ left)) is lost))

row_count-remove : (ts : List (List SlottedRow)) (c place : ℕ) → c < length ts → place < length (table_at ts c)
    → row_count (slice_set ts c (remove (table_at ts c) place)) + 1 ≡ row_count ts
row_count-remove ts c place below within =
    let all = sum_by-set length ts c (remove (table_at ts c) place) [] below in
    let less = length-remove_one (table_at ts c) place within in
    omega (arith, all, less)

-- ---- a list with a row less in its collection's place

-- the row that is found, with its slot
pub found_row : (lists : List ListedRows) (c id place : ℕ) (d : ListedRows) → c < length lists → IsListed (get_or lists c d).rows (get_or lists c d).slots
    → IsPlaceOf (get_or lists c d).rows id place
    → (place < length (table_at (tables_of lists) c)) × ((row_of (table_at (tables_of lists) c) place).slot ≡ get_or (get_or lists c d).slots place 0)
    × ((row_of (table_at (tables_of lists) c) place).row.id ≡ id)
found_row lists c id place d below listed at =
    let rows = (get_or lists c d).rows in
    let slots = (get_or lists c d).slots in
    let table : table_at (tables_of lists) c ≡ slotted rows slots = table-at lists c d below in
    let e : Row = record { id = 0; object = []; vect = [] } in
    let here : row_of (slotted rows slots) place ≡ record { slot = get_or slots place 0; row = get_or rows place e } =
    slotted-at rows slots place no_row e listed.same_length at.within in
    let long : length (rows_of (table_at (tables_of lists) c)) ≡ length rows = ap length (rows_in lists c d below listed) in
    let many = length-map (table_at (tables_of lists) c) (λ (r : SlottedRow). r.row) in
    let within = at.within in (
      omega (arith, long, many, within),
      ap (λ t. (row_of t place).slot) table ∙ ap (λ (r : SlottedRow). r.slot) here,
      ap (λ t. (row_of t place).row.id) table ∙ ap (λ (r : SlottedRow). r.row.id) here ∙ at.is e,
    )

pub list_shrinks : (lists : List ListedRows) (c id place : ℕ) (list d e : ListedRows) → c < length lists
    → IsListed (get_or lists c d).rows (get_or lists c d).slots → IsPlaceOf (get_or lists c d).rows id place
    → list.rows ≡ remove (get_or lists c e).rows place → list.slots ≡ remove (get_or lists c e).slots place → IsListed list.rows list.slots
    → IsInOrder (remove (rows_of (table_at (tables_of lists) c)) place)
    × (tables_of (slice_set lists c list) ≡ slice_set (tables_of lists) c (remove (table_at (tables_of lists) c) place))
list_shrinks lists c id place list d e below listed at rows slots sound =
    let same = get_or_default lists c e d below in
    let of_rows : list.rows ≡ remove (get_or lists c d).rows place = rows ∙ ap (λ (l : ListedRows). remove l.rows place) same in
    let of_slots : list.slots ≡ remove (get_or lists c d).slots place = slots ∙ ap (λ (l : ListedRows). remove l.slots place) same in (
      subst IsInOrder (of_rows ∙ ap (λ rs. remove rs place) (sym (rows_in lists c d below listed))) sound.order,
      tables-set lists c list
          ∙ ap (slice_set (tables_of lists) c) (ap (λ rs. slotted rs list.slots) of_rows ∙ ap (slotted (remove (get_or lists c d).rows place)) of_slots
          ∙ slotted-remove (get_or lists c d).rows (get_or lists c d).slots place listed.same_length at.within
          ∙ ap (λ table. remove table place) (sym (table-at lists c d below))),
    )

module _ {D M : Type 0} (is_known : D → Bool) (image : D → List ℕ) (admitted : M → Object → Type 0) (dist : M → Distance) (v : StoreView D M)
    (store : IsStore is_known image admitted dist v) where
  pub replies_key : (c id : ℕ) (result : Result Unit ChangeError) → AnswersKey (row_in v.tables c id) result
      → (s : State) → IsInState is_known image v s → AnswersKey (object_at s c id) result
  replies_key c id result says s in_state =
      subst (λ o. AnswersKey o result) (sym (key_in is_known image v s c id in_state store.four)) (key_mapped (row_in v.tables c id) result says)

  -- ---- what is read of the rows

  pub count_in : (s : State) (c : ℕ) → IsInState is_known image v s → length (table_at v.tables c) ≡ member_count s.members c
  count_in s c in_state = count_is s.space s.cap c (page (image v.pages.disk)) s.members v.tables in_state.stored.keeps.members store.four in_state.rows_are

  pub rows_are : (s : State) (c : ℕ) → IsInState is_known image v s → IsPermutation (entries_in s.members c) (entries_of (rows_of (table_at v.tables c)))
  rows_are s c in_state = rows_are_members s.space s.cap c (page (image v.pages.disk)) s.members v.tables in_state.stored.keeps.members store.four in_state.rows_are

  -- the slot of a row holds its object
  pub slot_holds : (s : State) (c place id : ℕ) → IsInState is_known image v s → c < 4 → place < length (table_at v.tables c)
      → (row_of (table_at v.tables c) place).row.id ≡ id
      → ((row_of (table_at v.tables c) place).slot < s.cap)
      × (slot_at (page (image v.pages.disk)) (row_of (table_at v.tables c) place).slot ≡ Holds c id (row_of (table_at v.tables c) place).row.object)
  slot_holds s c place id in_state collection within is =
      let table = table_at v.tables c in
      let row = row_of table place in
      let old = page (image v.pages.disk) in
      let all = rows_are_in_slots s.cap (slot_at old) c (slot_table (slot_tables v.tables) c) (in_state.rows_are c collection) in
      let long : length (slot_table (slot_tables v.tables) c) ≡ length table = ap length (slot_table_at v.tables c) ∙ length-map table slot_row in
      let one = all place (slot_row row) (omega (arith, long, within)) in
      let here : get_or (slot_table (slot_tables v.tables) c) place (slot_row row) ≡ slot_row row =
      ap (λ rows. get_or rows place (slot_row row)) (slot_table_at v.tables c) ∙ get_or-map slot_row table place no_row (slot_row row) within in
      let held : (row.slot < s.cap) × (slot_at old row.slot ≡ Holds c row.row.id row.row.object) =
      subst (λ (r : SlotRow). (r.0 < s.cap) × (slot_at old r.0 ≡ Holds c r.1.0 r.1.1)) here one in
      (held.0, held.1 ∙ ap (λ n. Holds c n row.row.object) is)

  -- and isn't free
  pub slot_is_filled : (s : State) (c place id : ℕ) → IsInState is_known image v s → c < 4 → place < length (table_at v.tables c)
      → (row_of (table_at v.tables c) place).row.id ≡ id → IsTrue (is_filled v.slots (row_of (table_at v.tables c) place).slot)
  slot_is_filled s c place id in_state collection within is =
      let row = row_of (table_at v.tables c) place in
      let holds = slot_holds s c place id in_state collection within is in
      let cap : s.cap ≡ v.slots.cap = cap_of is_known image v s in_state ∙ sym store.cap_is in
      subst (λ n. IsTrue (is_filled (record { cap = n; free = v.slots.free }) row.slot)) cap
      (filled_slots_are_live s.cap (slot_at (page (image v.pages.disk))) v.slots.free row.slot c id row.row.object in_state.free_are holds.0 holds.1)

  -- ---- the store after a removal

  pub shrunk_store : (pages : PagesView D) (slots : Slots) (tables : List (List SlottedRow)) (e : Option First) (c place slot : ℕ) → HasSamePool v.pages pages
      → slots.cap ≡ v.slots.cap → v.spent ≡ None → c < 4 → place < length (table_at v.tables c) → IsPermutation slots.free (slot ∷ v.slots.free)
      → IsInOrder (remove (rows_of (table_at v.tables c)) place) → tables ≡ slice_set v.tables c (remove (table_at v.tables c) place)
      → IsReady pages → (IsTrue (is_known pages.disk) → has_open_gate (image pages.disk) ≡ false)
      → IsStore is_known image admitted dist (record v { pages = pages; slots = slots; tables = tables; spent = e })
  shrunk_store pages slots tables e c place slot pool cap unspent collection within freed order is ready closed =
      let old = table_at v.tables c in
      let in_tables : c < length v.tables = let four = store.four in omega (arith, four, collection) in
      let one : IsTable (admitted v.metric) (dist v.metric) v.pivots v.profile.cap old = store.each c [] in_tables in
      let counted = store.counted unspent in
      let all = length_permutation slots.free (slot ∷ v.slots.free) freed in
      let less = row_count-remove v.tables c place in_tables within in
      let now : row_count tables ≡ row_count (slice_set v.tables c (remove old place)) = ap row_count is in
      let rows = rows_of-remove old place in
      let many = length-map old (λ (r : SlottedRow). r.row) in
      let new : IsTable (admitted v.metric) (dist v.metric) v.pivots v.profile.cap (remove old place) = record {
        order = subst IsInOrder (sym rows) order;
        rows = subst (λ rs. AreRows (admitted v.metric) (dist v.metric) v.pivots rs) (sym rows)
            (AreRows-remove (admitted v.metric) (dist v.metric) v.pivots (rows_of old) place one.rows (omega (arith, many, within)));
        below = All-remove (λ (r : SlottedRow). r.slot < v.profile.cap) old place no_row within one.below;
      } in
      record {
        in_range = store.in_range;
        metric_is = store.metric_is;
        total_is = pool.same_total ∙ store.total_is;
        first_is = pool.same_first ∙ store.first_is;
        count_is = pool.same_count ∙ store.count_is;
        cap_is = cap ∙ store.cap_is;
        pivots_are = store.pivots_are;
        pivot_count = store.pivot_count;
        four = ap length is ∙ length-set v.tables c (remove old place) ∙ store.four;
        each = subst (All (IsTable (admitted v.metric) (dist v.metric) v.pivots v.profile.cap)) (sym is)
            (All-set (IsTable (admitted v.metric) (dist v.metric) v.pivots v.profile.cap) v.tables c (remove old place) new store.each);
        few = omega (arith, counted, all, less, now);
        counted = λ _. omega (arith, counted, all, less, now);
        ready = λ _. ready;
        closed = λ _. closed;
      }

  -- the pages with the slot cleared hold the state without the object
  cleared_keeps : (s : State) (c place id : ℕ) (home : ℕ → List ℕ) → IsInState is_known image v s → c < 4 → place < length (table_at v.tables c)
      → (row_of (table_at v.tables c) place).row.id ≡ id → SetsSlot (row_of (table_at v.tables c) place).slot Free (page (image v.pages.disk)) home
      → Keeps home (without_member s c id)
  cleared_keeps s c place id home in_state collection within is sets =
      let row = row_of (table_at v.tables c) place in
      let old = page (image v.pages.disk) in
      let holds = slot_holds s c place id in_state collection within is in
      set_keeps row.slot Free old home sets s (without_object s.members c id) in_state.stored.keeps
      (clearing_removes s.space s.cap row.slot c id row.row.object old home s.members in_state.stored.keeps.members holds.0 holds.1 sets)

  pub left_by_removing : (s : State) (c place id : ℕ) (left : List ℕ) → IsInState is_known image v s → c < 4 → place < length (table_at v.tables c)
      → (row_of (table_at v.tables c) place).row.id ≡ id
      → IsSetOrNot v.pages.total (row_of (table_at v.tables c) place).slot Free store_magic (page (image v.pages.disk)) left
      → StandsForEither s (without_member s c id) left
  left_by_removing s c place id left in_state collection within is (inl before) =
      inl (stands_before is_known image v s v.pages.total left in_state (total_in is_known image admitted dist v store s in_state) before)
  left_by_removing s c place id left in_state collection within is (inr after) =
      inr (record {
        home = after.home;
        has = subst (λ n. RecoversTo n left store_magic after.home) (total_in is_known image admitted dist v store s in_state) after.has;
        keeps = cleared_keeps s c place id after.home in_state collection within is after.sets;
      })

  pub in_state_without : (pages : PagesView D) (slots : Slots) (tables : List (List SlottedRow)) (e : Option First) (s : State) (c place id : ℕ)
      → IsInState is_known image v s → c < 4 → place < length (table_at v.tables c) → (row_of (table_at v.tables c) place).row.id ≡ id
      → HasSamePool v.pages pages → is_known pages.disk ≡ is_known v.pages.disk
      → IsPermutation slots.free ((row_of (table_at v.tables c) place).slot ∷ v.slots.free)
      → tables ≡ slice_set v.tables c (remove (table_at v.tables c) place)
      → HasSlotSet v.pages.total (row_of (table_at v.tables c) place).slot Free store_magic (page (image v.pages.disk)) (image pages.disk)
      → has_open_gate (image pages.disk) ≡ false
      → IsInState is_known image (record v { pages = pages; slots = slots; tables = tables; spent = e }) (without_member s c id)
  in_state_without pages slots tables e s c place id in_state collection within is pool known freed same after closed =
      let old = page (image v.pages.disk) in
      let row = row_of (table_at v.tables c) place in
      let w : StoreView D M = record v { pages = pages; slots = slots; tables = tables; spent = e } in
      let in_tables : c < length v.tables = let four = store.four in omega (arith, four, collection) in
      let holds = slot_holds s c place id in_state collection within is in
      in_state_after is_known image v w s (without_member s c id) row.slot Free in_state known refl refl pool
      (total_in is_known image admitted dist v store s in_state) after closed
      (without_object s.members c id) refl (cleared_keeps s c place id after.home in_state collection within is after.sets)
      (clearing_takes_a_row s.cap row.slot c id row.row.object old after.home (slot_tables v.tables) (slot_tables tables) in_state.rows_are holds.0 holds.1 after.sets
      (subst (λ ts. GainsRow c (row.slot, (id, row.row.object)) (slot_tables ts) (slot_tables v.tables)) (sym same)
      (table_loses v.tables c place id in_tables within is)))
      (clearing_frees_a_slot s.cap row.slot c id row.row.object old after.home v.slots.free slots.free in_state.free_are holds.0 holds.1 freed after.sets)

  -- ---- a row that is found

  pub row_is_below : (c place : ℕ) → c < 4 → place < length (table_at v.tables c) → (row_of (table_at v.tables c) place).slot < v.slots.cap
  row_is_below c place collection within =
      let one : IsTable (admitted v.metric) (dist v.metric) v.pivots v.profile.cap (table_at v.tables c) =
      store.each c [] (let four = store.four in omega (arith, four, collection)) in
      let below = one.below place no_row within in
      let cap = store.cap_is in
      omega (arith, below, cap)

  pub row_is_admitted : (c place : ℕ) → c < 4 → place < length (table_at v.tables c) → admitted v.metric (row_of (table_at v.tables c) place).row.object
  row_is_admitted c place collection within =
      let table = table_at v.tables c in
      let one : IsTable (admitted v.metric) (dist v.metric) v.pivots v.profile.cap table =
      store.each c [] (let four = store.four in omega (arith, four, collection)) in
      let many = length-map table (λ (r : SlottedRow). r.row) in
      subst (λ (row : Row). admitted v.metric row.object) (get_or-map (λ (r : SlottedRow). r.row) table place no_row no_row.row within)
      (one.rows.objects place no_row.row (omega (arith, many, within)))

  -- its slot's object is the member
  pub gives_member : (s : State) (c place id slot : ℕ) (object : List ℕ) → IsInState is_known image v s → c < 4 → place < length (table_at v.tables c)
      → (row_of (table_at v.tables c) place).slot ≡ slot → v.pages.staged ≡ [] → slot_at (page_at image v.pages) slot ≡ Holds c id object
      → object_at s c id ≡ Some object
  gives_member s c place id slot object in_state collection within is none holds =
      let below = row_is_below c place collection within in
      let cap : s.cap ≡ v.slots.cap = cap_of is_known image v s in_state ∙ sym store.cap_is in
      slots_give_objects s.space s.cap slot c id object (page (image v.pages.disk)) s.members in_state.stored.keeps.members (omega (arith, below, cap, is))
      (subst (λ (es : List (ℕ × List ℕ)). slot_at (overlay es (page (image v.pages.disk))) slot ≡ Holds c id object) none holds)

  -- and is there
  pub slot_is_kept : (s : State) (c place id slot : ℕ) → IsInState is_known image v s → c < 4 → place < length (table_at v.tables c)
      → (row_of (table_at v.tables c) place).row.id ≡ id → (row_of (table_at v.tables c) place).slot ≡ slot → v.pages.staged ≡ []
      → slot_at (page_at image v.pages) slot ≡ Holds c id (row_of (table_at v.tables c) place).row.object
  slot_is_kept s c place id slot in_state collection within key is none =
      let object = (row_of (table_at v.tables c) place).row.object in
      subst (λ n. slot_at (page_at image v.pages) n ≡ Holds c id object) is
      (subst (λ (es : List (ℕ × List ℕ)). slot_at (overlay es (page (image v.pages.disk))) (row_of (table_at v.tables c) place).slot ≡ Holds c id object) (sym none)
      (slot_holds s c place id in_state collection within key).1)

  -- ---- the store after a reading

  pub read_store : (pages : PagesView D) (e : Option First) → HasSamePool v.pages pages → v.spent ≡ None → IsReady pages
      → (IsTrue (is_known pages.disk) → has_open_gate (image pages.disk) ≡ false) → IsStore is_known image admitted dist (record v { pages = pages; spent = e })
  read_store pages e pool unspent ready closed = record {
    in_range = store.in_range;
    metric_is = store.metric_is;
    total_is = pool.same_total ∙ store.total_is;
    first_is = pool.same_first ∙ store.first_is;
    count_is = pool.same_count ∙ store.count_is;
    cap_is = store.cap_is;
    pivots_are = store.pivots_are;
    pivot_count = store.pivot_count;
    four = store.four;
    each = store.each;
    few = store.few;
    counted = λ _. store.counted unspent;
    ready = λ _. ready;
    closed = λ _. closed;
  }

  pub read_state : (pages : PagesView D) (e : Option First) (s : State) → IsInState is_known image v s → HasSamePool v.pages pages
      → is_known pages.disk ≡ is_known v.pages.disk → image pages.disk ≡ image v.pages.disk
      → IsInState is_known image (record v { pages = pages; spent = e }) s
  read_state pages e s in_state pool known same = record {
    known = subst IsTrue (sym known) in_state.known;
    stored = subst (λ i. IsStored i s) (sym same) in_state.stored;
    profile_is = subst (λ i. profile_in (page i 1) ≡ Some v.profile) (sym same) in_state.profile_is;
    pivots_are = in_state.pivots_are;
    rows_are = subst (λ i. AreTablesOf s.cap (page i) (slot_tables v.tables)) (sym same) in_state.rows_are;
    free_are = subst (λ i. AreFreeSlots s.cap (slot_at (page i)) v.slots.free) (sym same) in_state.free_are;
    pool_is = λ n. ap (is_among n) pool.same_free ∙ in_state.pool_is n ∙ sym (pool_same v.pages pages pool n);
  }

-- nothing is staged under no number
pub none_staged : (es : List (ℕ × List ℕ)) → keys_of es ≡ [] → es ≡ []
none_staged [] none = refl
none_staged (e ∷ es) none = absurd (let some : e.0 ∷ keys_of es ≡ [] = none in cc)

-- the pages that are blamed
pub blamed_slots : (most slot : ℕ) (reason : Type 0) (first : First) (e : ChangeError) → e ≡ change_error first → BlamesSlot {A = Unit {0}} (slot_page slot) reason (Err first)
    → slot < most → BlamesSlots most (Err e)
blamed_slots most slot reason first e is blames below = subst (λ why. BlamesSlots most (Err why)) (sym is) (by first blames)
  where
    by : (first : First) → BlamesSlot {A = Unit {0}} (slot_page slot) reason (Err first) → BlamesSlots most (Err (change_error first))
    by errors.DiskFault blames = tt
    by (errors.Damaged n r) blames = ((slot, below, blames.0), blames.1)
    by errors.Memory blames = tt

pub blamed_profile : (reason cause : Type 0) (first : First) (e : ChangeError) → e ≡ change_error first → BlamesSlot {A = Unit {0}} 1 reason (Err first)
    → (reason → cause) → BlamesProfile cause (Err e)
blamed_profile reason cause first e is blames so = subst (λ why. BlamesProfile cause (Err why)) (sym is) (by first blames)
  where
    by : (first : First) → BlamesSlot {A = Unit {0}} 1 reason (Err first) → BlamesProfile cause (Err (change_error first))
    by errors.DiskFault blames = tt
    by (errors.Damaged n r) blames = (blames.0, blames.1, so blames.2)
    by errors.Memory blames = tt

-- the row at a place, whose slot isn't filled
pub unfilled_row : (slots : Slots) (ts : List (List SlottedRow)) (c id place : ℕ) → place < length (table_at ts c) → (row_of (table_at ts c) place).row.id ≡ id
    → is_filled slots (row_of (table_at ts c) place).slot ≡ false → HasUnfilledRow slots ts c id
unfilled_row slots ts c id place within key unfilled = record {
  row = row_of (table_at ts c) place;
  has = (place, within, get_or_default (table_at ts c) place (row_of (table_at ts c) place) no_row within);
  is_key = key;
  unfilled = unfilled;
}
