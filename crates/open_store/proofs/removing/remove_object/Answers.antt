use Rattle.std.proofs.Common.{◌≡◌, ℕ, IsTrue, ◌∷◌, Option, Ok, Err, sym, ap, subst, ◌∙◌}
use Rattle.std.specs.Prelude.{slice_set, slice_index, slice_index_or}
use Rattle.std.specs.List.Sorted.{IsPermutation}
use Rattle.std.proofs.lemmas.Bool.{false≢true}
use Rattle.std.proofs.lemmas.List.{get_or_default}
use Rattle.spb_edge.specs.Crash.{CrashesLeaveOnly}
use Rattle.spb_edge.specs.Moments.{weaker}
use Rattle.redo_journal.specs.Pages.{page}
use Rattle.row_list.specs.Lists.{ListedRows}
use Rattle.object_file.specs.Slots.{Free}
use Rattle.object_file.specs.ObjectFile.{is_filled}
use Rattle.store_check.specs.Stands.{store_magic}
use Rattle.open_store.specs.declared.errors.First.{First}
use Rattle.open_store.specs.declared.errors.ChangeError.TheVariants as change
use Rattle.open_store.specs.SlotChange.{HasSlotSet, IsSetOrNot}
use Rattle.open_store.specs.Store.{StoreView, IsStore, opened_store, tables_of, table_at, row_in, without_member}
use Rattle.open_store.specs.Answers.{HasUnfilledRow, StandsForEither}
use Rattle.open_store.proofs.Tables.{tables-same}
use Rattle.open_store.proofs.Addition.{row_is_there, row_is_absent, in_lists, stands_now, spent_store}
use Rattle.open_store.proofs.Removal.{row_of, found_row, list_shrinks, replies_key, failed_key, failed_sound, blameless, blamed_profile, unfilled_row, slot_is_filled, shrunk_store, left_by_removing, in_state_without}
use Rattle.open_store.proofs.removing.remove_object.Goals as goal

pub returns-in_default-find-clause-answers : goal.returns-in_default-find-clause-answers
returns-in_default-find-clause-answers g c =
    row_is_absent c.args.lists.now c.args.head.collection c.args.head.id c.in_default-find.field-0 c.index-lists-head.result
    (in_lists c.args.lists.now c.args.head.collection c.requires.sound.four c.requires.collection) c.in_default-find.ensures.sound c.in_default-find.ensures.place

pub returns-in_default-find-clause-replies : goal.returns-in_default-find-clause-replies
returns-in_default-find-clause-replies g c =
    let v : StoreView g.row.D.Denot g.row.M.Denot = opened_store c.args.pages.now c.args.objects.now c.args.lists.now c.args._setup.now c.args.spent.now in
    replies_key g.D.Disk.is_known g.D.Disk.image g.M.Metric.admitted g.M.Metric.dist v c.requires.sound c.args.head.collection c.args.head.id (Err change.Absent)
    (row_is_absent c.args.lists.now c.args.head.collection c.args.head.id c.in_default-find.field-0 c.index-lists-head.result
    (in_lists c.args.lists.now c.args.head.collection c.requires.sound.four c.requires.collection) c.in_default-find.ensures.sound c.in_default-find.ensures.place)

pub returns-in-Ok-clause-sound : goal.returns-in-Ok-clause-sound
returns-in-Ok-clause-sound g c =
    let v : StoreView g.row.D.Denot g.row.M.Denot = opened_store c.args.pages.now c.args.objects.now c.args.lists.now c.args._setup.now c.args.spent.now in
    let found = found_row c.args.lists.now c.args.head.collection c.args.head.id c.in-Found.place c.index-lists-head.result
    (in_lists c.args.lists.now c.args.head.collection c.requires.sound.four c.requires.collection) c.in-Found.ensures.sound c.in-Found.ensures.place in
    let shrinks = list_shrinks c.args.lists.now c.args.head.collection c.args.head.id c.in-Found.place
    c.remove_listed.new.list c.index-lists-head.result c.index-lists-head-2.result
    (in_lists c.args.lists.now c.args.head.collection c.requires.sound.four c.requires.collection) c.in-Found.ensures.sound c.in-Found.ensures.place
    c.in-Ok.ensures.rows c.in-Ok.ensures.slots c.in-Ok.ensures.listed in
    shrunk_store g.D.Disk.is_known g.D.Disk.image g.M.Metric.admitted g.M.Metric.dist v c.requires.sound c.remove_listed.new.pages c.remove_listed.new.objects
    (tables_of (slice_set c.args.lists.now c.args.head.collection c.remove_listed.new.list)) c.args.spent.now c.args.head.collection c.in-Found.place _
    c.remove_listed.ensures.pool c.remove_listed.ensures.cap c.in_default.is c.requires.collection found.0 c.in-Ok.ensures.freed shrinks.0 shrinks.1
    c.in-Ok.ensures.ready (λ known. c.in-Ok.ensures.closed (subst IsTrue c.remove_listed.ensures.told.0 known))

pub returns-in-Ok-clause-answers : goal.returns-in-Ok-clause-answers
returns-in-Ok-clause-answers g c =
    row_is_there c.args.lists.now c.args.head.collection c.args.head.id c.in-Found.place c.index-lists-head.result
    (in_lists c.args.lists.now c.args.head.collection c.requires.sound.four c.requires.collection) c.in-Found.ensures.sound c.in-Found.ensures.place

pub returns-in-Ok-clause-replies : goal.returns-in-Ok-clause-replies
returns-in-Ok-clause-replies g c =
    let v : StoreView g.row.D.Denot g.row.M.Denot = opened_store c.args.pages.now c.args.objects.now c.args.lists.now c.args._setup.now c.args.spent.now in
    replies_key g.D.Disk.is_known g.D.Disk.image g.M.Metric.admitted g.M.Metric.dist v c.requires.sound c.args.head.collection c.args.head.id (Ok tt)
    (row_is_there c.args.lists.now c.args.head.collection c.args.head.id c.in-Found.place c.index-lists-head.result
    (in_lists c.args.lists.now c.args.head.collection c.requires.sound.four c.requires.collection) c.in-Found.ensures.sound c.in-Found.ensures.place)

pub returns-in-Ok-clause-step : goal.returns-in-Ok-clause-step
returns-in-Ok-clause-step g c = λ s in_state.
    let v : StoreView g.row.D.Denot g.row.M.Denot = opened_store c.args.pages.now c.args.objects.now c.args.lists.now c.args._setup.now c.args.spent.now in
    let found = found_row c.args.lists.now c.args.head.collection c.args.head.id c.in-Found.place c.index-lists-head.result
    (in_lists c.args.lists.now c.args.head.collection c.requires.sound.four c.requires.collection) c.in-Found.ensures.sound c.in-Found.ensures.place in
    let slot_is : (row_of (table_at (tables_of c.args.lists.now) c.args.head.collection) c.in-Found.place).slot
    ≡ slice_index (slice_index_or c.args.lists.now c.args.head.collection c.index-lists-head-2.result).slots c.in-Found.place =
    found.1 ∙ ap (λ (l : ListedRows). slice_index l.slots c.in-Found.place)
    (get_or_default c.args.lists.now c.args.head.collection c.index-lists-head.result c.index-lists-head-2.result (in_lists c.args.lists.now c.args.head.collection c.requires.sound.four c.requires.collection)) in
    let shrinks = list_shrinks c.args.lists.now c.args.head.collection c.args.head.id c.in-Found.place
    c.remove_listed.new.list c.index-lists-head.result c.index-lists-head-2.result
    (in_lists c.args.lists.now c.args.head.collection c.requires.sound.four c.requires.collection) c.in-Found.ensures.sound c.in-Found.ensures.place
    c.in-Ok.ensures.rows c.in-Ok.ensures.slots c.in-Ok.ensures.listed in
    let K = g.D.Disk in
    let old = c.args.pages.now in
    in_state_without g.D.Disk.is_known g.D.Disk.image g.M.Metric.admitted g.M.Metric.dist v c.requires.sound c.remove_listed.new.pages c.remove_listed.new.objects
    (tables_of (slice_set c.args.lists.now c.args.head.collection c.remove_listed.new.list)) c.args.spent.now s c.args.head.collection c.in-Found.place
    c.args.head.id in_state c.requires.collection found.0 found.2 c.remove_listed.ensures.pool c.remove_listed.ensures.told.0
    (subst (λ (n : ℕ). IsPermutation c.remove_listed.new.objects.free (n ∷ c.args.objects.now.free)) (sym slot_is) c.in-Ok.ensures.freed)
    shrinks.1
    (subst (λ (n : ℕ). HasSlotSet old.total n Free store_magic (page (K.image old.disk)) (K.image c.remove_listed.new.pages.disk)) (sym slot_is)
    (c.in-Ok.ensures.sets in_state.known store_magic (stands_now g.D.Disk.is_known g.D.Disk.image g.M.Metric.admitted g.M.Metric.dist v c.requires.sound s in_state)))
    (c.in-Ok.ensures.closed in_state.known)

pub returns-in-Ok-clause-any_moment : goal.returns-in-Ok-clause-any_moment
returns-in-Ok-clause-any_moment g c = λ s in_state crashes durable.
    let v : StoreView g.row.D.Denot g.row.M.Denot = opened_store c.args.pages.now c.args.objects.now c.args.lists.now c.args._setup.now c.args.spent.now in
    let found = found_row c.args.lists.now c.args.head.collection c.args.head.id c.in-Found.place c.index-lists-head.result
    (in_lists c.args.lists.now c.args.head.collection c.requires.sound.four c.requires.collection) c.in-Found.ensures.sound c.in-Found.ensures.place in
    let slot_is : (row_of (table_at (tables_of c.args.lists.now) c.args.head.collection) c.in-Found.place).slot
    ≡ slice_index (slice_index_or c.args.lists.now c.args.head.collection c.index-lists-head-2.result).slots c.in-Found.place =
    found.1 ∙ ap (λ (l : ListedRows). slice_index l.slots c.in-Found.place)
    (get_or_default c.args.lists.now c.args.head.collection c.index-lists-head.result c.index-lists-head-2.result (in_lists c.args.lists.now c.args.head.collection c.requires.sound.four c.requires.collection)) in
    let K = g.D.Disk in
    let old = c.args.pages.now in
    let slot = (row_of (table_at (tables_of c.args.lists.now) c.args.head.collection) c.in-Found.place).slot in
    weaker K.moment K.crash_states_since old.disk c.remove_listed.new.pages.disk
    (IsSetOrNot old.total slot Free store_magic (page (K.image old.disk)))
    (StandsForEither s (without_member s c.args.head.collection c.args.head.id))
    (λ left either. left_by_removing g.D.Disk.is_known g.D.Disk.image g.M.Metric.admitted g.M.Metric.dist v c.requires.sound s c.args.head.collection c.in-Found.place c.args.head.id left in_state
    c.requires.collection found.0 found.2 either)
    (subst (λ (n : ℕ). CrashesLeaveOnly K.moment K.crash_states_since old.disk c.remove_listed.new.pages.disk
    (IsSetOrNot old.total n Free store_magic (page (K.image old.disk)))) (sym slot_is)
    (c.remove_listed.ensures.any_moment in_state.known crashes durable store_magic (stands_now g.D.Disk.is_known g.D.Disk.image g.M.Metric.admitted g.M.Metric.dist v c.requires.sound s in_state)))

pub returns-in-Err-clause-sound : goal.returns-in-Err-clause-sound
returns-in-Err-clause-sound g c =
    let v : StoreView g.row.D.Denot g.row.M.Denot = opened_store c.args.pages.now c.args.objects.now c.args.lists.now c.args._setup.now c.args.spent.now in
    subst (λ (e : Option First). IsStore g.D.Disk.is_known g.D.Disk.image g.M.Metric.admitted g.M.Metric.dist
    (record v {
      pages = c.remove_listed.new.pages;
      slots = c.remove_listed.new.objects;
      tables = tables_of (slice_set c.args.lists.now c.args.head.collection c.remove_listed.new.list);
      spent = e;
    }))
    (sym c.spend.ensures.spent)
    (spent_store g.D.Disk.is_known g.D.Disk.image g.M.Metric.admitted g.M.Metric.dist v c.requires.sound c.remove_listed.new.pages c.remove_listed.new.objects
    (tables_of (slice_set c.args.lists.now c.args.head.collection c.remove_listed.new.list)) c.in-Err.first c.remove_listed.ensures.pool c.remove_listed.ensures.cap
    (tables-same c.args.lists.now c.args.head.collection c.remove_listed.new.list c.index-lists-head-2.result
    (in_lists c.args.lists.now c.args.head.collection c.requires.sound.four c.requires.collection) c.in-Err.ensures.stays.0 c.in-Err.ensures.stays.1))

pub returns-in-Err-clause-answers : goal.returns-in-Err-clause-answers
returns-in-Err-clause-answers g c =
    failed_key (row_in (tables_of c.args.lists.now) c.args.head.collection c.args.head.id) c.in-Err.first c.spend.result c.spend.ensures.error
    (row_is_there c.args.lists.now c.args.head.collection c.args.head.id c.in-Found.place c.index-lists-head.result
    (in_lists c.args.lists.now c.args.head.collection c.requires.sound.four c.requires.collection) c.in-Found.ensures.sound c.in-Found.ensures.place)

pub returns-in-Err-clause-replies : goal.returns-in-Err-clause-replies
returns-in-Err-clause-replies g c =
    let v : StoreView g.row.D.Denot g.row.M.Denot = opened_store c.args.pages.now c.args.objects.now c.args.lists.now c.args._setup.now c.args.spent.now in
    replies_key g.D.Disk.is_known g.D.Disk.image g.M.Metric.admitted g.M.Metric.dist v c.requires.sound c.args.head.collection c.args.head.id (Err c.spend.result)
    (failed_key (row_in (tables_of c.args.lists.now) c.args.head.collection c.args.head.id) c.in-Err.first c.spend.result c.spend.ensures.error
    (row_is_there c.args.lists.now c.args.head.collection c.args.head.id c.in-Found.place c.index-lists-head.result
    (in_lists c.args.lists.now c.args.head.collection c.requires.sound.four c.requires.collection) c.in-Found.ensures.sound c.in-Found.ensures.place))

pub returns-in-Err-clause-undamaged : goal.returns-in-Err-clause-undamaged
returns-in-Err-clause-undamaged g c = λ s in_state.
    let v : StoreView g.row.D.Denot g.row.M.Denot = opened_store c.args.pages.now c.args.objects.now c.args.lists.now c.args._setup.now c.args.spent.now in
    let found = found_row c.args.lists.now c.args.head.collection c.args.head.id c.in-Found.place c.index-lists-head.result
    (in_lists c.args.lists.now c.args.head.collection c.requires.sound.four c.requires.collection) c.in-Found.ensures.sound c.in-Found.ensures.place in
    let slot_is : (row_of (table_at (tables_of c.args.lists.now) c.args.head.collection) c.in-Found.place).slot
    ≡ slice_index (slice_index_or c.args.lists.now c.args.head.collection c.index-lists-head-2.result).slots c.in-Found.place =
    found.1 ∙ ap (λ (l : ListedRows). slice_index l.slots c.in-Found.place)
    (get_or_default c.args.lists.now c.args.head.collection c.index-lists-head.result c.index-lists-head-2.result (in_lists c.args.lists.now c.args.head.collection c.requires.sound.four c.requires.collection)) in
    let filled = subst (λ (n : ℕ). IsTrue (is_filled c.args.objects.now n)) slot_is
    (slot_is_filled g.D.Disk.is_known g.D.Disk.image g.M.Metric.admitted g.M.Metric.dist v c.requires.sound s c.args.head.collection c.in-Found.place c.args.head.id in_state c.requires.collection found.0 found.2) in
    failed_sound c.in-Err.first c.spend.result c.spend.ensures.error
    (blameless 1 _ c.in-Err.first c.in-Err.ensures.blames (λ free. false≢true (sym free ∙ filled)))

pub returns-in-Err-clause-any_moment : goal.returns-in-Err-clause-any_moment
returns-in-Err-clause-any_moment g c = λ s in_state crashes durable.
    let v : StoreView g.row.D.Denot g.row.M.Denot = opened_store c.args.pages.now c.args.objects.now c.args.lists.now c.args._setup.now c.args.spent.now in
    let found = found_row c.args.lists.now c.args.head.collection c.args.head.id c.in-Found.place c.index-lists-head.result
    (in_lists c.args.lists.now c.args.head.collection c.requires.sound.four c.requires.collection) c.in-Found.ensures.sound c.in-Found.ensures.place in
    let slot_is : (row_of (table_at (tables_of c.args.lists.now) c.args.head.collection) c.in-Found.place).slot
    ≡ slice_index (slice_index_or c.args.lists.now c.args.head.collection c.index-lists-head-2.result).slots c.in-Found.place =
    found.1 ∙ ap (λ (l : ListedRows). slice_index l.slots c.in-Found.place)
    (get_or_default c.args.lists.now c.args.head.collection c.index-lists-head.result c.index-lists-head-2.result (in_lists c.args.lists.now c.args.head.collection c.requires.sound.four c.requires.collection)) in
    let K = g.D.Disk in
    let old = c.args.pages.now in
    let slot = (row_of (table_at (tables_of c.args.lists.now) c.args.head.collection) c.in-Found.place).slot in
    weaker K.moment K.crash_states_since old.disk c.remove_listed.new.pages.disk
    (IsSetOrNot old.total slot Free store_magic (page (K.image old.disk)))
    (StandsForEither s (without_member s c.args.head.collection c.args.head.id))
    (λ left either. left_by_removing g.D.Disk.is_known g.D.Disk.image g.M.Metric.admitted g.M.Metric.dist v c.requires.sound s c.args.head.collection c.in-Found.place c.args.head.id left in_state
    c.requires.collection found.0 found.2 either)
    (subst (λ (n : ℕ). CrashesLeaveOnly K.moment K.crash_states_since old.disk c.remove_listed.new.pages.disk
    (IsSetOrNot old.total n Free store_magic (page (K.image old.disk)))) (sym slot_is)
    (c.remove_listed.ensures.any_moment in_state.known crashes durable store_magic (stands_now g.D.Disk.is_known g.D.Disk.image g.M.Metric.admitted g.M.Metric.dist v c.requires.sound s in_state)))

pub returns-in-Err-clause-rows : goal.returns-in-Err-clause-rows
returns-in-Err-clause-rows g c =
    tables-same c.args.lists.now c.args.head.collection c.remove_listed.new.list c.index-lists-head-2.result
    (in_lists c.args.lists.now c.args.head.collection c.requires.sound.four c.requires.collection) c.in-Err.ensures.stays.0 c.in-Err.ensures.stays.1

pub returns-in-Err-clause-blames : goal.returns-in-Err-clause-blames
returns-in-Err-clause-blames g c =
    let found = found_row c.args.lists.now c.args.head.collection c.args.head.id c.in-Found.place c.index-lists-head.result
    (in_lists c.args.lists.now c.args.head.collection c.requires.sound.four c.requires.collection) c.in-Found.ensures.sound c.in-Found.ensures.place in
    let slot_is : (row_of (table_at (tables_of c.args.lists.now) c.args.head.collection) c.in-Found.place).slot
    ≡ slice_index (slice_index_or c.args.lists.now c.args.head.collection c.index-lists-head-2.result).slots c.in-Found.place =
    found.1 ∙ ap (λ (l : ListedRows). slice_index l.slots c.in-Found.place)
    (get_or_default c.args.lists.now c.args.head.collection c.index-lists-head.result c.index-lists-head-2.result (in_lists c.args.lists.now c.args.head.collection c.requires.sound.four c.requires.collection)) in
    blamed_profile _ (HasUnfilledRow c.args.objects.now (tables_of c.args.lists.now) c.args.head.collection c.args.head.id) c.in-Err.first c.spend.result
    c.spend.ensures.error c.in-Err.ensures.blames (λ free.
    unfilled_row c.args.objects.now (tables_of c.args.lists.now) c.args.head.collection c.args.head.id c.in-Found.place found.0 found.2
    (ap (is_filled c.args.objects.now) slot_is ∙ free))
