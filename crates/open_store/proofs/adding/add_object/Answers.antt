use Rattle.std.proofs.Common.{IsTrue, Option, Ok, Err, sym, subst, ◌∙◌, arith}
use Rattle.std.specs.Prelude.{slice_set}
use Rattle.spb_edge.specs.Moments.{weaker}
use Rattle.redo_journal.specs.Pages.{page}
use Rattle.object_file.specs.Slots.{Holds}
use Rattle.store_check.specs.Stands.{store_magic}
use Rattle.open_store.specs.declared.errors.First.{First}
use Rattle.open_store.specs.declared.errors.ChangeError.TheVariants as change
use Rattle.open_store.specs.SlotChange.{IsFilledOrNot}
use Rattle.open_store.specs.Store.{StoreView, IsStore, opened_store, tables_of, row_in, is_full_store, row_count, measured_row, with_member}
use Rattle.open_store.specs.Answers.{StandsForEither}
use Rattle.open_store.proofs.Tables.{tables-same}
use Rattle.open_store.proofs.Addition.{row_is_there, row_is_absent, failed_answers, full_without_free, room_with_free, in_lists, list_grows, object_fits, stands_now, replies_add, spent_store, grown_store, left_by_adding, in_state_with}
use Rattle.open_store.proofs.adding.add_object.Goals as goal

pub returns-in_default-find-clause-answers : goal.returns-in_default-find-clause-answers
returns-in_default-find-clause-answers g c =
    row_is_there c.args.lists.now c.args.head.collection c.args.head.id c.in_default-find.field-0 c.index-lists-head.result
    (in_lists c.args.lists.now c.args.head.collection c.requires.sound.four c.requires.collection) c.in_default-find.ensures.sound c.in_default-find.ensures.place

pub returns-in_default-find-clause-replies : goal.returns-in_default-find-clause-replies
returns-in_default-find-clause-replies g c =
    let v : StoreView g.row.D.Denot g.row.M.Denot = opened_store c.args.pages.now c.args.objects.now c.args.lists.now c.args.setup.now c.args.spent.now in
    replies_add g.D.Disk.is_known g.D.Disk.image g.M.Metric.admitted g.M.Metric.dist v c.requires.sound c.args.head.collection c.args.head.id (Err change.Exists)
    c.in_default.is
    (row_is_there c.args.lists.now c.args.head.collection c.args.head.id c.in_default-find.field-0 c.index-lists-head.result
    (in_lists c.args.lists.now c.args.head.collection c.requires.sound.four c.requires.collection) c.in_default-find.ensures.sound c.in_default-find.ensures.place)

pub returns-then-has_no_room-clause-answers : goal.returns-then-has_no_room-clause-answers
returns-then-has_no_room-clause-answers g c = (
  row_is_absent c.args.lists.now c.args.head.collection c.args.head.id c.in-Absent.place c.index-lists-head.result
      (in_lists c.args.lists.now c.args.head.collection c.requires.sound.four c.requires.collection) c.in-Absent.ensures.sound c.in-Absent.ensures.place,
  full_without_free (row_count (tables_of c.args.lists.now)) _ c.args.setup.now.profile.cap (c.requires.sound.counted c.in_default.is)
      (sym c.has_no_room.ensures ∙ c.if-has_no_room.true),
)

pub returns-then-has_no_room-clause-replies : goal.returns-then-has_no_room-clause-replies
returns-then-has_no_room-clause-replies g c =
    let v : StoreView g.row.D.Denot g.row.M.Denot = opened_store c.args.pages.now c.args.objects.now c.args.lists.now c.args.setup.now c.args.spent.now in
    replies_add g.D.Disk.is_known g.D.Disk.image g.M.Metric.admitted g.M.Metric.dist v c.requires.sound c.args.head.collection c.args.head.id (Err change.Full)
    c.in_default.is (
      row_is_absent c.args.lists.now c.args.head.collection c.args.head.id c.in-Absent.place c.index-lists-head.result
          (in_lists c.args.lists.now c.args.head.collection c.requires.sound.four c.requires.collection) c.in-Absent.ensures.sound c.in-Absent.ensures.place,
      full_without_free (row_count (tables_of c.args.lists.now)) _ c.args.setup.now.profile.cap (c.requires.sound.counted c.in_default.is)
          (sym c.has_no_room.ensures ∙ c.if-has_no_room.true),
    )

pub insert_object-requires-clause-short : goal.insert_object-requires-clause-short
insert_object-requires-clause-short g c =
    let v : StoreView g.row.D.Denot g.row.M.Denot = opened_store c.args.pages.now c.args.objects.now c.args.lists.now c.args.setup.now c.args.spent.now in
    object_fits g.D.Disk.is_known g.D.Disk.image g.M.Metric.admitted g.M.Metric.dist v c.requires.sound c.args.object.now c.requires.object

pub returns-in-Ok-clause-sound : goal.returns-in-Ok-clause-sound
returns-in-Ok-clause-sound g c =
    let v : StoreView g.row.D.Denot g.row.M.Denot = opened_store c.args.pages.now c.args.objects.now c.args.lists.now c.args.setup.now c.args.spent.now in
    let grows = list_grows c.args.lists.now c.args.head.collection c.args.head.id c.in-Absent.place c.in-Ok._slot (measured_row (g.M.Metric.dist c.args.setup.now.metric) c.args.setup.now.pivots.items c.args.head.id c.args.object.now)
    c.insert_object.new.list c.index-lists-head.result c.index-lists-head-2.result
    (in_lists c.args.lists.now c.args.head.collection c.requires.sound.four c.requires.collection) c.in-Absent.ensures.sound c.in-Absent.ensures.place
    c.in-Ok.ensures.rows c.in-Ok.ensures.slots c.in-Ok.ensures.listed in
    grown_store g.D.Disk.is_known g.D.Disk.image g.M.Metric.admitted g.M.Metric.dist v c.requires.sound c.insert_object.new.pages c.insert_object.new.objects
    (tables_of (slice_set c.args.lists.now c.args.head.collection c.insert_object.new.list)) c.args.spent.now c.args.head.collection c.in-Absent.place
    c.in-Ok._slot c.args.head.id c.args.object.now c.insert_object.ensures.pool c.insert_object.ensures.cap c.in_default.is c.requires.collection
    c.in-Ok.ensures.taken.0 c.in-Ok.ensures.taken.1 c.requires.object grows.0 grows.1 grows.2 c.in-Ok.ensures.ready
    (λ known. c.in-Ok.ensures.closed (subst IsTrue c.insert_object.ensures.told.0 known))

pub returns-in-Ok-clause-answers : goal.returns-in-Ok-clause-answers
returns-in-Ok-clause-answers g c = (
  (row_is_absent c.args.lists.now c.args.head.collection c.args.head.id c.in-Absent.place c.index-lists-head.result
      (in_lists c.args.lists.now c.args.head.collection c.requires.sound.four c.requires.collection) c.in-Absent.ensures.sound c.in-Absent.ensures.place),
  (room_with_free (row_count (tables_of c.args.lists.now)) _ c.args.setup.now.profile.cap (c.requires.sound.counted c.in_default.is)
      (sym c.has_no_room.ensures ∙ c.if-has_no_room.false)),
)

pub returns-in-Ok-clause-replies : goal.returns-in-Ok-clause-replies
returns-in-Ok-clause-replies g c =
    let v : StoreView g.row.D.Denot g.row.M.Denot = opened_store c.args.pages.now c.args.objects.now c.args.lists.now c.args.setup.now c.args.spent.now in
    replies_add g.D.Disk.is_known g.D.Disk.image g.M.Metric.admitted g.M.Metric.dist v c.requires.sound c.args.head.collection c.args.head.id (Ok tt) c.in_default.is (
      (row_is_absent c.args.lists.now c.args.head.collection c.args.head.id c.in-Absent.place c.index-lists-head.result
          (in_lists c.args.lists.now c.args.head.collection c.requires.sound.four c.requires.collection) c.in-Absent.ensures.sound c.in-Absent.ensures.place),
      (room_with_free (row_count (tables_of c.args.lists.now)) _ c.args.setup.now.profile.cap (c.requires.sound.counted c.in_default.is)
          (sym c.has_no_room.ensures ∙ c.if-has_no_room.false)),
    )

pub returns-in-Ok-clause-step : goal.returns-in-Ok-clause-step
returns-in-Ok-clause-step g c = λ s in_state.
    let v : StoreView g.row.D.Denot g.row.M.Denot = opened_store c.args.pages.now c.args.objects.now c.args.lists.now c.args.setup.now c.args.spent.now in
    let grows = list_grows c.args.lists.now c.args.head.collection c.args.head.id c.in-Absent.place c.in-Ok._slot (measured_row (g.M.Metric.dist c.args.setup.now.metric) c.args.setup.now.pivots.items c.args.head.id c.args.object.now)
    c.insert_object.new.list c.index-lists-head.result c.index-lists-head-2.result
    (in_lists c.args.lists.now c.args.head.collection c.requires.sound.four c.requires.collection) c.in-Absent.ensures.sound c.in-Absent.ensures.place
    c.in-Ok.ensures.rows c.in-Ok.ensures.slots c.in-Ok.ensures.listed in
    in_state_with g.D.Disk.is_known g.D.Disk.image g.M.Metric.admitted g.M.Metric.dist v c.requires.sound c.insert_object.new.pages c.insert_object.new.objects
    (tables_of (slice_set c.args.lists.now c.args.head.collection c.insert_object.new.list)) c.args.spent.now s c.args.head.collection c.in-Absent.place
    c.in-Ok._slot c.args.head.id c.args.object.now in_state c.requires.collection c.requires.small c.requires.object
    (row_is_absent c.args.lists.now c.args.head.collection c.args.head.id c.in-Absent.place c.index-lists-head.result
    (in_lists c.args.lists.now c.args.head.collection c.requires.sound.four c.requires.collection) c.in-Absent.ensures.sound c.in-Absent.ensures.place)
    c.insert_object.ensures.pool c.insert_object.ensures.told.0 c.in-Ok.ensures.taken.1 grows.2
    (c.in-Ok.ensures.sets in_state.known store_magic (stands_now g.D.Disk.is_known g.D.Disk.image g.M.Metric.admitted g.M.Metric.dist v c.requires.sound s in_state)) (c.in-Ok.ensures.closed in_state.known)

pub returns-in-Ok-clause-any_moment : goal.returns-in-Ok-clause-any_moment
returns-in-Ok-clause-any_moment g c = λ s in_state crashes durable.
    let v : StoreView g.row.D.Denot g.row.M.Denot = opened_store c.args.pages.now c.args.objects.now c.args.lists.now c.args.setup.now c.args.spent.now in
    let K = g.D.Disk in
    weaker K.moment K.crash_states_since c.args.pages.now.disk c.insert_object.new.pages.disk
    (IsFilledOrNot c.args.pages.now.total c.args.objects.now.free (Holds c.args.head.collection c.args.head.id c.args.object.now) store_magic (page (K.image c.args.pages.now.disk)))
    (StandsForEither s (with_member s c.args.head.collection c.args.head.id c.args.object.now))
    (λ left either. left_by_adding g.D.Disk.is_known g.D.Disk.image g.M.Metric.admitted g.M.Metric.dist v c.requires.sound s c.args.head.collection c.args.head.id c.args.object.now left in_state c.in_default.is
    (row_is_absent c.args.lists.now c.args.head.collection c.args.head.id c.in-Absent.place c.index-lists-head.result
    (in_lists c.args.lists.now c.args.head.collection c.requires.sound.four c.requires.collection) c.in-Absent.ensures.sound c.in-Absent.ensures.place) c.requires.small c.requires.object either)
    (c.insert_object.ensures.any_moment in_state.known crashes durable store_magic (stands_now g.D.Disk.is_known g.D.Disk.image g.M.Metric.admitted g.M.Metric.dist v c.requires.sound s in_state))

pub returns-in-Err-clause-sound : goal.returns-in-Err-clause-sound
returns-in-Err-clause-sound g c =
    let v : StoreView g.row.D.Denot g.row.M.Denot = opened_store c.args.pages.now c.args.objects.now c.args.lists.now c.args.setup.now c.args.spent.now in
    subst (λ (e : Option First). IsStore g.D.Disk.is_known g.D.Disk.image g.M.Metric.admitted g.M.Metric.dist
    (record v {
      pages = c.insert_object.new.pages;
      slots = c.insert_object.new.objects;
      tables = tables_of (slice_set c.args.lists.now c.args.head.collection c.insert_object.new.list);
      spent = e;
    }))
    (sym c.spend.ensures.spent)
    (spent_store g.D.Disk.is_known g.D.Disk.image g.M.Metric.admitted g.M.Metric.dist v c.requires.sound c.insert_object.new.pages c.insert_object.new.objects
    (tables_of (slice_set c.args.lists.now c.args.head.collection c.insert_object.new.list)) c.in-Err.first c.insert_object.ensures.pool c.insert_object.ensures.cap
    (tables-same c.args.lists.now c.args.head.collection c.insert_object.new.list c.index-lists-head-2.result
    (in_lists c.args.lists.now c.args.head.collection c.requires.sound.four c.requires.collection) c.in-Err.ensures.stays.0 c.in-Err.ensures.stays.1))

pub returns-in-Err-clause-answers : goal.returns-in-Err-clause-answers
returns-in-Err-clause-answers g c =
    let v : StoreView g.row.D.Denot g.row.M.Denot = opened_store c.args.pages.now c.args.objects.now c.args.lists.now c.args.setup.now c.args.spent.now in
    failed_answers (row_in (tables_of c.args.lists.now) c.args.head.collection c.args.head.id) (is_full_store v) c.in-Err.first c.spend.result c.spend.ensures.error
    c.in-Err.ensures.undamaged
    (row_is_absent c.args.lists.now c.args.head.collection c.args.head.id c.in-Absent.place c.index-lists-head.result
    (in_lists c.args.lists.now c.args.head.collection c.requires.sound.four c.requires.collection) c.in-Absent.ensures.sound c.in-Absent.ensures.place)
    (room_with_free (row_count (tables_of c.args.lists.now)) _ c.args.setup.now.profile.cap (c.requires.sound.counted c.in_default.is)
    (sym c.has_no_room.ensures ∙ c.if-has_no_room.false))

pub returns-in-Err-clause-replies : goal.returns-in-Err-clause-replies
returns-in-Err-clause-replies g c =
    let v : StoreView g.row.D.Denot g.row.M.Denot = opened_store c.args.pages.now c.args.objects.now c.args.lists.now c.args.setup.now c.args.spent.now in
    replies_add g.D.Disk.is_known g.D.Disk.image g.M.Metric.admitted g.M.Metric.dist v c.requires.sound c.args.head.collection c.args.head.id (Err c.spend.result) c.in_default.is
    (failed_answers (row_in (tables_of c.args.lists.now) c.args.head.collection c.args.head.id) (is_full_store v) c.in-Err.first c.spend.result c.spend.ensures.error
    c.in-Err.ensures.undamaged
    (row_is_absent c.args.lists.now c.args.head.collection c.args.head.id c.in-Absent.place c.index-lists-head.result
    (in_lists c.args.lists.now c.args.head.collection c.requires.sound.four c.requires.collection) c.in-Absent.ensures.sound c.in-Absent.ensures.place)
    (room_with_free (row_count (tables_of c.args.lists.now)) _ c.args.setup.now.profile.cap (c.requires.sound.counted c.in_default.is)
    (sym c.has_no_room.ensures ∙ c.if-has_no_room.false)))

pub returns-in-Err-clause-any_moment : goal.returns-in-Err-clause-any_moment
returns-in-Err-clause-any_moment g c = λ s in_state crashes durable.
    let v : StoreView g.row.D.Denot g.row.M.Denot = opened_store c.args.pages.now c.args.objects.now c.args.lists.now c.args.setup.now c.args.spent.now in
    let K = g.D.Disk in
    weaker K.moment K.crash_states_since c.args.pages.now.disk c.insert_object.new.pages.disk
    (IsFilledOrNot c.args.pages.now.total c.args.objects.now.free (Holds c.args.head.collection c.args.head.id c.args.object.now) store_magic (page (K.image c.args.pages.now.disk)))
    (StandsForEither s (with_member s c.args.head.collection c.args.head.id c.args.object.now))
    (λ left either. left_by_adding g.D.Disk.is_known g.D.Disk.image g.M.Metric.admitted g.M.Metric.dist v c.requires.sound s c.args.head.collection c.args.head.id c.args.object.now left in_state c.in_default.is
    (row_is_absent c.args.lists.now c.args.head.collection c.args.head.id c.in-Absent.place c.index-lists-head.result
    (in_lists c.args.lists.now c.args.head.collection c.requires.sound.four c.requires.collection) c.in-Absent.ensures.sound c.in-Absent.ensures.place) c.requires.small c.requires.object either)
    (c.insert_object.ensures.any_moment in_state.known crashes durable store_magic (stands_now g.D.Disk.is_known g.D.Disk.image g.M.Metric.admitted g.M.Metric.dist v c.requires.sound s in_state))
