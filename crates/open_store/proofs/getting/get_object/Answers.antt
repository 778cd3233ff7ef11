use Rattle.std.proofs.Common.{◌<◌, ℕ, IsTrue, Ok, Err, sym, ap, subst, ◌∙◌}
use Rattle.std.specs.Map.{keys_of}
use Rattle.redo_journal.specs.Redo.{has_open_gate}
use Rattle.open_store.specs.declared.errors.ChangeError.TheVariants as change
use Rattle.open_store.specs.SlotChange.{HasSamePool}
use Rattle.open_store.specs.Store.{StoreView, opened_store, tables_of, table_at, row_in}
use Rattle.open_store.proofs.Addition.{row_is_there, row_is_absent, in_lists}
use Rattle.open_store.proofs.Removal.{row_of, found_row, replies_key, failed_key, failed_sound, blamed_slots, row_is_below, row_is_admitted, gives_member, slot_is_kept, read_store, read_state, none_staged}
use Rattle.open_store.proofs.getting.get_object.Goals as goal

pub returns-in_default-find-clause-answers : goal.returns-in_default-find-clause-answers
returns-in_default-find-clause-answers g c =
    row_is_absent c.args.lists.now c.args.head.collection c.args.head.id c.in_default-find.field-0 c.index-lists-head.result
    (in_lists c.args.lists.now c.args.head.collection c.requires.sound.four c.requires.collection) c.in_default-find.ensures.sound c.in_default-find.ensures.place

pub returns-in_default-find-clause-replies : goal.returns-in_default-find-clause-replies
returns-in_default-find-clause-replies g c =
    let v : StoreView g.row.D.Denot g.row.M.Denot = opened_store c.args.pages.now c.args.objects.now c.args.lists.now c.args.setup.now c.args.spent.now in
    replies_key g.D.Disk.is_known g.D.Disk.image g.M.Metric.admitted g.M.Metric.dist v c.requires.sound c.args.head.collection c.args.head.id (Err change.Absent)
    (row_is_absent c.args.lists.now c.args.head.collection c.args.head.id c.in_default-find.field-0 c.index-lists-head.result
    (in_lists c.args.lists.now c.args.head.collection c.requires.sound.four c.requires.collection) c.in_default-find.ensures.sound c.in_default-find.ensures.place)

pub read_object-requires-clause-slot : goal.read_object-requires-clause-slot
read_object-requires-clause-slot g c =
    let v : StoreView g.row.D.Denot g.row.M.Denot = opened_store c.args.pages.now c.args.objects.now c.args.lists.now c.args.setup.now c.args.spent.now in
    let found = found_row c.args.lists.now c.args.head.collection c.args.head.id c.in-Found.place c.index-lists-head.result
    (in_lists c.args.lists.now c.args.head.collection c.requires.sound.four c.requires.collection) c.in-Found.ensures.sound c.in-Found.ensures.place in
    let slot_is = found.1 ∙ sym c.slot-slot.ensures in
    subst (λ (n : ℕ). n < c.args.objects.now.cap) slot_is
    (row_is_below g.D.Disk.is_known g.D.Disk.image g.M.Metric.admitted g.M.Metric.dist v c.requires.sound c.args.head.collection c.in-Found.place c.requires.collection found.0)

pub returns-in-Ok-clause-sound : goal.returns-in-Ok-clause-sound
returns-in-Ok-clause-sound g c =
    let v : StoreView g.row.D.Denot g.row.M.Denot = opened_store c.args.pages.now c.args.objects.now c.args.lists.now c.args.setup.now c.args.spent.now in
    let calm = c.read_object.ensures.calm in
    let pool : HasSamePool c.args.pages.now c.read_object.new.pages = record {
      same_name = calm.same_name;
      same_total = calm.same_total;
      same_first = calm.same_first;
      same_count = calm.same_count;
      same_free = c.read_object.ensures.free;
    } in
    let K = g.D.Disk in
    let ready = c.requires.sound.ready c.in_default.is in
    let quiet = g.met.D.Disk.quiet_is c.args.pages.now.disk c.read_object.new.pages.disk calm.is_quiet in
    read_store g.D.Disk.is_known g.D.Disk.image g.M.Metric.admitted g.M.Metric.dist v c.requires.sound c.read_object.new.pages c.args.spent.now pool c.in_default.is
    (record {
      shut = c.read_object.ensures.open ∙ ready.shut;
      sound = calm.same_failed ∙ ready.sound;
      none = none_staged c.read_object.new.pages.staged (c.read_object.ensures.put ∙ ap keys_of ready.none);
    })
    (λ known. let then = subst IsTrue calm.same_known known in
    ap has_open_gate (quiet.image_is then) ∙ c.requires.sound.closed c.in_default.is then)

pub returns-in-Ok-clause-answers : goal.returns-in-Ok-clause-answers
returns-in-Ok-clause-answers g c =
    row_is_there c.args.lists.now c.args.head.collection c.args.head.id c.in-Found.place c.index-lists-head.result
    (in_lists c.args.lists.now c.args.head.collection c.requires.sound.four c.requires.collection) c.in-Found.ensures.sound c.in-Found.ensures.place

pub returns-in-Ok-clause-replies : goal.returns-in-Ok-clause-replies
returns-in-Ok-clause-replies g c =
    let v : StoreView g.row.D.Denot g.row.M.Denot = opened_store c.args.pages.now c.args.objects.now c.args.lists.now c.args.setup.now c.args.spent.now in
    replies_key g.D.Disk.is_known g.D.Disk.image g.M.Metric.admitted g.M.Metric.dist v c.requires.sound c.args.head.collection c.args.head.id (Ok tt)
    (row_is_there c.args.lists.now c.args.head.collection c.args.head.id c.in-Found.place c.index-lists-head.result
    (in_lists c.args.lists.now c.args.head.collection c.requires.sound.four c.requires.collection) c.in-Found.ensures.sound c.in-Found.ensures.place)

pub returns-in-Ok-clause-gives : goal.returns-in-Ok-clause-gives
returns-in-Ok-clause-gives g c = λ s in_state.
    let v : StoreView g.row.D.Denot g.row.M.Denot = opened_store c.args.pages.now c.args.objects.now c.args.lists.now c.args.setup.now c.args.spent.now in
    let found = found_row c.args.lists.now c.args.head.collection c.args.head.id c.in-Found.place c.index-lists-head.result
    (in_lists c.args.lists.now c.args.head.collection c.requires.sound.four c.requires.collection) c.in-Found.ensures.sound c.in-Found.ensures.place in
    let slot_is = found.1 ∙ sym c.slot-slot.ensures in
    let ready = c.requires.sound.ready c.in_default.is in
    gives_member g.D.Disk.is_known g.D.Disk.image g.M.Metric.admitted g.M.Metric.dist v c.requires.sound s c.args.head.collection c.in-Found.place c.args.head.id c.slot-slot.result c.read_object.new.object in_state c.requires.collection
    found.0 slot_is ready.none (c.in-Ok.ensures.gives in_state.known)

pub returns-in-Ok-clause-step : goal.returns-in-Ok-clause-step
returns-in-Ok-clause-step g c = λ s in_state.
    let v : StoreView g.row.D.Denot g.row.M.Denot = opened_store c.args.pages.now c.args.objects.now c.args.lists.now c.args.setup.now c.args.spent.now in
    let calm = c.read_object.ensures.calm in
    let pool : HasSamePool c.args.pages.now c.read_object.new.pages = record {
      same_name = calm.same_name;
      same_total = calm.same_total;
      same_first = calm.same_first;
      same_count = calm.same_count;
      same_free = c.read_object.ensures.free;
    } in
    let quiet = g.met.D.Disk.quiet_is c.args.pages.now.disk c.read_object.new.pages.disk calm.is_quiet in
    read_state g.D.Disk.is_known g.D.Disk.image g.M.Metric.admitted g.M.Metric.dist v c.requires.sound c.read_object.new.pages c.args.spent.now s in_state pool calm.same_known (quiet.image_is in_state.known)

pub returns-in-Err-clause-answers : goal.returns-in-Err-clause-answers
returns-in-Err-clause-answers g c =
    failed_key (row_in (tables_of c.args.lists.now) c.args.head.collection c.args.head.id) c.in-Err.first c.spend.result c.spend.ensures.error
    (row_is_there c.args.lists.now c.args.head.collection c.args.head.id c.in-Found.place c.index-lists-head.result
    (in_lists c.args.lists.now c.args.head.collection c.requires.sound.four c.requires.collection) c.in-Found.ensures.sound c.in-Found.ensures.place)

pub returns-in-Err-clause-replies : goal.returns-in-Err-clause-replies
returns-in-Err-clause-replies g c =
    let v : StoreView g.row.D.Denot g.row.M.Denot = opened_store c.args.pages.now c.args.objects.now c.args.lists.now c.args.setup.now c.args.spent.now in
    replies_key g.D.Disk.is_known g.D.Disk.image g.M.Metric.admitted g.M.Metric.dist v c.requires.sound c.args.head.collection c.args.head.id (Err c.spend.result)
    (failed_key (row_in (tables_of c.args.lists.now) c.args.head.collection c.args.head.id) c.in-Err.first c.spend.result c.spend.ensures.error
    (row_is_there c.args.lists.now c.args.head.collection c.args.head.id c.in-Found.place c.index-lists-head.result
    (in_lists c.args.lists.now c.args.head.collection c.requires.sound.four c.requires.collection) c.in-Found.ensures.sound c.in-Found.ensures.place))

pub returns-in-Err-clause-undamaged : goal.returns-in-Err-clause-undamaged
returns-in-Err-clause-undamaged g c = λ s in_state.
    let v : StoreView g.row.D.Denot g.row.M.Denot = opened_store c.args.pages.now c.args.objects.now c.args.lists.now c.args.setup.now c.args.spent.now in
    let found = found_row c.args.lists.now c.args.head.collection c.args.head.id c.in-Found.place c.index-lists-head.result
    (in_lists c.args.lists.now c.args.head.collection c.requires.sound.four c.requires.collection) c.in-Found.ensures.sound c.in-Found.ensures.place in
    let slot_is = found.1 ∙ sym c.slot-slot.ensures in
    let ready = c.requires.sound.ready c.in_default.is in
    failed_sound c.in-Err.first c.spend.result c.spend.ensures.error
    (c.in-Err.ensures.undamaged in_state.known (row_of (table_at (tables_of c.args.lists.now) c.args.head.collection) c.in-Found.place).row.object
    (slot_is_kept g.D.Disk.is_known g.D.Disk.image g.M.Metric.admitted g.M.Metric.dist v c.requires.sound s c.args.head.collection c.in-Found.place c.args.head.id c.slot-slot.result in_state c.requires.collection found.0 found.2 slot_is ready.none)
    (row_is_admitted g.D.Disk.is_known g.D.Disk.image g.M.Metric.admitted g.M.Metric.dist v c.requires.sound c.args.head.collection c.in-Found.place c.requires.collection found.0))

pub returns-in-Err-clause-blames : goal.returns-in-Err-clause-blames
returns-in-Err-clause-blames g c =
    let v : StoreView g.row.D.Denot g.row.M.Denot = opened_store c.args.pages.now c.args.objects.now c.args.lists.now c.args.setup.now c.args.spent.now in
    let found = found_row c.args.lists.now c.args.head.collection c.args.head.id c.in-Found.place c.index-lists-head.result
    (in_lists c.args.lists.now c.args.head.collection c.requires.sound.four c.requires.collection) c.in-Found.ensures.sound c.in-Found.ensures.place in
    let slot_is = found.1 ∙ sym c.slot-slot.ensures in
    blamed_slots c.args.objects.now.cap c.slot-slot.result _ c.in-Err.first c.spend.result c.spend.ensures.error c.in-Err.ensures.blames
    (subst (λ (n : ℕ). n < c.args.objects.now.cap) slot_is
    (row_is_below g.D.Disk.is_known g.D.Disk.image g.M.Metric.admitted g.M.Metric.dist v c.requires.sound c.args.head.collection c.in-Found.place c.requires.collection found.0))
