use Rattle.std.proofs.Common.{refl}
use Rattle.redo_journal.specs.Journal.{disk_of}
use Rattle.store_core.proofs.Crashes.{opening_leaves, leaves_durably}
use Rattle.store_core.proofs.opening.Opening.start_or_back.Goals as goal

pub returns-in-Ok-start_journal-clause-any_start : goal.returns-in-Ok-start_journal-clause-any_start
returns-in-Ok-start_journal-clause-any_start g c =
    let K = g.D.Disk in
    opening_leaves K.image K.crash_states K.moment K.crash_states_since K.is_known K.knows_crashes K.size_of c.args.disk.now c.count_pages.new.disk
    (disk_of c.in-Ok-new_or_back.journal) (disk_of c.start_journal.new.journal) (disk_of c.start_journal.new.journal)
    (g.met.D.Disk.only_now c.args.disk.now) (g.met.D.Disk.quiet_is c.args.disk.now c.count_pages.new.disk c.count_pages.ensures.quiet)
    c.in-Ok-new_or_back.ensures.at refl c.start_journal.ensures.any_start

pub returns-in-Ok-start_journal-clause-any_moment : goal.returns-in-Ok-start_journal-clause-any_moment
returns-in-Ok-start_journal-clause-any_moment g c = λ tells crashes durable s stands.
    let K = g.D.Disk in
    leaves_durably K.image K.crash_states K.moment K.crash_states_since s c.args.disk.now (disk_of c.start_journal.new.journal) durable stands
    (returns-in-Ok-start_journal-clause-any_start g c tells crashes s stands)

pub returns-in-Err-start_journal-clause-any_start : goal.returns-in-Err-start_journal-clause-any_start
returns-in-Err-start_journal-clause-any_start g c =
    let K = g.D.Disk in
    opening_leaves K.image K.crash_states K.moment K.crash_states_since K.is_known K.knows_crashes K.size_of c.args.disk.now c.count_pages.new.disk
    (disk_of c.in-Ok-new_or_back.journal) (disk_of c.start_journal.new.journal) c.into_inner.result.now
    (g.met.D.Disk.only_now c.args.disk.now) (g.met.D.Disk.quiet_is c.args.disk.now c.count_pages.new.disk c.count_pages.ensures.quiet)
    c.in-Ok-new_or_back.ensures.at c.into_inner.ensures.disk c.start_journal.ensures.any_start

pub returns-in-Err-start_journal-clause-any_moment : goal.returns-in-Err-start_journal-clause-any_moment
returns-in-Err-start_journal-clause-any_moment g c = λ tells crashes durable s stands.
    let K = g.D.Disk in
    leaves_durably K.image K.crash_states K.moment K.crash_states_since s c.args.disk.now c.into_inner.result.now durable stands
    (returns-in-Err-start_journal-clause-any_start g c tells crashes s stands)
