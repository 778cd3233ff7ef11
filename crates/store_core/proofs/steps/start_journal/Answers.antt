use Rattle.std.proofs.Common.{◌≡◌, ◌∙◌, ◌*◌, IsTrue, sym, subst, length}
use Rattle.redo_journal.specs.Journal.{disk_of, total_of}
use Rattle.std.specs.Prelude.{Ok}
use Rattle.store_core.specs.Opening.{RecoversChange}
use Rattle.store_core.proofs.Starting.{content_starts}
use Rattle.store_core.proofs.Crashes.{recovery_leaves, leaves_before}
use Rattle.store_core.proofs.steps.start_journal.Goals as goal

pub returns-in_err-recover_change-clause-any_start : goal.returns-in_err-recover_change-clause-any_start
returns-in_err-recover_change-clause-any_start g c = λ tells crashes s stands.
    let K = g.D.Disk in
    let old = disk_of c.args.journal.now in
    let size : length (K.image old) ≡ 512 * total_of c.args.journal.now = sym (g.met.D.Disk.length_is old tells) ∙ c.requires.pages.size in
    recovery_leaves K.image K.crash_states K.moment K.crash_states_since (total_of c.args.journal.now) s old (disk_of c.recover_change.new.journal) size stands
    (c.recover_change.ensures.any_start tells crashes)

pub returns-clause-starts : goal.returns-clause-starts
returns-clause-starts g c = λ tells paged marked.
    let K = g.D.Disk in
    let tells_mid : IsTrue (K.is_known (disk_of c.recover_change.new.journal)) = subst IsTrue (sym c.recover_change.ensures.told.0) tells in
    content_starts c.args.total (K.image (disk_of c.args.journal.now)) (K.image (disk_of c.recover_change.new.journal)) (K.image (disk_of c.read_content.new.journal))
    c.read_content.result paged marked
    (subst (λ t. RecoversChange t (Ok tt) (K.image (disk_of c.args.journal.now)) (K.image (disk_of c.recover_change.new.journal))) c.requires.total
    (c.in_ok-recover_change.ensures.recovers tells))
    (c.read_content.ensures.image tells_mid) (c.read_content.ensures.exact tells_mid)

pub returns-clause-any_start : goal.returns-clause-any_start
returns-clause-any_start g c = λ tells crashes s stands.
    let K = g.D.Disk in
    let old = disk_of c.args.journal.now in
    let size : length (K.image old) ≡ 512 * total_of c.args.journal.now = sym (g.met.D.Disk.length_is old tells) ∙ c.requires.pages.size in
    leaves_before K.image K.crash_states K.moment K.crash_states_since K.is_known K.knows_crashes K.size_of s old (disk_of c.recover_change.new.journal)
    (disk_of c.read_content.new.journal) (g.met.D.Disk.counts_now (disk_of c.recover_change.new.journal))
    (recovery_leaves K.image K.crash_states K.moment K.crash_states_since (total_of c.args.journal.now) s old (disk_of c.recover_change.new.journal) size stands
    (c.recover_change.ensures.any_start tells crashes))
    (g.met.D.Disk.quiet_is (disk_of c.recover_change.new.journal) (disk_of c.read_content.new.journal) c.read_content.ensures.quiet)
