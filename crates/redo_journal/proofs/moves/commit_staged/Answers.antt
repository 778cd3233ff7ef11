use Rattle.std.proofs.Common.{◌≡◌, ◌+◌, ◌*◌, ◌<◌, ◌≤◌, ℕ, IsTrue, length, subst, sym, ◌∙◌, ap, arith}
use Rattle.std.proofs.lemmas.Result.{on_ok_weaker}
use Rattle.spb_edge.specs.Crash.{IsTornWrite, CrashesLeaveOnly}
use Rattle.std.specs.Map.{keys_of}
use Rattle.redo_journal.specs.Header.{header_page}
use Rattle.redo_journal.proofs.Runs.{HasBody, has_body, committed_so_far, committed, commits}
use Rattle.redo_journal.proofs.Torn.{journal_torn, gate_only}
use Rattle.redo_journal.proofs.moves.commit_staged.Goals as goal

pub returns-in_err-write_and_keep-clause-any_moment : goal.returns-in_err-write_and_keep-clause-any_moment
returns-in_err-write_and_keep-clause-any_moment g c = λ tells crashes only marks home stands closed.
    let pages = c.args.staged.now.pages in
    let few : length pages ≤ 80 = subst (λ l. length l ≤ 80) c.seal.ensures.same c.body.ensures.sound.few in
    let long : length c.body.result.now ≡ 512 * (1 + length pages) = c.body.ensures.long ∙ ap (λ l. 512 * (1 + length l)) c.seal.ensures.same in
    committed_so_far g.D.Disk.moment g.D.Disk.crash_states_since g.D.Disk.image g.D.Disk.crash_states c.args.staged.now.total pages marks home c.args.disk.now
    c.write_and_keep.new.disk stands closed few
    (subst (λ (m : ℕ). CrashesLeaveOnly g.D.Disk.moment g.D.Disk.crash_states_since c.args.disk.now c.write_and_keep.new.disk
    (IsTornWrite 2048 m (g.D.Disk.image c.args.disk.now))) long (c.write_and_keep.ensures.any_moment only))

pub returns-clause-any_moment : goal.returns-clause-any_moment
returns-clause-any_moment g c = λ tells crashes only marks home stands closed.
    let pages = c.args.staged.now.pages in
    let total = c.args.staged.now.total in
    let start = g.D.Disk.image c.args.disk.now in
    let written = g.D.Disk.image c.write_and_keep.new.disk in
    let sealed = c.seal.new.self in
    let size : length start ≡ 512 * total = sym (g.met.D.Disk.length_is c.args.disk.now tells) ∙ c.requires.size in
    let as_sealed : HasBody sealed.total sealed.pages start written =
    has_body sealed sealed.header c.body.result.now start written c.body.ensures.sound (subst (λ l. 0 < length l) (sym c.seal.ensures.same) c.requires.some)
    (subst (λ (t : ℕ). 85 ≤ t) (sym c.seal.ensures.total) c.requires.least) (size ∙ ap (λ t. 512 * t) (sym c.seal.ensures.total))
    (c.seal.ensures.header ∙ ap (λ l. header_page (keys_of l)) (sym c.seal.ensures.same)) c.body.ensures.bytes c.body.ensures.long
    (c.in_ok-write_and_keep.ensures.image tells) in
    let body : HasBody total pages start written =
    subst (λ (t : ℕ). HasBody t pages start written) c.seal.ensures.total (subst (λ l. HasBody sealed.total l start written) c.seal.ensures.same as_sealed) in
    let few : length pages ≤ 80 = subst (λ l. length l ≤ 80) c.seal.ensures.same c.body.ensures.sound.few in
    let long : length c.body.result.now ≡ 512 * (1 + length pages) = c.body.ensures.long ∙ ap (λ l. 512 * (1 + length l)) c.seal.ensures.same in
    let so_far = committed_so_far g.D.Disk.moment g.D.Disk.crash_states_since g.D.Disk.image g.D.Disk.crash_states total pages marks home c.args.disk.now
    c.write_and_keep.new.disk stands closed few
    (subst (λ (m : ℕ). CrashesLeaveOnly g.D.Disk.moment g.D.Disk.crash_states_since c.args.disk.now c.write_and_keep.new.disk (IsTornWrite 2048 m start)) long
    (c.write_and_keep.ensures.any_moment only)) in
    let then = body.stands marks home stands closed in
    committed g.D.Disk.moment g.D.Disk.crash_states_since g.D.Disk.image g.D.Disk.crash_states total pages marks home c.args.disk.now c.write_and_keep.new.disk
    c.write_and_keep-2.new.disk so_far then.0 then.1
    body.is_written (c.write_and_keep-2.ensures.any_moment (c.in_ok-write_and_keep.ensures.kept tells crashes))

pub returns-clause-commits : goal.returns-clause-commits
returns-clause-commits g c = λ tells.
    let pages = c.args.staged.now.pages in
    let total = c.args.staged.now.total in
    let start = g.D.Disk.image c.args.disk.now in
    let written = g.D.Disk.image c.write_and_keep.new.disk in
    let sealed = c.seal.new.self in
    let size : length start ≡ 512 * total = sym (g.met.D.Disk.length_is c.args.disk.now tells) ∙ c.requires.size in
    let as_sealed : HasBody sealed.total sealed.pages start written =
    has_body sealed sealed.header c.body.result.now start written c.body.ensures.sound (subst (λ l. 0 < length l) (sym c.seal.ensures.same) c.requires.some)
    (subst (λ (t : ℕ). 85 ≤ t) (sym c.seal.ensures.total) c.requires.least) (size ∙ ap (λ t. 512 * t) (sym c.seal.ensures.total))
    (c.seal.ensures.header ∙ ap (λ l. header_page (keys_of l)) (sym c.seal.ensures.same)) c.body.ensures.bytes c.body.ensures.long
    (c.in_ok-write_and_keep.ensures.image tells) in
    let body : HasBody total pages start written =
    subst (λ (t : ℕ). HasBody t pages start written) c.seal.ensures.total (subst (λ l. HasBody sealed.total l start written) c.seal.ensures.same as_sealed) in
    on_ok_weaker c.write_and_keep-2.result (commits total pages start written (g.D.Disk.image c.write_and_keep-2.new.disk) c.requires.least size body)
    (c.write_and_keep-2.ensures.image (subst IsTrue (sym c.write_and_keep.ensures.disk.0.0.0) tells))

pub returns-in_err-write_and_keep-clause-others : goal.returns-in_err-write_and_keep-clause-others
returns-in_err-write_and_keep-clause-others g c = λ tells n home.
    let pages = c.args.staged.now.pages in
    let total = c.args.staged.now.total in
    let size : length (g.D.Disk.image c.args.disk.now) ≡ 512 * total = sym (g.met.D.Disk.length_is c.args.disk.now tells) ∙ c.requires.size in
    let few : length pages ≤ 80 = subst (λ l. length l ≤ 80) c.seal.ensures.same c.body.ensures.sound.few in
    let long : length c.body.result.now ≡ 512 * (1 + length pages) = c.body.ensures.long ∙ ap (λ l. 512 * (1 + length l)) c.seal.ensures.same in
    let first = journal_torn total (length c.body.result.now) (g.D.Disk.image c.args.disk.now) (g.D.Disk.image c.write_and_keep.new.disk) c.requires.least size
    (omega (arith, few, long)) (c.write_and_keep.ensures.torn tells) n home in
    first

pub returns-clause-others : goal.returns-clause-others
returns-clause-others g c = λ tells n home.
    let pages = c.args.staged.now.pages in
    let total = c.args.staged.now.total in
    let size : length (g.D.Disk.image c.args.disk.now) ≡ 512 * total = sym (g.met.D.Disk.length_is c.args.disk.now tells) ∙ c.requires.size in
    let few : length pages ≤ 80 = subst (λ l. length l ≤ 80) c.seal.ensures.same c.body.ensures.sound.few in
    let long : length c.body.result.now ≡ 512 * (1 + length pages) = c.body.ensures.long ∙ ap (λ l. 512 * (1 + length l)) c.seal.ensures.same in
    let first = journal_torn total (length c.body.result.now) (g.D.Disk.image c.args.disk.now) (g.D.Disk.image c.write_and_keep.new.disk) c.requires.least size
    (omega (arith, few, long)) (c.write_and_keep.ensures.torn tells) n home in
    let tells_then : IsTrue (g.D.Disk.is_known c.write_and_keep.new.disk) = subst IsTrue (sym c.write_and_keep.ensures.disk.0.0.0) tells in
    let kept : length (g.D.Disk.image c.write_and_keep.new.disk) ≡ 512 * total =
    sym (g.met.D.Disk.length_is c.write_and_keep.new.disk tells_then) ∙ c.write_and_keep.ensures.disk.0.1 ∙ c.requires.size in
    gate_only total (g.D.Disk.image c.write_and_keep.new.disk) (g.D.Disk.image c.write_and_keep-2.new.disk) c.requires.least kept
    (c.write_and_keep-2.ensures.torn tells_then) n home ∙ first
