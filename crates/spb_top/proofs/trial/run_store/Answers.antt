use Rattle.std.proofs.Common.{◌≤◌, sym, subst}
use Rattle.store_core.specs.Parts.{disk_in}
use Rattle.spb_top.specs.Trials.{IsTried}
use Rattle.spb_top.proofs.ServedStores.{IsMade}
use Rattle.spb_top.proofs.TriedFiles.{is_tried}
use Rattle.spb_top.proofs.trial.run_store.Goals as goal

pub returns-clause-answer : goal.returns-clause-answer
returns-clause-answer g c =
    let E = g.D.Disk in
    let opening = c.args.opening in
    let was = disk_in opening in
    let store = c.in_ok-finish_or_back.field-0 in
    let finish = c.in_ok-finish_or_back.ensures in
    let turns = c.turn_all-totals.ensures in
    let same = sym c.new-session.ensures.store in
    let made : IsMade E opening store =
    record { in_state = λ known. finish.opens known (c.requires.read known); quiet = g.met.D.Disk.quiet_is was store.pages.disk finish.quiet } in
    subst (λ d. IsTried E opening c.args.lines c.turn_all-totals.result d) (sym c.into_inner.ensures.disk)
    (is_tried E opening c.new-session.result c.turn_all-totals.new.session c.args.lines c.turn_all-totals.result (subst (IsMade E opening) same made)
    (g.met.D.Disk.only_now was) c.requires.settled (subst (λ v. E.faults was ≤ E.faults v.pages.disk) same finish.fault) turns.told turns.totals turns.done
    turns.any_moment turns.undamaged turns.stops)
