use Rattle.std.proofs.Common.{◌≤◌, sym, ◌∙◌, subst}
use Rattle.redo_journal.specs.Pages.{page}
use Rattle.store_check.specs.Opened.{state_in}
use Rattle.store_check.specs.Stands.{Stands}
use Rattle.store_core.specs.Parts.{disk_in, profile_of}
use Rattle.store_core.proofs.StartedImages.{stored_stands}
use Rattle.spb_edge.specs.Calls.{StaysKnown}
use Rattle.spb_top.proofs.Counting.{rows_are_members}
use Rattle.spb_top.proofs.checking.count_store.Goals as goal

pub returns-clause-answer : goal.returns-clause-answer
returns-clause-answer g c =
    let E = g.D.Disk in
    let M = g.M.Metric in
    let store = c.in_ok-store.store in
    let was = disk_in c.args.opening in
    let calm = g.met.D.Disk.quiet_is was store.pages.disk c.in_ok-store.ensures.quiet in
    let back = sym c.into_inner.ensures.disk in
    record {
      stands = λ known.
          let s = state_in (page (E.image was)) (profile_of c.args.opening) in
          let in_state = c.in_ok-store.ensures.opens known (c.requires.read known) in (
            s,
            subst (λ image. Stands image s) (calm.image_is known) (stored_stands (E.image store.pages.disk) s in_state.stored),
            c.count_all-objects.ensures
                ∙ rows_are_members E.is_known E.image M.admitted M.dist store s c.in_ok-store.ensures.sound c.in_ok-store.ensures.fresh in_state,
          );
      quiet = subst (λ d. E.quiet was d) back c.in_ok-store.ensures.quiet;
      told = subst (λ d. StaysKnown E.is_known E.knows_crashes was d) back c.in_ok-store.ensures.told;
      faults = subst (λ d. E.faults was ≤ E.faults d) back c.in_ok-store.ensures.fault;
    }
