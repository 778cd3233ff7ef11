use Rattle.std.proofs.Common.{Err, OnOk, rules, sym, subst}
use Rattle.spb_edge.specs.Crash.{IsDurable}
use Rattle.spb_defs.specs.Changes.{state_after_lines}
use Rattle.store_check.specs.Stands.{Stands}
use Rattle.store_core.specs.Parts.{disk_in}
use Rattle.trial_script.specs.declared.totals.Totals.{Totals}
use Rattle.trial_script.specs.Script.{trial_lines}
use Rattle.spb_top.specs.Trials.{IsTried, StopsTrial}
use Rattle.spb_top.specs.Turns.{StandsForOne, states_through}
use Rattle.spb_top.proofs.OpenedFiles.{IsBegun, Leaves, quietly_on}
use Rattle.spb_top.proofs.TriedFiles.{stays, start_stops, finish_stops, file_totals, file_leaves, file_done, file_durable, file_stops}
use Rattle.spb_top.proofs.trial.run_trial.Goals as goal

-- ---- the profile or the pivots aren't read

pub returns-in-Err-clause-any_moment : goal.returns-in-Err-clause-any_moment
returns-in-Err-clause-any_moment g c = λ known tells durable first stands.
    let E = g.D.Disk in
    let lines = trial_lines c.args.seed c.args.count in
    let old = c.args.disk.now in
    let new = c.in-Err.back.1.now in
    let run : Leaves E old new (StandsForOne (states_through first lines)) =
    stays E old first new lines (c.in-Err.ensures.any_moment known tells durable first stands) in
    search (rules, run)

pub returns-in-Err-clause-stops : goal.returns-in-Err-clause-stops
returns-in-Err-clause-stops g c = λ first stands.
    let E = g.D.Disk in
    let old = c.args.disk.now in
    let new = c.in-Err.back.1.now in
    let stops : StopsTrial {A = Totals} (E.is_known old) (Err c.into.result) (E.faults old) (E.faults new) =
    subst (λ status. StopsTrial {A = Totals} (E.is_known old) (Err status) (E.faults old) (E.faults new)) (sym c.into.ensures)
    (start_stops E old first c.in-Err.back.0 new c.in-Err.ensures.refuses c.in-Err.ensures.fault stands) in
    search (rules, stops)

-- ---- the lines are answered

pub returns-in-Ok-run_opened-clause-totals : goal.returns-in-Ok-run_opened-clause-totals
returns-in-Ok-run_opened-clause-totals g c = λ known first stands.
    let E = g.D.Disk in
    let lines = trial_lines c.args.seed c.args.count in
    let old = c.args.disk.now in
    let opening = c.in-Ok.opening in
    let result = c.in-Ok-run_opened.tried.0 in
    let new = c.in-Ok-run_opened.tried.1.now in
    let begun : IsBegun E old c.in-Ok.opening =
    record { started = c.in-Ok.ensures.opens; told = c.in-Ok.ensures.told; durable = c.in-Ok.ensures.kept; faults = c.in-Ok.ensures.fault } in
    let tried = subst (λ ls. IsTried E opening ls result new) c.new.ensures c.in-Ok-run_opened.ensures.answer in
    file_totals E old first opening begun new lines result tried known stands

pub returns-in-Ok-run_opened-clause-any_moment : goal.returns-in-Ok-run_opened-clause-any_moment
returns-in-Ok-run_opened-clause-any_moment g c = λ known tells durable first stands.
    let E = g.D.Disk in
    let lines = trial_lines c.args.seed c.args.count in
    let old = c.args.disk.now in
    let opening = c.in-Ok.opening in
    let result = c.in-Ok-run_opened.tried.0 in
    let new = c.in-Ok-run_opened.tried.1.now in
    let begun : IsBegun E old c.in-Ok.opening =
    record { started = c.in-Ok.ensures.opens; told = c.in-Ok.ensures.told; durable = c.in-Ok.ensures.kept; faults = c.in-Ok.ensures.fault } in
    let tried = subst (λ ls. IsTried E opening ls result new) c.new.ensures c.in-Ok-run_opened.ensures.answer in
    let run : Leaves E old new (StandsForOne (states_through first lines)) =
    file_leaves E old first opening begun new lines result tried known tells stands (c.in-Ok.ensures.any_moment known tells durable first stands) in
    search (rules, run)

pub returns-in-Ok-run_opened-clause-done : goal.returns-in-Ok-run_opened-clause-done
returns-in-Ok-run_opened-clause-done g c = λ known first stands.
    let E = g.D.Disk in
    let lines = trial_lines c.args.seed c.args.count in
    let old = c.args.disk.now in
    let opening = c.in-Ok.opening in
    let result = c.in-Ok-run_opened.tried.0 in
    let new = c.in-Ok-run_opened.tried.1.now in
    let begun : IsBegun E old c.in-Ok.opening =
    record { started = c.in-Ok.ensures.opens; told = c.in-Ok.ensures.told; durable = c.in-Ok.ensures.kept; faults = c.in-Ok.ensures.fault } in
    let tried = subst (λ ls. IsTried E opening ls result new) c.new.ensures c.in-Ok-run_opened.ensures.answer in
    let done : OnOk result (Stands (E.image new) (state_after_lines first lines)) = file_done E old first opening begun new lines result tried known stands in
    search (rules, done)

pub returns-in-Ok-run_opened-clause-durable : goal.returns-in-Ok-run_opened-clause-durable
returns-in-Ok-run_opened-clause-durable g c = λ known tells first stands.
    let E = g.D.Disk in
    let lines = trial_lines c.args.seed c.args.count in
    let old = c.args.disk.now in
    let opening = c.in-Ok.opening in
    let result = c.in-Ok-run_opened.tried.0 in
    let new = c.in-Ok-run_opened.tried.1.now in
    let begun : IsBegun E old c.in-Ok.opening =
    record { started = c.in-Ok.ensures.opens; told = c.in-Ok.ensures.told; durable = c.in-Ok.ensures.kept; faults = c.in-Ok.ensures.fault } in
    let tried = subst (λ ls. IsTried E opening ls result new) c.new.ensures c.in-Ok-run_opened.ensures.answer in
    let durable : OnOk result (IsDurable (E.image new) (E.crash_states new)) =
    file_durable E old first opening begun new lines result tried known tells stands in
    search (rules, durable)

pub returns-in-Ok-run_opened-clause-stops : goal.returns-in-Ok-run_opened-clause-stops
returns-in-Ok-run_opened-clause-stops g c = λ first stands.
    let E = g.D.Disk in
    let lines = trial_lines c.args.seed c.args.count in
    let old = c.args.disk.now in
    let opening = c.in-Ok.opening in
    let result = c.in-Ok-run_opened.tried.0 in
    let new = c.in-Ok-run_opened.tried.1.now in
    let begun : IsBegun E old c.in-Ok.opening =
    record { started = c.in-Ok.ensures.opens; told = c.in-Ok.ensures.told; durable = c.in-Ok.ensures.kept; faults = c.in-Ok.ensures.fault } in
    let tried = subst (λ ls. IsTried E opening ls result new) c.new.ensures c.in-Ok-run_opened.ensures.answer in
    let stops : StopsTrial (E.is_known old) result (E.faults old) (E.faults new) = file_stops E old first opening begun new lines result tried stands in
    search (rules, stops)

-- ---- the store is refused

pub returns-in-Err-run_opened-clause-any_moment : goal.returns-in-Err-run_opened-clause-any_moment
returns-in-Err-run_opened-clause-any_moment g c = λ known tells durable first stands.
    let E = g.D.Disk in
    let lines = trial_lines c.args.seed c.args.count in
    let old = c.args.disk.now in
    let mid = disk_in c.in-Ok.opening in
    let new = c.in-Err-run_opened.back.1.now in
    let run : Leaves E old new (StandsForOne (states_through first lines)) =
    stays E old first new lines (quietly_on E old mid new (λ c'. Stands c' first) (g.met.D.Disk.counts_now mid)
    (c.in-Ok.ensures.any_moment known tells durable first stands) (g.met.D.Disk.quiet_is mid new c.in-Err-run_opened.ensures.answer.quiet)) in
    search (rules, run)

pub returns-in-Err-run_opened-clause-stops : goal.returns-in-Err-run_opened-clause-stops
returns-in-Err-run_opened-clause-stops g c = λ first stands.
    let E = g.D.Disk in
    let old = c.args.disk.now in
    let new = c.in-Err-run_opened.back.1.now in
    let begun : IsBegun E old c.in-Ok.opening =
    record { started = c.in-Ok.ensures.opens; told = c.in-Ok.ensures.told; durable = c.in-Ok.ensures.kept; faults = c.in-Ok.ensures.fault } in
    let stops : StopsTrial {A = Totals} (E.is_known old) (Err c.into-in-Err-run_opened.result) (E.faults old) (E.faults new) =
    subst (λ status. StopsTrial {A = Totals} (E.is_known old) (Err status) (E.faults old) (E.faults new)) (sym c.into-in-Err-run_opened.ensures)
    (finish_stops E old first c.in-Ok.opening begun c.in-Err-run_opened.back.0 new c.in-Err-run_opened.ensures.answer stands) in
    search (rules, stops)
