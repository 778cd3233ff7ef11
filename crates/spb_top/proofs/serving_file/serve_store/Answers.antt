use Rattle.std.proofs.Common.{◌≤◌, IsTrue, sym, subst, arith}
use Rattle.spb_edge.specs.Lines.{lines_of}
use Rattle.spb_defs.specs.declared.TheConstants.{LINE_LIMIT}
use Rattle.spb_defs.specs.Changes.{last_state}
use Rattle.store_core.specs.Parts.{disk_in}
use Rattle.store_core.proofs.StartedImages.{stored_stands}
use Rattle.open_store.specs.Store.{StoreView}
use Rattle.session.specs.FileSession.{FileView}
use Rattle.spb_top.specs.Opened.{IsServed}
use Rattle.spb_top.proofs.ServedStores.{cause_before, stays_known, state_of, IsMade, stands_for, holds, leaves}
use Rattle.spb_top.proofs.serving_file.serve_store.Goals as goal

pub returns-clause-answer : goal.returns-clause-answer
returns-clause-answer g c =
    let E = g.D.Disk in
    let opening = c.args.opening in
    let at = disk_in opening in
    let finished = c.in_ok-finish_or_back.ensures in
    let start : FileView g.row.D.Denot g.row.M.Denot = c.new-session.result in
    let end : FileView g.row.D.Denot g.row.M.Denot = c.serve_input-status.new.session in
    let status = c.serve_input-status.result in
    let serve = c.serve_input-status.ensures in
    let made : IsMade E opening start.store =
    subst (λ (store : StoreView g.row.D.Denot g.row.M.Denot). IsMade E opening store) (sym c.new-session.ensures.store) (record {
      in_state = λ known. finished.opens known (c.requires.read known);
      quiet = g.met.D.Disk.quiet_is at c.in_ok-finish_or_back.field-0.pages.disk finished.quiet;
    }) in
    let settled = c.requires.settled in
    let told = stays_known E at start.store.pages.disk end.store.pages.disk made.quiet serve.told in
    let before : E.faults at ≤ E.faults start.store.pages.disk =
    subst (λ (store : StoreView g.row.D.Denot g.row.M.Denot). E.faults at ≤ E.faults store.pages.disk) (sym c.new-session.ensures.store) finished.fault in
    subst (λ d. IsServed g.S.Source g.K.Sink E opening status c.args.input.now c.serve_input-status.new.input c.args.output.now
    c.serve_input-status.new.output d) (sym c.into_inner.ensures.disk) (record {
      stands = λ known. (state_of E opening, stands_for E opening start made known);
      text = λ first is. serve.text first (holds E opening start made settled first is);
      left = serve.input;
      any_moment = λ first is knows script left.
          leaves E opening start made (g.met.D.Disk.only_now at) settled first is knows (lines_of LINE_LIMIT script) end
          (serve.any_moment first (holds E opening start made settled first is) script left);
      acknowledged = λ first is knows script left so_far written had has many answered.
          serve.acknowledged first (holds E opening start made settled first is) script left so_far written had has many answered
          (subst IsTrue (sym told.1) knows);
      done = λ first is script left done.
          let held = serve.done first (holds E opening start made settled first is) script left done in
          (stored_stands (E.image end.store.pages.disk) (last_state first script) held.stands.stored, held.stands.stored.closed);
      durable = λ first is knows script left done.
          (serve.done first (holds E opening start made settled first is) script left done).durable (subst IsTrue (sym told.1) knows);
      cause = cause_before g.S.Source g.K.Sink c.args.input.now c.serve_input-status.new.input c.args.output.now c.serve_input-status.new.output
          (E.faults at) (E.faults start.store.pages.disk) (E.faults end.store.pages.disk) before status serve.cause;
      undamaged = λ first is. serve.undamaged first (holds E opening start made settled first is);
      faults = record {
        source = serve.faults.source;
        sink = serve.faults.sink;
        disk = let now = serve.faults.disk in omega (arith, before, now);
      };
      told = told;
    })
