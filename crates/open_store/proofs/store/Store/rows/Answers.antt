use Rattle.std.proofs.Common.{sym, subst}
use Rattle.std.specs.List.Sorted.{IsPermutation}
use Rattle.spb_defs.specs.State.{entries_in}
use Rattle.pivot_map.specs.Rows.{entries_of}
use Rattle.open_store.specs.Store.{StoreView, IsInState}
use Rattle.open_store.proofs.Removal.{rows_are}
use Rattle.open_store.proofs.store.Store.rows.Goals as goal

pub returns-clause-members : goal.returns-clause-members
returns-clause-members g c = λ s in_state.
    let K = g.D.Disk in
    let in_view = subst (λ (v : StoreView g.row.D.Denot g.row.M.Denot). IsInState K.is_known K.image v s) (sym c.self.view_is) in_state in
    subst (λ rows. IsPermutation (entries_in s.members c.args.c) (entries_of rows)) (sym c.rows_at.ensures)
    (rows_are K.is_known K.image g.M.Metric.admitted g.M.Metric.dist _ c.self.invariant s c.args.c in_view)
