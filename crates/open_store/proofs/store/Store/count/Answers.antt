use Rattle.std.proofs.Common.{sym, subst, ◌∙◌}
use Rattle.open_store.specs.Store.{StoreView, IsInState}
use Rattle.open_store.proofs.Removal.{count_in}
use Rattle.open_store.proofs.store.Store.count.Goals as goal

pub returns-clause-members : goal.returns-clause-members
returns-clause-members g c = λ s in_state.
    let K = g.D.Disk in
    let in_view = subst (λ (v : StoreView g.row.D.Denot g.row.M.Denot). IsInState K.is_known K.image v s) (sym c.self.view_is) in_state in
    c.len_at.ensures ∙ count_in K.is_known K.image g.M.Metric.admitted g.M.Metric.dist _ c.self.invariant s c.args.c in_view
