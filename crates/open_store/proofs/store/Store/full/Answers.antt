use Rattle.std.proofs.Common.{◌≡◌, None, sym, ap, subst, ◌∙◌}
use Rattle.std.specs.Prelude.{nat_le}
use Rattle.open_store.specs.Store.{StoreView, IsInState, opened_store}
use Rattle.open_store.proofs.States.{full_in}
use Rattle.open_store.proofs.store.Store.full.Goals as goal

pub returns-clause-members : goal.returns-clause-members
returns-clause-members g c = λ s in_state unspent.
    let K = g.D.Disk in
    let parts = c.self.inside in
    let v : StoreView g.row.D.Denot g.row.M.Denot = opened_store parts.pages parts.objects parts.lists parts.setup parts.spent in
    let in_view : IsInState K.is_known K.image v s =
    subst (λ (w : StoreView g.row.D.Denot g.row.M.Denot). IsInState K.is_known K.image w s) (sym c.self.view_is) in_state in
    let fresh : v.spent ≡ None = ap (λ (w : StoreView g.row.D.Denot g.row.M.Denot). w.spent) c.self.view_is ∙ unspent in
    ap (nat_le parts.setup.profile.cap) c.count_rows.ensures ∙ sym (full_in K.is_known K.image v s in_view (c.self.invariant.counted fresh))
