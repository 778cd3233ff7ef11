use Rattle.std.proofs.Common.{rules, ◌≡◌, Ok, Err, subst, sym}
use Rattle.std.proofs.lemmas.Fn.{always_returns_same}
use Rattle.pivot_map.specs.declared.row.Row.{Row}
use Rattle.row_list.specs.Lists.{IsInOrder, IsPlaceOf, IsPlaceFor}
use Rattle.row_list.proofs.Searching.{rows_searched}
use Rattle.row_list.proofs.list.RowList.find.Goals as goal

pub returns-in-Ok-clause-place : goal.returns-in-Ok-clause-place
returns-in-Ok-clause-place c =
    subst (λ list. IsPlaceOf list.rows c.args.id c.in-Ok.place) c.self.view_is
    (subst (λ rows. IsPlaceOf rows c.args.id c.in-Ok.place) c.deref.ensures.value
    (rows_searched c.deref.result.now c.args.id (Ok c.in-Ok.place) (subst IsInOrder (sym c.deref.ensures.value) c.self.invariant.order)
    c.in-Ok.ensures.bound
    (c.in-Ok.ensures.position (λ (row : Row). row.id) (always_returns_same _ (λ a r. r ≡ a.0.now.id) _ (λ a r f' k. search rules)))))

pub returns-in-Err-clause-place : goal.returns-in-Err-clause-place
returns-in-Err-clause-place c =
    subst (λ list. IsPlaceFor list.rows c.args.id c.in-Err.place) c.self.view_is
    (subst (λ rows. IsPlaceFor rows c.args.id c.in-Err.place) c.deref.ensures.value
    (rows_searched c.deref.result.now c.args.id (Err c.in-Err.place) (subst IsInOrder (sym c.deref.ensures.value) c.self.invariant.order)
    c.in-Err.ensures.bound
    (c.in-Err.ensures.position (λ (row : Row). row.id) (always_returns_same _ (λ a r. r ≡ a.0.now.id) _ (λ a r f' k. search rules)))))
