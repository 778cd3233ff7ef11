use Rattle.std.proofs.Common.{sym, subst, ◌∙◌}
use Rattle.page_laws.specs.Pages.{AreFree}
use Rattle.free_list.specs.FreeNumbers.{FreeNumbers, is_within}
use Rattle.free_list.proofs.Marks.{outside}
use Rattle.free_list.proofs.list.FreeList.is_free.Goals as goal

pub returns-else-has : goal.returns-else-has
returns-else-has c =
    let are = subst (λ (l : FreeNumbers). AreFree (is_within l.first l.count) l.numbers) c.self.view_is c.self.invariant.free in
    c.if-has.false ∙ sym (outside c.args.self.now c.args.n are (sym c.has.ensures ∙ c.if-has.false))
