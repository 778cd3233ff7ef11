use Rattle.std.proofs.Common.{◌≡◌, ◌==◌, ◌||◌, IsTrue, sym, subst}
use Rattle.tree_check.specs.PageSets.{Marks, covers, has}
use Rattle.tree_check.proofs.Sets.{marked, members}
use Rattle.tree_check.proofs.page_set.PageSet.insert.Goals as goal

pub returns-clause-members : goal.returns-clause-members
returns-clause-members c = λ m.
    let inside : Marks = record { first = c.self.inside.first; marks = c.self.inside.marks.items } in
    subst (λ (s : Marks). has (marked inside c.args.n) m ≡ (has s m || (c.args.n == m))) c.self.view_is
    (members inside c.args.n (subst (λ (s : Marks). IsTrue (covers s c.args.n)) (sym c.self.view_is) c.requires) m)
