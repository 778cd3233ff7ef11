use Rattle.std.proofs.Common.{rules, ◌≡◌, ℕ, List, [], ◌∷◌, ◌++◌, sym, subst, ◌∙◌}
use Rattle.std.specs.List.Sorted.{IsPermutation}
use Rattle.page_laws.specs.Pages.{AreFree}
use Rattle.page_laws.specs.FreeLaws.{taken_free, last_first}
use Rattle.page_laws.specs.PlainPages.{Plain, in_pool}
use Rattle.page_laws.proofs.plain_pages.PlainPagesPages.take_page.Goals as goal

pub invariant_of-self : goal.invariant_of-self
invariant_of-self c =
    let before = subst (AreFree _) c.in-Some.ensures.items c.self.invariant.free in
    record {
      count = c.self.invariant.count;
      free = taken_free _ _ c.in-Some.n before;
      room = search (rules, c.pop.ensures.capacity, c.self.invariant.room);
    }

pub returns-clause-taken : goal.returns-clause-taken
returns-clause-taken c = rw (← c.self.view_is, c.in-Some.ensures.items) (last_first c.pop.new.self.items c.in-Some.n)

pub returns-clause-free : goal.returns-clause-free
returns-clause-free c =
    let before = subst (AreFree _) c.in-Some.ensures.items c.self.invariant.free in
    (subst (λ (p : Plain). AreFree (in_pool p) p.free) c.self.view_is c.self.invariant.free, taken_free _ _ c.in-Some.n before)
