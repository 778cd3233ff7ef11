use Rattle.std.proofs.Common.{rules, ◌≤◌, length, subst, vec_capacity}
use Rattle.page_laws.specs.Pages.{AreFree}
use Rattle.free_list.specs.FreeNumbers.{FreeNumbers, is_within}
use Rattle.free_list.proofs.Marks.{last_live, taken}
use Rattle.free_list.proofs.list.FreeList.take.Goals as goal

pub invariant_of-self : goal.invariant_of-self
invariant_of-self c =
    let room : length c.self.inside.marks.items ≤ vec_capacity c.pop.new.self = search (rules, c.pop.ensures.capacity, c.self.invariant.room) in
    taken c.self.inside.first c.in-Some.n (vec_capacity c.self.inside.free) (vec_capacity c.pop.new.self) c.self.inside.marks.items
    c.self.inside.free.items c.pop.new.self.items c.in-Some.ensures.items room c.self.invariant

pub returns-clause-live : goal.returns-clause-live
returns-clause-live c = last_live c.self.inside.first c.in-Some.n c.self.inside.marks.items c.self.inside.free.items c.pop.new.self.items
    c.in-Some.ensures.items c.self.invariant.free

pub returns-clause-free : goal.returns-clause-free
returns-clause-free c =
    let room : length c.self.inside.marks.items ≤ vec_capacity c.pop.new.self = search (rules, c.pop.ensures.capacity, c.self.invariant.room) in
    let list = taken c.self.inside.first c.in-Some.n (vec_capacity c.self.inside.free) (vec_capacity c.pop.new.self) c.self.inside.marks.items
    c.self.inside.free.items c.pop.new.self.items c.in-Some.ensures.items room c.self.invariant in
    (subst (λ (l : FreeNumbers). AreFree (is_within l.first l.count) l.numbers) c.self.view_is c.self.invariant.free, list.free)
