use Rattle.std.proofs.Common.{rules, ◌≤◌, ◌<◌, IsTrue, length, sym, subst, vec_capacity}
use Rattle.page_laws.specs.Pages.{is_live}
use Rattle.free_list.specs.FreeNumbers.{FreeNumbers, is_within}
use Rattle.free_list.proofs.Marks.{fits_one, free_numbers, given}
use Rattle.free_list.proofs.list.FreeList.give.Goals as goal

pub unreachable-requires : goal.unreachable-requires
unreachable-requires c =
    let live = subst (λ (l : FreeNumbers). IsTrue (is_live (is_within l.first l.count) l.numbers c.args.n)) (sym c.self.view_is) c.requires.live in
    let below : length c.self.inside.free.items < length c.self.inside.marks.items =
    fits_one (free_numbers c.self.inside.first c.self.inside.marks.items c.self.inside.free.items) c.args.n c.self.invariant.free live in
    search (rules, below, c.self.invariant.room)

pub invariant_of-self : goal.invariant_of-self
invariant_of-self c =
    let live = subst (λ (l : FreeNumbers). IsTrue (is_live (is_within l.first l.count) l.numbers c.args.n)) (sym c.self.view_is) c.requires.live in
    let room : length c.self.inside.marks.items ≤ vec_capacity c.push.new.self = search (rules, c.push.ensures.capacity, c.self.invariant.room) in
    given c.self.inside.first c.args.n (vec_capacity c.self.inside.free) (vec_capacity c.push.new.self) c.self.inside.marks.items c.push.new.self.items
    c.self.inside.free.items c.in-Ok.ensures.items room live c.self.invariant

pub returns-clause-free : goal.returns-clause-free
returns-clause-free c =
    let live = subst (λ (l : FreeNumbers). IsTrue (is_live (is_within l.first l.count) l.numbers c.args.n)) (sym c.self.view_is) c.requires.live in
    let room : length c.self.inside.marks.items ≤ vec_capacity c.push.new.self = search (rules, c.push.ensures.capacity, c.self.invariant.room) in
    let list = given c.self.inside.first c.args.n (vec_capacity c.self.inside.free) (vec_capacity c.push.new.self) c.self.inside.marks.items c.push.new.self.items
    c.self.inside.free.items c.in-Ok.ensures.items room live c.self.invariant in
    list.free
