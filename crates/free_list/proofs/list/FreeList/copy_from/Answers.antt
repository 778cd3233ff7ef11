use Rattle.std.proofs.Common.{rules, ◌≡◌, ◌≤◌, length, ap, sym, ◌∙◌}
use Rattle.free_list.specs.FreeNumbers.{FreeNumbers}
use Rattle.free_list.proofs.Marks.{fits, free_numbers}
use Rattle.free_list.proofs.list.FreeList.copy_from.Goals as goal

pub unreachable-requires : goal.unreachable-requires
unreachable-requires c =
    let few : length c.other.inside.free.items ≤ length c.other.inside.marks.items =
    fits (free_numbers c.other.inside.first c.other.inside.marks.items c.other.inside.free.items) c.other.invariant.free in
    let same : length c.self.inside.marks.items ≡ length c.other.inside.marks.items =
    ap (λ (l : FreeNumbers). l.count) c.self.view_is ∙ c.requires.range.1 ∙ sym (ap (λ (l : FreeNumbers). l.count) c.other.view_is) in
    search (rules, few, same, c.self.invariant.room, c.clear.ensures.capacity)
