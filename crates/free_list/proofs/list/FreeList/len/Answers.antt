use Rattle.std.proofs.Common.{◌≤◌, length, arith}
use Rattle.free_list.proofs.Marks.{fits, free_numbers}
use Rattle.free_list.proofs.list.FreeList.len.Goals as goal

pub overflow_cast-result : goal.overflow_cast-result
overflow_cast-result c =
    let few : length c.self.inside.free.items ≤ length c.self.inside.marks.items =
    fits (free_numbers c.self.inside.first c.self.inside.marks.items c.self.inside.free.items) c.self.invariant.free in
    omega (arith, c.len.ensures, c.self.invariant.range, few)
