use Rattle.std.proofs.Common.{rules, ◌≡◌, ◌≤◌, [], false, replicate, vec_capacity}
use Rattle.free_list.proofs.Marks.{none_free}
use Rattle.free_list.proofs.list.none_free.Goals as goal

pub invariant_of-result : goal.invariant_of-result
invariant_of-result c =
    let is : c.resize.new.self.items ≡ replicate c.args.count false = search rules in
    let none : c.in_ok-free.free.items ≡ [] = search rules in
    let enough : c.args.count ≤ vec_capacity c.in_ok-free.free = search (rules, c.in_ok-free.ensures.capacity) in
    none_free c.args.first c.args.count _ _ _ c.requires is none enough
