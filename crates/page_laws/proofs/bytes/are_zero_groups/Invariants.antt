use Rattle.std.proofs.Common.{◌≡◌, ◌==◌, take}
use Rattle.std.specs.List.{list_all}
use Rattle.page_laws.proofs.ZeroGroups.{is_zero_group}
use Rattle.page_laws.proofs.bytes.are_zero_groups.Given as goal

abbrev pub invariant-loop-group : goal.invariant-loop-group
invariant-loop-group l = (l.bits == 0) ≡ list_all is_zero_group (take l.group-index l.groups)
