use Rattle.std.proofs.Common.{◌≡◌, ◌≤◌, vec_capacity}
use Rattle.std.specs.List.{range_with_len}
use Rattle.page_laws.proofs.plain_pages.numbers_between.Given as goal

-- the numbers so far, and room for all
abbrev pub invariant-loop-i : goal.invariant-loop-i
invariant-loop-i l = record {
  numbers : l.numbers.items ≡ range_with_len l.first l.i;
  room : l.count ≤ vec_capacity l.numbers;
}
