use Rattle.std.proofs.Common.{arith}
use Rattle.page_laws.specs.FreeLaws.{range_free}
use Rattle.free_list.specs.FreeNumbers.{is_within}
use Rattle.tree_bench.proofs.untold.Untold.new.Goals as goal

pub new-requires-clause-free : goal.new-requires-clause-free
new-requires-clause-free c = range_free (is_within 1 c.args.count) 1 0 (λ n least below. absurd (omega (arith, least, below)))
