use Rattle.std.proofs.Common.{◌<◌}
use Rattle.cache_bench.specs.declared.TheConstants.{NODES}
use Rattle.cache_bench.proofs.asking.one_walk.Given as goal

abbrev pub invariant-loop-level : goal.invariant-loop-level
invariant-loop-level g l = l.node < NODES
