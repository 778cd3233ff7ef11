use Rattle.std.proofs.Common.{length, ◌-◌, ◌≡◌, ◌≤◌, take}
use Rattle.spb_edge.specs.Known.{with_suffix}
use Rattle.spb_edge.proofs.sink.put_all.Given as goal

-- the first `done` bytes were put
abbrev pub invariant-loop-done : goal.invariant-loop-done
invariant-loop-done g l =
    (l.done ≤ length l.bytes)
    × (g.K.Sink.taken l.sink ≡ with_suffix (g.K.Sink.taken l.initial.sink) (take l.done l.bytes))
    × (g.K.Sink.faults l.initial.sink ≤ g.K.Sink.faults l.sink)

abbrev pub decreases-loop-done : goal.decreases-loop-done
decreases-loop-done g l = length l.bytes - l.done
