use Rattle.std.specs.Io.KnownBytes.{Keeps}
use Rattle.spb_cli.proofs.streams.sink.write_some.Given as goal

-- the calls that were interrupted kept what the writer held
abbrev pub invariant-loop : goal.invariant-loop
invariant-loop g l = Keeps (g.W.Write.contents l.initial.writer) (g.W.Write.contents l.writer)
