use Rattle.std.proofs.Common.{◌≡◌, length}
use Rattle.std.specs.Io.KnownBytes.{Keeps}
use Rattle.spb_cli.proofs.streams.source.read_some.Given as goal

-- the calls that were interrupted took nothing from the reader
abbrev pub invariant-loop : goal.invariant-loop
invariant-loop g l =
    (length l.into ≡ length l.initial.into) × Keeps (g.R.Read.remaining l.initial.reader) (g.R.Read.remaining l.reader)
