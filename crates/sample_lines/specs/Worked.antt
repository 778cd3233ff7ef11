-- Words of the worked scripts: points with two components from 0 to 255.
use Rattle.std.specs.Prelude.{ℕ, List}
use Rattle.spb_edge.specs.Lines.{lines_of}
use Rattle.metrics_builtin.specs.declared.Space.{Space}
use Rattle.metrics_builtin.specs.declared.Space.TheVariants.{L1}
use Rattle.spb_defs.specs.declared.TheConstants.{LINE_LIMIT}
use Rattle.spb_edge.specs.declared.reader.Line.{Line}

abbrev pub plane : Space
plane = L1 2 255

-- the lines of a script
abbrev pub lines_in : List ℕ → List Line
lines_in script = lines_of LINE_LIMIT script
