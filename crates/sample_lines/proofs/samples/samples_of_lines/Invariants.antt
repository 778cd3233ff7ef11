use Rattle.std.proofs.Common.{◌≡◌, ◌≤◌, ◌+◌, ◌^◌, ℕ, List, length, All}
use Rattle.spb_edge.specs.Reader.{budget}
use Rattle.spb_edge.specs.declared.reader.Line.{Line}
use Rattle.metrics_builtin.specs.Space.{IsValid}
use Rattle.sample_lines.specs.SampleLines.{AreSampleLines, first_kept}
use Rattle.sample_lines.proofs.Reading.{Reading}
use Rattle.sample_lines.proofs.samples.samples_of_lines.Given as goal

-- the lines so far are samples, and the first of these are kept
abbrev pub invariant-loop-line : goal.invariant-loop-line
invariant-loop-line g l =
    (lines : List Line) × (objects : List (List ℕ)) × (took : List ℕ) × record {
      name : l.reader.source.ghost_name ≡ l.initial.reader.source.ghost_name;
      reading : Reading l.initial.reader l.reader lines took;
      samples : AreSampleLines l.space lines objects;
      kept_is : l.kept.items ≡ first_kept objects;
      valid : All (IsValid l.space) l.kept.items;
      number_is : l.number ≡ length lines;
      room : l.number + budget l.reader ≤ 2 ^ 30;
    }

abbrev pub decreases-loop-line : goal.decreases-loop-line
decreases-loop-line g l = budget l.reader
