use Rattle.std.proofs.Common.{refl, [], ◌∷◌}
use Rattle.std.specs.Prelude.{codes}
use Rattle.std.specs.Fmt.{digits}
use Rattle.metrics_builtin.specs.Vectors.{components, object_of_components}
use Rattle.spb_edge.specs.declared.reader.Line.TheVariants.{Text, Long}
use Rattle.spb_edge.specs.Lines.{lines_of}
use Rattle.spb_defs.specs.Numbers.{number_of}
use Rattle.spb_defs.specs.ObjectText.{vector_of_text, object_of}
use Rattle.spb_defs.specs.Grammar.{sample_in, add_in, command_of}
use Rattle.sample_lines.specs.SampleLines.{first_kept}
use Rattle.sample_lines.proofs.rows.worked_lines.Goals as goal

pub returns : goal.returns
unfolding digits number_of vector_of_text object_of sample_in add_in command_of lines_of components object_of_components first_kept
returns c = record {
  samples = refl;
  empty = refl;
  outside = record {
    before = Text (codes "sample 0,0") ∷ [];
    bad = Text (codes "sample 256,0");
    behind = [];
    split = refl;
    number_is = refl;
    samples = (object_of_components (0 ∷ 0 ∷ []) ∷ [], refl);
    none = refl;
  };
  command = record {
    before = [];
    bad = Text (codes "add 0 1 0,0");
    behind = Text (codes "sample 256,0") ∷ [];
    split = refl;
    number_is = refl;
    samples = ([], refl);
    none = refl;
  };
  empty_line = record {
    before = [];
    bad = Text [];
    behind = Text (codes "sample 0,0") ∷ [];
    split = refl;
    number_is = refl;
    samples = ([], refl);
    none = refl;
  };
  long = record {
    before = Text (codes "sample 0,0") ∷ [];
    bad = Long;
    behind = [];
    split = refl;
    number_is = refl;
    samples = (object_of_components (0 ∷ 0 ∷ []) ∷ [], refl);
    none = refl;
  };
  kept = refl;
}
