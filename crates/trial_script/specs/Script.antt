-- The script of a trial: the samples from which the pivots are chosen, the commands, and their lines.
use Rattle.std.specs.Prelude.{ℕ, ◌+◌, ◌/◌, ◌%◌, List, [], ◌∷◌, ◌++◌, map}
use Rattle.std.specs.List.{range_with_len, flat_map}
use Rattle.spb_edge.specs.declared.reader.Line.{Line}
use Rattle.spb_edge.specs.declared.reader.Line.TheVariants.{Text}
use Rattle.metrics_builtin.specs.declared.Space.{Space}
use Rattle.metrics_builtin.specs.declared.Space.TheVariants.{L1}
use Rattle.metrics_builtin.specs.Space.{dist}
use Rattle.spb_defs.specs.declared.Command.{Command}
use Rattle.spb_defs.specs.declared.Command.TheVariants.{Add, Range, Near, Join}
use Rattle.spb_defs.specs.declared.CurveKind.TheVariants.{Z}
use Rattle.spb_defs.specs.CommandText.{command_text}
use Rattle.spb_defs.specs.Scripts.{with_lf}
use Rattle.spb_defs.specs.Choice.{chosen_samples}
use Rattle.spb_defs.specs.State.{State, empty_in_file}
use Rattle.trial_script.specs.Draws.{drawn_object}

-- vectors of four components up to 1000
abbrev pub trial_space : Space
trial_space = L1 4 1000

-- the objects that are drawn first
unfoldable pub trial_samples : ℕ → List (List ℕ)
trial_samples seed = map (drawn_object seed) (range_with_len 0 16)

-- the store before the first line: its four pivots are chosen from the samples
unfoldable pub trial_state : ℕ → State
trial_state seed = empty_in_file trial_space Z (chosen_samples (dist trial_space) (trial_samples seed) 4) 65536

-- object i of those that are added: into collections 0 and 1 by turns, under the ids 0, 0, 1, 1 and so on
abbrev pub addition : ℕ → ℕ → Command
addition seed i = Add (i % 2) (i / 2) (drawn_object seed (16 + i))

-- the commands: one more object is added `count` times, 16 ask for a range, 16 for the nearest, and the last for a join
unfoldable pub trial_commands : ℕ → ℕ → List Command
trial_commands seed count =
    map (addition seed) (range_with_len 0 count)
    ++ map (λ i. Range 1 400 (drawn_object seed i)) (range_with_len (16 + count) 16)
    ++ map (λ i. Near 0 5 (drawn_object seed i)) (range_with_len (32 + count) 16)
    ++ Join 0 1 60 ∷ []

-- the line of a command
abbrev pub trial_line : Command → Line
trial_line command = Text (command_text trial_space command)

-- the lines of the commands
abbrev pub trial_lines : ℕ → ℕ → List Line
trial_lines seed count = map trial_line (trial_commands seed count)

-- the script: the text of each command, with an LF
unfoldable pub trial_script : ℕ → ℕ → List ℕ
trial_script seed count = flat_map with_lf (map (command_text trial_space) (trial_commands seed count))
