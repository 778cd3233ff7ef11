-- The play of a script: the texts of the replies to its lines, one after the other.
use Rattle.std.specs.Prelude.{ℕ, List, [], ◌∷◌, ◌++◌}
use Rattle.spb_edge.specs.declared.reader.Line.{Line}
use Rattle.spb_edge.specs.Lines.{lines_of, ended_lines}
use Rattle.spb_defs.specs.declared.TheConstants.{LINE_LIMIT}
use Rattle.spb_defs.specs.State.{State}
use Rattle.spb_defs.specs.Step.{reply, next_state}
use Rattle.spb_defs.specs.ReplyText.{reply_text}

-- the replies to the lines from a state on
abbrev pub play_lines : State → List Line → List ℕ
play_lines s [] = []
play_lines s (line ∷ lines) = reply_text s.space (reply s line) ++ play_lines (next_state s line) lines

-- the replies to a script from a state on
abbrev pub play : State → List ℕ → List ℕ
play s script = play_lines s (lines_of LINE_LIMIT script)

-- the replies to the lines of a script that an LF ends
abbrev pub play_ended : State → List ℕ → List ℕ
play_ended s script = play_lines s (ended_lines LINE_LIMIT script)
