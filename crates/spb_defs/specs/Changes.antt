-- The states that a script leads through, and its changes.
use Rattle.std.specs.Prelude.{◌≡◌, ℕ, ◌≤◌, Bool, true, false, List, [], ◌∷◌, length, take, Result, Ok, Err, if◌then◌else◌}
use Rattle.spb_edge.specs.declared.reader.Line.{Line}
use Rattle.spb_edge.specs.declared.reader.Line.TheVariants as line
use Rattle.spb_edge.specs.Lines.{lines_of}
use Rattle.spb_defs.specs.declared.TheConstants.{LINE_LIMIT}
use Rattle.spb_defs.specs.declared.Command.{Command}
use Rattle.spb_defs.specs.declared.Command.TheVariants as command
use Rattle.spb_defs.specs.declared.Reply.{Reply}
use Rattle.spb_defs.specs.declared.Reply.TheVariants.{Done, Exists, Absent, Full, Curve, Late, Object, Count, Range, Near, Join, Bad, Long}
use Rattle.spb_defs.specs.declared.What.{What}
use Rattle.spb_defs.specs.State.{State}
use Rattle.spb_defs.specs.Grammar.{command_of}
use Rattle.spb_defs.specs.Step.{reply, next_state}

-- the state after some lines
abbrev pub state_after_lines : State → List Line → State
state_after_lines s [] = s
state_after_lines s (line ∷ lines) = state_after_lines (next_state s line) lines

-- the last state of a script
abbrev pub last_state : State → List ℕ → State
last_state s script = state_after_lines s (lines_of LINE_LIMIT script)

-- the state is one that the first lines of these lead to
pub record IsReached (s : State) (lines : List Line) (t : State) : Type 0 where
  pub many : ℕ
  pub within : many ≤ length lines
  pub is : t ≡ state_after_lines s (take many lines)

-- ---- changes

-- the command adds or drops a member
abbrev pub is_update : Result Command What → Bool
is_update (Ok (command.Sample object)) = false
is_update (Ok (command.Add c id object)) = true
is_update (Ok (command.Discard c id)) = true
is_update (Ok (command.Get c id)) = false
is_update (Ok (command.Count c)) = false
is_update (Ok (command.Range c r object)) = false
is_update (Ok (command.Near c k object)) = false
is_update (Ok (command.Join c d r)) = false
is_update (Err failed) = false

abbrev pub is_ok : Reply → Bool
is_ok Done = true
is_ok Exists = false
is_ok Absent = false
is_ok Full = false
is_ok Curve = false
is_ok Late = false
is_ok (Object object) = false
is_ok (Count many) = false
is_ok (Range ids evals sure) = false
is_ok (Near rows evals) = false
is_ok (Join pairs evals sure) = false
is_ok (Bad failed) = false
is_ok Long = false

-- the line is an `add` or a `drop` that is answered `ok`
abbrev pub is_change : State → Line → Bool
is_change s (line.Text text) = if is_update (command_of s.space text) then is_ok (reply s (line.Text text)) else false
is_change s line.Long = false
is_change s line.End = false

-- the states after the changes among the lines
abbrev pub changed_states : State → List Line → List State
changed_states s [] = []
changed_states s (line ∷ lines) = if is_change s line then next_state s line ∷ changed_states (next_state s line) lines else changed_states (next_state s line)
    lines

-- the first state, and the one after each change of the script
abbrev pub changes : State → List ℕ → List State
changes s script = s ∷ changed_states s (lines_of LINE_LIMIT script)
