-- How sessions go on from state to state, and how they end.
use Rattle.std.specs.Prelude.{◌≡◌, ℕ, ◌+◌, ◌≤◌, ◌<◌, List, [], ◌∷◌, ◌++◌, length, take, Contains, Result, Ok, Err}
use Rattle.spb_edge.specs.Fault.{HasRisen}
use Rattle.spb_edge.specs.declared.reader.Line.{Line}
use Rattle.spb_defs.specs.declared.Reply.{Reply}
use Rattle.spb_defs.specs.State.{State}
use Rattle.spb_defs.specs.Step.{next_state}
use Rattle.spb_defs.specs.Play.{play_lines}
use Rattle.spb_defs.specs.Changes.{state_after_lines}
use Rattle.store_check.specs.Stands.{Stands}
use Rattle.session.specs.declared.endings.Ending.{Ending}
use Rattle.session.specs.declared.endings.Ending.TheVariants as ending
use Rattle.spb_top.specs.declared.status.Status.{Status}
use Rattle.spb_top.specs.declared.status.Status.TheVariants.{NoMemory, DiskFault, Damaged}

-- ---- states

-- the states that lines lead through: the first, and the one after each line
abbrev pub states_through : State → List Line → List State
states_through s [] = s ∷ []
states_through s (line ∷ lines) = s ∷ states_through (next_state s line) lines

-- the image stands for one of the states
abbrev pub StandsForOne : List State → List ℕ → Type 0
StandsForOne states image = (s : State) × Contains states s × Stands image s

-- ---- what was answered

-- a text begins with these bytes
abbrev pub BeginsWith : List ℕ → List ℕ → Type 0
BeginsWith front text = (more : List ℕ) × (text ≡ front ++ more)

-- the replies to this many lines begin with what was written, and those to fewer lines don't
pub record AnsweredLines (s : State) (lines : List Line) (written : List ℕ) (many : ℕ) : Type 0 where
  pub within : many ≤ length lines
  pub begins : BeginsWith written (play_lines s (take many lines))
  pub least : (fewer : ℕ) → fewer < many → BeginsWith written (play_lines s (take fewer lines)) → ⊥

-- the state after this many lines, and the state after one line more, if there is one
abbrev pub states_after : State → List Line → ℕ → List State
states_after s lines many = state_after_lines s (take many lines) ∷ state_after_lines s (take (many + 1) lines) ∷ []

-- ---- endings

-- a session that hadn't ended doesn't answer that it had
abbrev pub IsUnspent : Result Reply Ending → Type 0
IsUnspent (Ok said) = Unit {0}
IsUnspent (Err ending.DiskFault) = Unit {0}
IsUnspent (Err (ending.Damaged page rule)) = Unit {0}
IsUnspent (Err ending.NoMemory) = Unit {0}
IsUnspent (Err (ending.Spent first)) = ⊥

-- why there is no reply: memory ran out, the disk counted a fault, or a page is damaged; the count of faults never falls
abbrev pub StopsTurn : {A : Type 0} → Result A Status → ℕ → ℕ → Type 0
StopsTurn (Ok _) before now = before ≤ now
StopsTurn (Err NoMemory) before now = before ≤ now
StopsTurn (Err DiskFault) before now = (before ≤ now) × HasRisen before now
StopsTurn (Err (Damaged page rule)) before now = before ≤ now
StopsTurn (Err _) before now = ⊥

-- nothing is damaged
abbrev pub IsUndamaged : Status → Type 0
IsUndamaged (Damaged page rule) = ⊥
IsUndamaged _ = Unit {0}

-- the same of a turn
abbrev pub IsUndamagedStop : {A : Type 0} → Result A Status → Type 0
IsUndamagedStop (Ok _) = Unit {0}
IsUndamagedStop (Err status) = IsUndamaged status
