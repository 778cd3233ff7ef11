-- What queries are answered from, and what a line is read as.
use Rattle.std.specs.Prelude.{◌≡◌, ℕ, List, Result, Ok, Err}
use Rattle.std.specs.List.Sorted.{IsPermutation}
use Rattle.spb_edge.specs.declared.reader.Line.{Line}
use Rattle.spb_edge.specs.declared.memory.Memory.{Memory}
use Rattle.metric_laws.specs.Objects.{Object}
use Rattle.spb_defs.specs.declared.Command.{Command}
use Rattle.spb_defs.specs.declared.Reply.{Reply}
use Rattle.spb_defs.specs.State.{State, entries_in}
use Rattle.spb_defs.specs.Step.{reply, next_state, reply_to, state_after, evals_of}
use Rattle.spb_defs.specs.CommandText.{IsWellFormed}
use Rattle.cmd_grammar.specs.HoldsObject.{HoldsObject}
use Rattle.pivot_map.specs.declared.row.Row.{Row}
use Rattle.pivot_map.specs.Rows.{entries_of}

-- the state has these pivots, and its collection these rows, in any order
pub record HoldsRows (s : State) (c : ℕ) (known : List Object) (table : List Row) : Type 0 where
  pub pivots : s.pivots ≡ known
  pub rows : IsPermutation (entries_in s.members c) (entries_of table)

-- What a line is to a state: a command, which decides the reply and the state after it, or a line that is no command,
-- which is answered at once, reports no distance computations and changes nothing. Nothing is said if memory runs out.
abbrev pub ReadsLine : Result (Result Command Reply) Memory → State → Line → Type 0
ReadsLine (Ok (Ok read)) s line = (reply s line ≡ reply_to s read) × (next_state s line ≡ state_after s read) × IsWellFormed s.space read
ReadsLine (Ok (Err said)) s line = (said ≡ reply s line) × (next_state s line ≡ s) × HoldsObject s.space said × (evals_of said ≡ 0)
ReadsLine (Err memory) s line = Unit {0}
