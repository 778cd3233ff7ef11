-- A session in memory as its state, and what a turn says.
use Rattle.std.specs.Prelude.{◌≡◌, Bool, true, false, Result, Ok, Err}
use Rattle.spb_edge.specs.declared.reader.Line.{Line}
use Rattle.spb_defs.specs.declared.Reply.{Reply}
use Rattle.spb_defs.specs.State.{State}
use Rattle.spb_defs.specs.Step.{reply, next_state}
use Rattle.cmd_grammar.specs.HoldsObject.{HoldsObject}
use Rattle.open_store.specs.declared.errors.First.TheVariants as first
use Rattle.session.specs.declared.endings.Ending.{Ending}
use Rattle.session.specs.declared.endings.Ending.TheVariants as ending

-- the state, and whether the session has ended
pub record Session : Type 0 where
  pub state : State
  pub ended : Bool

-- A reply comes exactly if the session hasn't ended, unless memory runs out: it is that of the state to the line, any
-- object in it is one of the space, and the session goes on with the state after the line. If memory runs out the
-- session has ended, and an ended session answers so and stays as it is. Nothing else ends it.
abbrev pub AnswersTurn : Result Reply Ending → Session → Line → Session → Type 0
AnswersTurn (Ok said) old line new =
    (old.ended ≡ false) × (said ≡ reply old.state line) × HoldsObject old.state.space said × (new.state ≡ next_state old.state line) × (new.ended ≡ false)
AnswersTurn (Err ending.DiskFault) old line new = ⊥
AnswersTurn (Err (ending.Damaged page rule)) old line new = ⊥
AnswersTurn (Err ending.NoMemory) old line new = (old.ended ≡ false) × (new.ended ≡ true)
AnswersTurn (Err (ending.Spent first.DiskFault)) old line new = ⊥
AnswersTurn (Err (ending.Spent (first.Damaged page rule))) old line new = ⊥
AnswersTurn (Err (ending.Spent first.Memory)) old line new = (old.ended ≡ true) × (new ≡ old)
