-- A source in memory: what it has left, and which of its calls fail.
use Rattle.std.specs.Prelude.{◌≡◌, ℕ, Bool, List, length, min, if◌then◌else◌, ◌==◌}
use Rattle.std.specs.List.{list_any}
use Rattle.spb_edge.specs.declared.source.Take.{Take}
use Rattle.spb_edge.specs.declared.source.Take.TheVariants.{Got, End, Failed}
use Rattle.spb_edge.specs.Fault.{next_count}

-- the bytes left, the most that a call gives, the numbers of the calls that fail, how many calls were
-- made, and how many of them failed
pub record SourceState : Type 0 where
  pub left : List ℕ
  pub piece : ℕ
  pub failing : List ℕ
  pub calls : ℕ
  pub faults : ℕ

-- a new source: no call was made
pub record IsNewSource (source : SourceState) (bytes : List ℕ) (piece : ℕ) (failing : List ℕ) : Type 0 where
  pub left : source.left ≡ bytes
  pub piece_is : source.piece ≡ piece
  pub failing_is : source.failing ≡ failing
  pub no_call : source.calls ≡ 0
  pub no_fault : source.faults ≡ 0

-- whether the call fails that is made next
abbrev pub fails_next : SourceState → Bool
fails_next s = list_any (λ number. number == next_count s.calls) s.failing

-- what a call answers: a failure if its number is among those that fail, else as many bytes as fit the buffer and the
-- piece, else the end
abbrev pub answer_of : SourceState → ℕ → Take
answer_of s room = if fails_next s then Failed
    else (if length s.left == 0 then End else Got (min (min (length s.left) s.piece) room))

-- the source after the answer: a call that fails is counted among the faults, and no other
pub record AnswersTake (old : SourceState) (room : ℕ) (answer : Take) (new : SourceState) : Type 0 where
  pub answer_is : answer ≡ answer_of old room
  pub one_call : new.calls ≡ next_count old.calls
  pub same_piece : new.piece ≡ old.piece
  pub same_failing : new.failing ≡ old.failing
  pub counts : new.faults ≡ (if fails_next old then next_count old.faults else old.faults)
