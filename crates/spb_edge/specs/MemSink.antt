-- A sink in memory: what it took, how much it may take, and which of its calls fail.
use Rattle.std.specs.Prelude.{◌≡◌, ℕ, ◌-◌, Bool, ◌||◌, List, [], length, min, if◌then◌else◌, ◌==◌}
use Rattle.std.specs.List.{list_any}
use Rattle.spb_edge.specs.declared.sink.Put.{Put}
use Rattle.spb_edge.specs.declared.sink.Put.TheVariants.{Took, Failed}
use Rattle.spb_edge.specs.Fault.{next_count}

-- the bytes taken, the most that it takes, the numbers of the calls that fail, how many calls were
-- made, and how many of them failed
pub record SinkState : Type 0 where
  pub taken : List ℕ
  pub room : ℕ
  pub failing : List ℕ
  pub calls : ℕ
  pub faults : ℕ

-- a new sink: no call was made
pub record IsNewSink (sink : SinkState) (room : ℕ) (failing : List ℕ) : Type 0 where
  pub nothing : sink.taken ≡ []
  pub room_is : sink.room ≡ room
  pub failing_is : sink.failing ≡ failing
  pub no_call : sink.calls ≡ 0
  pub no_fault : sink.faults ≡ 0

-- how many bytes may be taken yet
abbrev pub free_room : SinkState → ℕ
free_room s = s.room - length s.taken

-- whether the call fails that is made next
abbrev pub fails_next : SinkState → Bool
fails_next s = (free_room s == 0) || list_any (λ number. number == next_count s.calls) s.failing

-- what a call answers: a failure if its number is among those that fail or no room is left, else as
-- many bytes as there is room for
abbrev pub answer_of : SinkState → ℕ → Put
answer_of s len = if fails_next s then Failed else Took (min len (free_room s))

-- the sink after the answer: a call that fails is counted among the faults, and no other
pub record AnswersPut (old : SinkState) (len : ℕ) (answer : Put) (new : SinkState) : Type 0 where
  pub answer_is : answer ≡ answer_of old len
  pub one_call : new.calls ≡ next_count old.calls
  pub same_room : new.room ≡ old.room
  pub same_failing : new.failing ≡ old.failing
  pub counts : new.faults ≡ (if fails_next old then next_count old.faults else old.faults)
