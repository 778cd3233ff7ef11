-- What one line is answered from a state, and the state after it.
use Rattle.std.specs.Prelude.{◌≡◌, ℕ, ◌==◌, is_some, nat_le, List, [], ◌∷◌, ◌++◌, length, Option, Some, None, Result, Ok, Err, if◌then◌else◌}
use Rattle.spb_edge.specs.declared.reader.Line.{Line}
use Rattle.spb_edge.specs.declared.reader.Line.TheVariants as line
use Rattle.metrics_builtin.specs.declared.Space.{Space}
use Rattle.metrics_builtin.specs.Space.{dist}
use Rattle.spb_defs.specs.declared.TheConstants.{SAMPLE_LIMIT}
use Rattle.spb_defs.specs.declared.Command.{Command}
use Rattle.spb_defs.specs.declared.Command.TheVariants as command
use Rattle.spb_defs.specs.declared.Reply.{Reply}
use Rattle.spb_defs.specs.declared.Reply.TheVariants.{Done, Exists, Absent, Full, Curve, Late, Object, Count, Range, Near, Join, Bad, Long}
use Rattle.spb_defs.specs.declared.What.{What}
use Rattle.spb_defs.specs.declared.RangeAnswer.{RangeAnswer}
use Rattle.spb_defs.specs.declared.NearAnswer.{NearAnswer}
use Rattle.spb_defs.specs.declared.JoinAnswer.{JoinAnswer}
use Rattle.spb_defs.specs.State.{State, with_samples_closed, allows_joins, object_at, is_full, with_object, without_object, member_count, entries_in}
use Rattle.spb_defs.specs.Scans.{considered_pairs, range_answer, near_answer, join_answer}
use Rattle.spb_defs.specs.Grammar.{command_of}

-- ---- samples

-- what a sample is answered, by the samples so far
abbrev pub sample_reply : Option (List (List ℕ)) → Reply
sample_reply None = Late
sample_reply (Some kept) = if nat_le SAMPLE_LIMIT (length kept) then Full else Done

-- the samples with one more, if it is kept
abbrev pub with_sample : Option (List (List ℕ)) → List ℕ → Option (List (List ℕ))
with_sample None object = None
with_sample (Some kept) object = if nat_le SAMPLE_LIMIT (length kept) then Some kept else Some (kept ++ object ∷ [])

-- ---- commands

-- the state that a command acts on: its samples are closed, unless the command is a sample
abbrev pub acting_state : State → Command → State
acting_state s (command.Sample object) = s
acting_state s (command.Add c id object) = with_samples_closed s
acting_state s (command.Discard c id) = with_samples_closed s
acting_state s (command.Get c id) = with_samples_closed s
acting_state s (command.Count c) = with_samples_closed s
acting_state s (command.Range c r object) = with_samples_closed s
acting_state s (command.Near c k object) = with_samples_closed s
acting_state s (command.Join c d r) = with_samples_closed s

abbrev pub get_reply : Option (List ℕ) → Reply
get_reply None = Absent
get_reply (Some object) = Object object

abbrev pub range_reply : RangeAnswer → Reply
range_reply answer = Range answer.ids answer.evals answer.sure

abbrev pub near_reply : NearAnswer → Reply
near_reply answer = Near answer.rows answer.evals

abbrev pub join_reply : JoinAnswer → Reply
join_reply answer = Join answer.pairs answer.evals answer.sure

-- the reply of the state that a command acts on
unfoldable pub reply_of : State → Command → Reply
reply_of t (command.Sample object) = sample_reply t.samples
reply_of t (command.Add c id object) = if is_some (object_at t c id) then Exists else (if is_full t then Full else Done)
reply_of t (command.Discard c id) = if is_some (object_at t c id) then Done else Absent
reply_of t (command.Get c id) = get_reply (object_at t c id)
reply_of t (command.Count c) = Count (member_count t.members c)
reply_of t (command.Range c r object) = range_reply (range_answer (dist t.space) t.pivots (entries_in t.members c) object r)
reply_of t (command.Near c k object) = near_reply (near_answer (dist t.space) t.pivots (entries_in t.members c) object k)
reply_of t (command.Join c d r) =
    if allows_joins t.curve then join_reply
    (join_answer (dist t.space) t.pivots (considered_pairs (c == d) (entries_in t.members c) (entries_in t.members d)) r)
    else Curve

-- that state after the command
unfoldable pub changed_state : State → Command → State
changed_state t (command.Sample object) = record t { samples = with_sample t.samples object }
changed_state t (command.Add c id object) =
    if is_some (object_at t c id) then t else (if is_full t then t else record t { members = with_object t.members c id object })
changed_state t (command.Discard c id) = if is_some (object_at t c id) then record t { members = without_object t.members c id } else t
changed_state t (command.Get c id) = t
changed_state t (command.Count c) = t
changed_state t (command.Range c r object) = t
changed_state t (command.Near c k object) = t
changed_state t (command.Join c d r) = t

-- the reply to a command, and the state after it
abbrev pub reply_to : State → Command → Reply
reply_to s asked = reply_of (acting_state s asked) asked

abbrev pub state_after : State → Command → State
state_after s asked = changed_state (acting_state s asked) asked

-- ---- lines

-- the reply to a line that was read: one that is no command is answered what fails first in it
abbrev pub reply_read : State → Result Command What → Reply
reply_read s (Ok read) = reply_to s read
reply_read s (Err failed) = Bad failed

abbrev pub state_after_read : State → Result Command What → State
state_after_read s (Ok read) = state_after s read
state_after_read s (Err failed) = s

-- the reply to a line; End is no line, and its reply is never used
unfoldable pub reply : State → Line → Reply
reply s (line.Text text) = reply_read s (command_of s.space text)
reply s line.Long = Long
reply s line.End = Long

-- the state after a line
unfoldable pub next_state : State → Line → State
next_state s (line.Text text) = state_after_read s (command_of s.space text)
next_state s line.Long = s
next_state s line.End = s

-- ---- distances

-- how many distance computations a reply reports: 0 if it reports none
abbrev pub evals_of : Reply → ℕ
evals_of Done = 0
evals_of Exists = 0
evals_of Absent = 0
evals_of Full = 0
evals_of Curve = 0
evals_of Late = 0
evals_of (Object object) = 0
evals_of (Count many) = 0
evals_of (Range ids evals sure) = evals
evals_of (Near rows evals) = evals
evals_of (Join pairs evals sure) = evals
evals_of (Bad failed) = 0
evals_of Long = 0

-- ---- refusals

-- a reply that refuses the line
abbrev pub IsRefusal : Reply → Type 0
IsRefusal Done = ⊥
IsRefusal Exists = Unit {0}
IsRefusal Absent = Unit {0}
IsRefusal Full = Unit {0}
IsRefusal Curve = Unit {0}
IsRefusal Late = Unit {0}
IsRefusal (Object object) = ⊥
IsRefusal (Count many) = ⊥
IsRefusal (Range ids evals sure) = ⊥
IsRefusal (Near rows evals) = ⊥
IsRefusal (Join pairs evals sure) = ⊥
IsRefusal (Bad failed) = Unit {0}
IsRefusal Long = Unit {0}

-- the command keeps a sample
abbrev pub IsSample : Command → Type 0
IsSample asked = (object : List ℕ) × (asked ≡ command.Sample object)

-- the line is a command that closes the samples: any but a sample
abbrev pub ClosesSamples : Space → Line → Type 0
ClosesSamples space asked = (text : List ℕ) × (read : Command) × (asked ≡ line.Text text) × (command_of space text ≡ Ok read) × (IsSample read → ⊥)
