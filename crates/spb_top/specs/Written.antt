-- What a run writes and what it takes of its input.
use Rattle.std.specs.Prelude.{◌≡◌, ℕ, ◌^◌, ◌≤◌, List, [], ◌∷◌, ◌++◌, take, Option, Some, codes}
use Rattle.std.specs.Fmt.{decimal}
use Rattle.spb_edge.specs.Fault.{HasRisen}
use Rattle.spb_edge.specs.Known.{with_prefix, with_suffix}
use Rattle.spb_defs.specs.State.{State}
use Rattle.spb_defs.specs.Play.{play, play_ended}
use Rattle.spb_top.specs.declared.status.Status.{Status}
use Rattle.spb_top.specs.declared.status.Status.TheVariants.{Done, Usage, NoMemory, ReadFault, WriteFault, DiskFault, NotStore, Damaged, InputLimit, TooWide, NoSample, BadSample, NotEmpty}

-- ---- replies to lines

-- a prefix of the text was written
abbrev pub WritesPrefix : Option (List ℕ) → Option (List ℕ) → List ℕ → Type 0
WritesPrefix old new text = (n : ℕ) × (new ≡ with_suffix old (take n text))

-- the replies to the lines that an LF ends among the bytes taken were written
abbrev pub WritesEnded : State → List ℕ → Option (List ℕ) → Option (List ℕ) → Option (List ℕ) → Type 0
WritesEnded first script left old new = (took : List ℕ) × (Some script ≡ with_prefix took left) × (new ≡ with_suffix old (play_ended first took))

-- what was written of the replies to a script, by the status: all of them on Done, nothing if no line is answered, and a
-- prefix of them on every other status. On ReadFault and InputLimit these are the replies to the lines that an LF ends
-- among the bytes taken, or among those within the limit. `left` is what the input has left.
abbrev pub WritesReplies : Status → State → List ℕ → Option (List ℕ) → Option (List ℕ) → Option (List ℕ) → Type 0
WritesReplies Done first script left old new = new ≡ with_suffix old (play first script)
WritesReplies Usage first script left old new = new ≡ old
WritesReplies NoMemory first script left old new = WritesPrefix old new (play first script)
WritesReplies ReadFault first script left old new = WritesPrefix old new (play first script) × WritesEnded first script left old new
WritesReplies WriteFault first script left old new = WritesPrefix old new (play first script)
WritesReplies DiskFault first script left old new = WritesPrefix old new (play first script)
WritesReplies NotStore first script left old new = new ≡ old
WritesReplies (Damaged page rule) first script left old new = WritesPrefix old new (play first script)
WritesReplies InputLimit first script left old new =
    WritesPrefix old new (play first script) × (new ≡ with_suffix old (play_ended first (take (2 ^ 30) script)))
WritesReplies TooWide first script left old new = new ≡ old
WritesReplies NoSample first script left old new = new ≡ old
WritesReplies (BadSample line) first script left old new = new ≡ old
WritesReplies NotEmpty first script left old new = new ≡ old

-- what is left of a known input: a prefix of it was taken, on Done all of it, and it stays known
pub record LeavesInput (status : Status) (script : List ℕ) (left : Option (List ℕ)) : Type 0 where
  pub took : List ℕ
  pub front : Some script ≡ with_prefix took left
  pub whole : status ≡ Done → left ≡ Some []

-- ---- one line

-- a line that is the end of the work was written, or a prefix of it if the sink failed
abbrev pub PrintsLine : List ℕ → Status → Option (List ℕ) → Option (List ℕ) → Type 0
PrintsLine line Done old new = new ≡ with_suffix old line
PrintsLine line WriteFault old new = WritesPrefix old new line
PrintsLine line _ old new = ⊥

-- the faults of the sink before and now: a write fault comes only if the count rose
abbrev pub CountsPrint : Status → ℕ → ℕ → Type 0
CountsPrint Done before now = before ≤ now
CountsPrint WriteFault before now = (before ≤ now) × HasRisen before now
CountsPrint _ before now = ⊥

-- what was written of one line that is the end of the work, by the status: the line on Done, a prefix of it if the sink
-- failed, and else nothing
abbrev pub WritesLine : (List ℕ → Type 0) → Status → Option (List ℕ) → Option (List ℕ) → Type 0
WritesLine IsLine Done old new = (line : List ℕ) × IsLine line × (new ≡ with_suffix old line)
WritesLine IsLine WriteFault old new = (line : List ℕ) × IsLine line × WritesPrefix old new line
WritesLine IsLine _ old new = new ≡ old

-- the line of a store that was made, with so many pivots and so many evaluations for their choice
abbrev pub made_line : ℕ → ℕ → List ℕ
made_line pivots evals = codes "made pivots " ++ decimal pivots ++ codes " evals " ++ decimal evals ++ 10 ∷ []

-- the line of a store that was checked, with so many objects
abbrev pub sound_line : ℕ → List ℕ
sound_line objects = codes "sound " ++ decimal objects ++ 10 ∷ []
