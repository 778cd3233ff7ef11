-- What a reader of lines has before it, and what a call takes off.
use Rattle.std.specs.Prelude.{◌≡◌, ℕ, Bool, true, false, ◌+◌, ◌-◌, ◌^◌, ◌<◌, ◌≤◌, List, [], ◌∷◌, ◌++◌, length, Option, Some, None, IfSome, Result, Ok, Err, ◌⊎◌, IsTrue}
use Rattle.std.specs.List.{slice_range}
use Rattle.spb_edge.specs.declared.reader.Line.{Line}
use Rattle.spb_edge.specs.declared.reader.Line.TheVariants.{Text, Long, End}
use Rattle.spb_edge.specs.declared.reader.EdgeError.{EdgeError}
use Rattle.spb_edge.specs.declared.reader.EdgeError.TheVariants as edge
use Rattle.spb_edge.specs.declared.reader.Scanned.{Scanned}
use Rattle.spb_edge.specs.declared.reader.Scanned.TheVariants.{Ended, Open}
use Rattle.spb_edge.specs.declared.memory.Memory.{Memory}
use Rattle.spb_edge.specs.declared.reader.LineReader.{LineReader}
use Rattle.spb_edge.specs.declared.source.Source.{Ghosts}
use Rattle.spb_edge.specs.Known.{with_prefix}
use Rattle.spb_edge.specs.Fault.{HasRisen}
use Rattle.spb_edge.specs.Lines.{HasNoLf, line_of, lines_of}

module _ {S : Type 0} {G : Ghosts S} where
  -- the bytes that were taken from the source and went into no line yet
  abbrev pub unread : LineReader S G → List ℕ
  unread reader = slice_range reader.buffer reader.start reader.end

  -- the bytes before the reader: the unread ones, and then what the source has left, if that is known
  abbrev pub rest : LineReader S G → Option (List ℕ)
  rest reader = with_prefix (unread reader) (G.left reader.source.now)

  -- how many bytes the reader took from its source
  abbrev pub taken : LineReader S G → ℕ
  taken reader = reader.taken

  -- how many faults the source counted
  abbrev pub faults : LineReader S G → ℕ
  faults reader = G.faults reader.source.now

  -- whether the source said that nothing is left; it isn't asked again
  abbrev pub has_ended : LineReader S G → Bool
  has_ended reader = reader.ended

  -- how many bytes may be answered in lines yet
  abbrev pub budget : LineReader S G → ℕ
  budget reader = 2 ^ 30 + length (unread reader) - reader.taken

  -- a call took these bytes off the start of the rest: what was unread and then what it got from the source, as many as
  -- the count rose, are these bytes and then what is unread now
  pub record TakesOff (old new : LineReader S G) (bytes : List ℕ) : Type 0 where
    pub front : rest old ≡ with_prefix bytes (rest new)
    pub count : taken old + length bytes + length (unread new) ≡ taken new + length (unread old)
    pub got : (got : List ℕ) × (unread old ++ got ≡ bytes ++ unread new) × (taken new ≡ taken old + length got)

-- nothing is left, if that is known
abbrev pub NothingLeft : Option (List ℕ) → Type 0
NothingLeft rest = IfSome rest (λ bytes. bytes ≡ [])

-- the reader may be asked: it took no more than the limit, and if the source has ended nothing is left
pub record CanTakeLine {S : Type 0} {G : Ghosts S} (reader : LineReader S G) : Type 0 where
  pub total : taken reader ≤ 2 ^ 30
  pub ended : IsTrue (has_ended reader) → (unread reader ≡ []) × NothingLeft (rest reader)

-- a line that is answered, by the bytes that were taken off for it: a piece without LF, and the LF or the end of the
-- stream, if the source has ended
abbrev pub IsLineAt : ℕ → Line → List ℕ → Option (List ℕ) → Bool → Type 0
IsLineAt limit line bytes left ended = (piece : List ℕ) × HasNoLf piece × (line ≡ line_of limit piece)
    × ((bytes ≡ piece ++ 10 ∷ []) ⊎ ((bytes ≡ piece) × (0 < length piece) × NothingLeft left × IsTrue ended))

-- the bytes that a call took off, by its answer. At an error they are the beginning of a line, without
-- its LF.
abbrev pub IsTakenFor : ℕ → Result Line EdgeError → List ℕ → Option (List ℕ) → Bool → Type 0
IsTakenFor limit (Ok (Text text)) bytes left ended = IsLineAt limit (Text text) bytes left ended
IsTakenFor limit (Ok Long) bytes left ended = IsLineAt limit Long bytes left ended
IsTakenFor limit (Ok End) bytes left ended = (bytes ≡ []) × NothingLeft left × IsTrue ended
IsTakenFor limit (Err e) bytes left ended = HasNoLf bytes

-- an answer is the first of the lines that are left, or End if there is none
abbrev pub IsFirstOf : Line → List Line → List Line → Type 0
IsFirstOf (Text text) before after = before ≡ Text text ∷ after
IsFirstOf Long before after = before ≡ Long ∷ after
IsFirstOf End before after = (before ≡ []) × (after ≡ [])

-- the same of a stream that may be known; one that is known stays known
abbrev pub IsNextLine : ℕ → Line → Option (List ℕ) → Option (List ℕ) → Type 0
IsNextLine limit line (Some before) (Some after) = IsFirstOf line (lines_of limit before) (lines_of limit after)
IsNextLine limit line (Some before) None = ⊥
IsNextLine limit line None (Some after) = ⊥
IsNextLine limit line None None = Unit {0}

-- why a line came or none: the faults before and now, how many bytes were taken in all, and how many of
-- them are unread
abbrev pub HasLineCause : Result Line EdgeError → ℕ → ℕ → ℕ → ℕ → Type 0
HasLineCause (Ok line) before now total unread = (before ≤ now) × (total ≤ 2 ^ 30)
HasLineCause (Err edge.ReadFault) before now total unread = (before ≤ now) × HasRisen before now × (total ≤ 2 ^ 30) × (unread ≡ 0)
HasLineCause (Err edge.InputLimit) before now total unread = (before ≤ now) × (0 < unread) × (total ≡ 2 ^ 30 + unread)
HasLineCause (Err edge.Memory) before now total unread = (before ≤ now) × (total ≤ 2 ^ 30)

-- after the end there is no line
abbrev pub EndsAgain : Result Line EdgeError → Type 0
EndsAgain (Ok (Text text)) = ⊥
EndsAgain (Ok Long) = ⊥
EndsAgain (Ok End) = Unit {0}
EndsAgain (Err edge.ReadFault) = ⊥
EndsAgain (Err edge.InputLimit) = ⊥
EndsAgain (Err edge.Memory) = Unit {0}

-- each line that is answered lowers the budget
abbrev pub LowersBudget : Result Line EdgeError → ℕ → ℕ → Type 0
LowersBudget (Ok (Text text)) before now = now < before
LowersBudget (Ok Long) before now = now < before
LowersBudget (Ok End) before now = now ≤ before
LowersBudget (Err e) before now = Unit {0}

-- what a take into an empty buffer leaves: whether bytes came, or why not
abbrev pub Refills : {S : Type 0} {G : Ghosts S} → Result Bool EdgeError → LineReader S G → LineReader S G → Type 0
Refills (Ok true) old new =
    (rest new ≡ rest old) × (0 < length (unread new)) × (taken new ≡ taken old + length (unread new)) × (taken new ≤ 2 ^ 30)
    × (faults old ≤ faults new) × (has_ended new ≡ false)
Refills (Ok false) old new =
    (rest new ≡ rest old) × (unread new ≡ []) × (taken new ≡ taken old) × (taken new ≤ 2 ^ 30) × (faults old ≤ faults new) × NothingLeft (rest old)
    × (has_ended new ≡ true)
Refills (Err edge.ReadFault) old new =
    (rest new ≡ rest old) × (unread new ≡ []) × (taken new ≡ taken old) × (taken new ≤ 2 ^ 30) × (faults old ≤ faults new) × HasRisen (faults old) (faults new)
Refills (Err edge.InputLimit) old new =
    (rest new ≡ rest old) × (0 < length (unread new)) × (taken old ≡ 2 ^ 30) × (taken new ≡ 2 ^ 30 + length (unread new))
    × (faults old ≤ faults new)
Refills (Err edge.Memory) old new = ⊥

-- what a look at the unread bytes made of the line so far: it ended at the first LF, or goes on after all of them
abbrev pub IsScanned : {S : Type 0} {G : Ghosts S} → ℕ → Line → Result Scanned Memory → LineReader S G → LineReader S G → Type 0
IsScanned limit line (Ok (Ended longer)) old new = (piece : List ℕ) × HasNoLf piece × (unread old ≡ piece ++ 10 ∷ unread new)
    × ((front : List ℕ) → line ≡ line_of limit front → longer ≡ line_of limit (front ++ piece))
IsScanned limit line (Ok (Open longer)) old new = HasNoLf (unread old) × (unread new ≡ [])
    × ((front : List ℕ) → line ≡ line_of limit front → longer ≡ line_of limit (front ++ unread old))
IsScanned limit line (Err e) old new = unread new ≡ unread old

-- the line that the bytes before the end of the stream make: none if there are none
abbrev pub IsLastLine : ℕ → Line → Line → Type 0
IsLastLine limit line closed = (front : List ℕ) → line ≡ line_of limit front
    → ((length front ≡ 0) × (closed ≡ End)) ⊎ ((0 < length front) × (closed ≡ line_of limit front))
