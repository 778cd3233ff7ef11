-- What a run keeps from line to line: the lines that were answered, what was written for them, and the session after them.
use Rattle.std.proofs.Common.{◌≡◌, ℕ, ◌+◌, ◌^◌, ◌≤◌, List, [], ◌∷◌, ◌++◌, length, take, drop, Option, Some, None, Result, Ok, Err, inl, inr, refl, sym, ap, subst, ◌∙◌, append-nil, append_assoc, length-append, arith}
use Rattle.std.specs.Prelude.{Bool, false, IfSome, IsTrue, ◌⊎◌}
use Rattle.std.specs.List.{Contains}
use Rattle.std.proofs.lemmas.Bool.{false≢true}
use Rattle.std.proofs.lemmas.List.{take_at, take-append-drop, append_cancel_left}
use Rattle.std.proofs.lemmas.Option.{none-some, same_Some}
use Rattle.spb_edge.specs.declared.reader.Line.{Line}
use Rattle.spb_edge.specs.declared.reader.Line.TheVariants.{Text, Long, End}
use Rattle.spb_edge.specs.declared.reader.EdgeError.{EdgeError}
use Rattle.spb_edge.specs.declared.reader.EdgeError.TheVariants as edge
use Rattle.spb_edge.specs.declared.reader.LineReader.{LineReader}
use Rattle.spb_edge.specs.declared.source.Source as source
use Rattle.spb_edge.specs.declared.sink.Sink as sink
use Rattle.spb_edge.specs.Known.{with_prefix, with_prefix-nil, with_suffix, with_suffix-append, with_suffix-nil}
use Rattle.spb_edge.specs.Lines.{HasNoLf, lines_of, ended_lines}
use Rattle.spb_edge.specs.LineLaws.{ended_lines-ended, ended_lines-none}
use Rattle.spb_edge.specs.Reader.{unread, rest, taken, faults, has_ended, CanTakeLine, EndsAgain, TakesOff, IsLineAt, IsTakenFor, IsNextLine, NothingLeft}
use Rattle.spb_edge.specs.Reader as reads
use Rattle.spb_defs.specs.declared.TheConstants.{LINE_LIMIT}
use Rattle.spb_defs.specs.State.{State}
use Rattle.spb_defs.specs.Step.{next_state}
use Rattle.spb_defs.specs.Play.{play_lines, play, play_ended}
use Rattle.spb_defs.specs.Changes.{state_after_lines}
use Rattle.spb_top.specs.declared.status.Status.{Status}
use Rattle.spb_top.specs.declared.status.Status.TheVariants.{Done, NoMemory, DiskFault, Damaged}
use Rattle.spb_top.specs.Written.{WritesPrefix, WritesReplies, LeavesInput}
use Rattle.spb_top.specs.Outside.{Traffic, reader_traffic}
use Rattle.spb_top.specs.Causes.{HasServingCause, stopped_by}
use Rattle.spb_top.specs.Turns.{states_through, AnsweredLines, states_after, StopsTurn}
use Rattle.spb_top.proofs.Answered.{answer, play_lines-append, play_lines-push, state_after_lines-push, one_among, both_among, through_more, through_push, after_front, after_next, after_part}
use Rattle.spb_top.proofs.Faults.{risen_later}

-- whatever follows the bytes that went, the lines that an LF ends begin with these: the bytes are whole lines
abbrev pub AreWhole : List ℕ → List Line → Type 0
AreWhole took lines = (more : List ℕ) → ended_lines LINE_LIMIT (took ++ more) ≡ lines ++ ended_lines LINE_LIMIT more

-- how much of a script has gone: the bytes that went and those that are left, with their count
pub record Gone {S : Type 0} {G : source.Ghosts S} (script : List ℕ) (reader : LineReader S G) : Type 0 where
  pub took : List ℕ
  pub left : List ℕ
  pub split : script ≡ took ++ left
  pub told : rest reader ≡ Some left
  pub count : taken reader + length left ≡ length (unread reader) + length script

-- the lines of a script so far: its other lines are left. The bytes that went are whole lines, until the source has ended.
pub record Reads {S : Type 0} {G : source.Ghosts S} (script : List ℕ) (reader : LineReader S G) (lines : List Line) : Type 0 where
  pub gone : Gone script reader
  pub lines_are : lines_of LINE_LIMIT script ≡ lines ++ lines_of LINE_LIMIT gone.left
  pub whole : IsTrue (has_ended reader) ⊎ AreWhole gone.took lines

-- ---- what a run keeps

-- whatever state there is: what was written, and the lines of the input so far
module _ {S K : Type 0} (G : source.Ghosts S) (H : sink.Ghosts K) where
  pub record Serving (reader : LineReader S G) (output : K) (now : LineReader S G) (sink : K) (written : List ℕ) (lines : List Line) : Type 0 where
    pub wrote : H.taken sink ≡ with_suffix (H.taken output) written
    pub script_reads : (script : List ℕ) → rest reader ≡ Some script → Reads script now lines
    pub is_open : CanTakeLine now
    pub source : faults reader ≤ faults now
    pub sink_faults : H.faults output ≤ H.faults sink

-- by the state from which the session began: the replies to these lines were written, and the session goes on from the
-- state after them
module _ {T : Type 0} (holds : T → State → Type 0) (leaves : T → T → List State → Type 0) where
  pub record GoesOn (first : State) (session session' : T) (written : List ℕ) (lines : List Line) : Type 0 where
    pub text : written ≡ play_lines first lines
    pub held : holds session' (state_after_lines first lines)
    pub left : leaves session session' (states_through first lines)

-- before the first line
module _ {S : Type 0} {G : source.Ghosts S} (reader : LineReader S G) (none : taken reader ≡ 0) (empty : unread reader ≡ []) where
  Reads-start : (script : List ℕ) → rest reader ≡ Some script → Reads script reader []
  Reads-start script told = record {
    gone = record { took = []; left = script; split = refl; told = told; count = omega (arith, ap length empty, none) };
    lines_are = refl;
    whole = inr (λ more. refl);
  }

  pub Serving-start : {K : Type 0} (H : sink.Ghosts K) (output : K) → has_ended reader ≡ false → Serving G H reader output reader output [] []
  Serving-start H output running = record {
    wrote = sym (with_suffix-nil (H.taken output));
    script_reads = Reads-start;
    is_open = record { total = omega arith; ended = λ ended. absurd (false≢true (sym running ∙ ended)) };
    source = omega arith;
    sink_faults = omega arith;
  }

pub GoesOn-start : {T : Type 0} (holds : T → State → Type 0) (leaves : T → T → List State → Type 0) (session : T) (first : State) → holds session first
    → leaves session session (first ∷ []) → GoesOn holds leaves first session session [] []
GoesOn-start holds leaves session first held left = record { text = refl; held = held; left = left }

-- ---- what is left, from line to line

-- a line that comes is the first of those left
next_of : (line : Line) (left : List ℕ) (new : Option (List ℕ)) → (line ≡ End → ⊥) → IsNextLine LINE_LIMIT line (Some left) new → (left' : List ℕ)
    × (new ≡ Some left') × (lines_of LINE_LIMIT left ≡ line ∷ lines_of LINE_LIMIT left')
next_of line left None not_end at = absurd at
next_of (Text text) left (Some left') not_end at = (left', refl, at)
next_of Long left (Some left') not_end at = (left', refl, at)
next_of End left (Some left') not_end at = absurd (not_end refl)

-- none of those left comes if the stream has ended
last_of : (left : List ℕ) (new : Option (List ℕ)) → IsNextLine LINE_LIMIT End (Some left) new → lines_of LINE_LIMIT left ≡ []
last_of left None at = absurd at
last_of left (Some left') at = at.0

-- what is known begins with the prefix, and the rest is known too
behind_told : (front left : List ℕ) (behind : Option (List ℕ)) → with_prefix front behind ≡ Some left → (back : List ℕ) × (behind ≡ Some back)
    × (left ≡ front ++ back)
behind_told front left None at = absurd (none-some left at)
behind_told front left (Some back) at = (back, refl, sym (same_Some (front ++ back) left at))

-- what is unread is part of what is left
unread_in : (front left : List ℕ) (behind : Option (List ℕ)) → with_prefix front behind ≡ Some left → length front ≤ length left
unread_in front left behind at =
    let told = behind_told front left behind at in
    let long = ap length told.2 in omega (arith, length-append front told.0)

-- the script, if more went off its start
split_on : (script took left bytes left' : List ℕ) → script ≡ took ++ left → left ≡ bytes ++ left' → script ≡ (took ++ bytes) ++ left'
split_on script took left bytes left' split cut = split ∙ ap (λ xs. took ++ xs) cut ∙ sym (append_assoc took bytes left')

module _ {S : Type 0} {G : source.Ghosts S} where
  -- the count of what was taken and what is left, after a call
  counts_off : (script left bytes : List ℕ) (now new : LineReader S G) → rest now ≡ Some left → taken now + length left ≡ length (unread now) + length script
      → TakesOff now new bytes
      → (left' : List ℕ) × (rest new ≡ Some left') × (left ≡ bytes ++ left') × (taken new + length left' ≡ length (unread new) + length script)
      × (length (unread new) ≤ length left')
  counts_off script left bytes now new told count off =
      let at = behind_told bytes left (rest new) (sym off.front ∙ told) in
      let long = ap length at.2 in
      let counted = off.count in (
        at.0,
        at.1,
        at.2,
        omega (arith, length-append bytes at.0),
        unread_in (unread new) at.0 (G.left new.source.now) at.1,
      )

  -- more bytes went
  pub Gone-more : (script bytes : List ℕ) (now new : LineReader S G) → Gone script now → TakesOff now new bytes → Gone script new
  Gone-more script bytes now new gone off =
      let count = counts_off script gone.left bytes now new gone.told gone.count off in record {
        took = gone.took ++ bytes;
        left = count.0;
        split = split_on script gone.took gone.left bytes count.0 gone.split count.2;
        told = count.1;
        count = count.3;
      }

-- ---- the bytes of whole lines

-- a line that is answered isn't the end, so the source hadn't ended
running : (line : Line) → (line ≡ End → ⊥) → EndsAgain (Ok line) → ⊥
running (Text text) not_end again = again
running Long not_end again = again
running End not_end again = not_end refl

-- the bytes of a line that is answered
pub line_at : (line : Line) (bytes : List ℕ) (left : Option (List ℕ)) (ended : Bool) → (line ≡ End → ⊥) → IsTakenFor LINE_LIMIT (Ok line) bytes left ended
    → IsLineAt LINE_LIMIT line bytes left ended
line_at (Text text) bytes left ended not_end at = at
line_at Long bytes left ended not_end at = at
line_at End bytes left ended not_end at = absurd (not_end refl)

-- one whole line more went, or the source has ended after the last
whole_line : (took : List ℕ) (lines : List Line) (line : Line) (bytes : List ℕ) (behind : Option (List ℕ)) (ended ended' : Bool)
    → (IsTrue ended ⊎ AreWhole took lines) → (IsTrue ended → ⊥) → IsLineAt LINE_LIMIT line bytes behind ended'
    → IsTrue ended' ⊎ AreWhole (took ++ bytes) (lines ++ line ∷ [])
whole_line took lines line bytes behind ended ended' (inl end) not_ended how = absurd (not_ended end)
whole_line took lines line bytes behind ended ended' (inr whole) not_ended (piece, none, is, inr last) = inl last.3
whole_line took lines line bytes behind ended ended' (inr whole) not_ended (piece, none, is, inl lf) =
    inr (λ more.
    let cells : bytes ++ more ≡ piece ++ 10 ∷ more = ap (λ xs. xs ++ more) lf ∙ append_assoc piece (10 ∷ []) more in
    let next : ended_lines LINE_LIMIT (bytes ++ more) ≡ line ∷ ended_lines LINE_LIMIT more =
    ap (ended_lines LINE_LIMIT) cells ∙ ended_lines-ended LINE_LIMIT piece more none ∙ ap (λ l. l ∷ ended_lines LINE_LIMIT more) (sym is) in
    ap (ended_lines LINE_LIMIT) (append_assoc took bytes more) ∙ whole (bytes ++ more) ∙ ap (λ ls. lines ++ ls) next
    ∙ sym (append_assoc lines (line ∷ []) (ended_lines LINE_LIMIT more)))

-- if the source hadn't ended, whole lines went
whole_of : (took : List ℕ) (lines : List Line) (ended : Bool) → (IsTrue ended ⊎ AreWhole took lines) → (IsTrue ended → ⊥) → AreWhole took lines
whole_of took lines ended (inl end) not_ended = absurd (not_ended end)
whole_of took lines ended (inr whole) not_ended = whole

-- after whole lines came bytes that no LF ended
whole_and_more : (took bytes : List ℕ) (lines : List Line) → AreWhole took lines → HasNoLf bytes → ended_lines LINE_LIMIT (took ++ bytes) ≡ lines
whole_and_more took bytes lines whole none = whole bytes ∙ ap (λ ls. lines ++ ls) (ended_lines-none LINE_LIMIT bytes none) ∙ append-nil lines

module _ {S : Type 0} {G : source.Ghosts S} (script : List ℕ) (now new : LineReader S G) (lines : List Line) (so_far : Reads script now lines) (line : Line)
    (not_end : line ≡ End → ⊥) (comes : IsNextLine LINE_LIMIT line (rest now) (rest new)) where
  -- the line that comes is the next of the script
  comes_next : (left' : List ℕ) × (rest new ≡ Some left') × (lines_of LINE_LIMIT script ≡ lines ++ line ∷ lines_of LINE_LIMIT left')
  comes_next =
      let step = next_of line so_far.gone.left (rest new) not_end (subst (λ o. IsNextLine LINE_LIMIT line o (rest new)) so_far.gone.told comes) in
      (step.0, step.1, so_far.lines_are ∙ ap (λ ls. lines ++ ls) step.2)

  -- one line more
  Reads-line : (bytes : List ℕ) → TakesOff now new bytes → (IsTrue (has_ended now) → EndsAgain (Ok line))
      → IsLineAt LINE_LIMIT line bytes (rest new) (has_ended new) → Reads script new (lines ++ line ∷ [])
  unfolding Gone-more
  Reads-line bytes off after how =
      let gone' = Gone-more script bytes now new so_far.gone off in
      let same : comes_next.0 ≡ gone'.left = same_Some comes_next.0 gone'.left (sym comes_next.1 ∙ gone'.told) in
      record {
        gone = gone';
        lines_are = comes_next.2 ∙ ap (λ left. lines ++ line ∷ lines_of LINE_LIMIT left) same
            ∙ sym (append_assoc lines (line ∷ []) (lines_of LINE_LIMIT gone'.left));
        whole = whole_line so_far.gone.took lines line bytes (rest new) (has_ended now) (has_ended new) so_far.whole (λ end. running line not_end (after end)) how;
      }

-- ---- what was written

-- a prefix of what a text is made of
WritesPrefix-of : (old new : Option (List ℕ)) (written more text : List ℕ) → new ≡ with_suffix old written → written ++ more ≡ text → WritesPrefix old new text
WritesPrefix-of old new written more text wrote whole =
    (length written, wrote ∙ ap (with_suffix old) (sym (take_at written more (length written) refl) ∙ ap (take (length written)) whole))

-- one text was written
written_is : (old new : Option (List ℕ)) (before final written : List ℕ) → old ≡ Some before → new ≡ Some (before ++ final) → new ≡ with_suffix old written
    → final ≡ written
written_is old new before final written was is wrote =
    append_cancel_left before final written (same_Some (before ++ final) (before ++ written) (sym is ∙ wrote ∙ ap (λ o. with_suffix o written) was))

module _ (first : State) (lines : List Line) (written : List ℕ) (is : written ≡ play_lines first lines) (all : List Line) (old : Option (List ℕ)) where
  -- the replies to the first lines are a prefix of all replies
  pub front_so_far : (back : List Line) → all ≡ lines ++ back → (new : Option (List ℕ)) → new ≡ with_suffix old written
      → WritesPrefix old new (play_lines first all)
  front_so_far back split new wrote =
      let behind = play_lines (state_after_lines first lines) back in
      WritesPrefix-of old new written behind (play_lines first all) wrote
      (ap (λ t. t ++ behind) is ∙ sym (play_lines-append first lines back) ∙ ap (play_lines first) (sym split))

  -- the same if a part of the reply to one line more was written
  pub front_of_reply : (line : Line) (back : List Line) → all ≡ lines ++ line ∷ back → (mid new : Option (List ℕ)) (text : List ℕ) (n : ℕ)
      → text ≡ answer (state_after_lines first lines) line → mid ≡ with_suffix old written → new ≡ with_suffix mid (take n text)
      → WritesPrefix old new (play_lines first all)
  front_of_reply line back split mid new text n replies wrote puts =
      let now = state_after_lines first lines in
      let behind = play_lines (next_state now line) back in
      let more : play_lines now (line ∷ back) ≡ take n text ++ (drop n text ++ behind) =
      ap (λ t. t ++ behind) (sym replies ∙ sym (take-append-drop n text)) ∙ append_assoc (take n text) (drop n text) behind in
      WritesPrefix-of old new (written ++ take n text) (drop n text ++ behind) (play_lines first all)
      (puts ∙ ap (λ o. with_suffix o (take n text)) wrote ∙ with_suffix-append old written (take n text))
      (append_assoc written (take n text) (drop n text ++ behind) ∙ ap (λ t. t ++ (take n text ++ (drop n text ++ behind))) is
      ∙ ap (λ t. play_lines first lines ++ t) (sym more) ∙ sym (play_lines-append first lines (line ∷ back)) ∙ ap (play_lines first) (sym split))

-- ---- the session

module _ {T : Type 0} (holds : T → State → Type 0) (leaves : T → T → List State → Type 0) (left_now : T → List State → Type 0) where
  -- the laws of sessions of a kind
  pub record Laws : Type 0 where
    pub same : (a : T) (s : State) → holds a s → leaves a a (s ∷ [])
    pub joined : (a b c : T) (xs ys : List State) → leaves a b xs → leaves b c ys → leaves a c (xs ++ ys)
    pub more : (a b : T) (xs ys : List State) → ((s : State) → Contains xs s → Contains ys s) → leaves a b xs → leaves a b ys
    pub now : (a b : T) (xs : List State) → leaves a b xs → left_now b xs

  pub laws_of : ((a : T) (s : State) → holds a s → leaves a a (s ∷ []))
      → ((a b c : T) (xs ys : List State) → leaves a b xs → leaves b c ys → leaves a c (xs ++ ys))
      → ((a b : T) (xs ys : List State) → ((s : State) → Contains xs s → Contains ys s) → leaves a b xs → leaves a b ys)
      → ((a b : T) (xs : List State) → leaves a b xs → left_now b xs) → Laws
  laws_of same joined more now = record { same = same; joined = joined; more = more; now = now }

  module _ (laws : Laws) (first : State) (session session' : T) (written : List ℕ) (lines : List Line) (on : GoesOn holds leaves first session session' written lines) where
    -- the states so far are among those through all lines
    pub left_so_far : (all back : List Line) → all ≡ lines ++ back → leaves session session' (states_through first all)
    left_so_far all back split =
        laws.more session session' (states_through first lines) (states_through first all)
        (λ t has. subst (λ ls. Contains (states_through first ls) t) (sym split) (through_more first lines back t has)) on.left

    -- what a crash leaves now, by what was written in all
    pub left_between : (all back : List Line) → all ≡ lines ++ back → (old new : Option (List ℕ)) (before final : List ℕ) (many : ℕ) → old ≡ Some before
        → new ≡ Some (before ++ final) → new ≡ with_suffix old written → AnsweredLines first all final many → left_now session' (states_after first all many)
    left_between all back split old new before final many was is wrote answered =
        let now = state_after_lines first lines in
        let among = after_front first all lines final many answered back split (written_is old new before final written was is wrote ∙ on.text) in
        laws.now session' session' (states_after first all many)
        (laws.more session' session' (now ∷ []) (states_after first all many) (one_among now (states_after first all many) among) (laws.same session' now on.held))

    module _ (session'' : T) (line : Line) (turned : leaves session' session'' (state_after_lines first lines ∷ next_state (state_after_lines first lines) line ∷ [])) where
      -- over one line more
      left_through_line : leaves session session'' (states_through first (lines ++ line ∷ []))
      left_through_line =
          let now = state_after_lines first lines in
          let both = now ∷ next_state now line ∷ [] in
          laws.more session session'' (states_through first lines ++ both) (states_through first (lines ++ line ∷ [])) (through_push first lines line)
          (laws.joined session session' session'' (states_through first lines) both on.left turned)

      pub left_after_turn : (all back : List Line) → all ≡ lines ++ line ∷ back → leaves session session'' (states_through first all)
      left_after_turn all back split =
          laws.more session session'' (states_through first (lines ++ line ∷ [])) (states_through first all)
          (λ t has. subst (λ ls. Contains (states_through first ls) t) (append_assoc lines (line ∷ []) back ∙ sym split)
          (through_more first (lines ++ line ∷ []) back t has)) left_through_line

      -- one line more was answered
      pub GoesOn-line : (text : List ℕ) → text ≡ answer (state_after_lines first lines) line → holds session'' (next_state (state_after_lines first lines) line)
          → GoesOn holds leaves first session session'' (written ++ text) (lines ++ line ∷ [])
      GoesOn-line text replies held = record {
        text = ap (λ w. w ++ text) on.text ∙ ap (λ t. play_lines first lines ++ t) replies ∙ sym (play_lines-push first lines line);
        held = subst (holds session'') (sym (state_after_lines-push first lines line)) held;
        left = left_through_line;
      }

      module _ (all back : List Line) (split : all ≡ lines ++ line ∷ back) (old new : Option (List ℕ)) (before final : List ℕ) (many : ℕ) (was : old ≡ Some before)
          (is : new ≡ Some (before ++ final)) (answered : AnsweredLines first all final many) where
        -- what a crash leaves after a turn that may have failed
        pub left_by_turn : new ≡ with_suffix old written → left_now session'' (states_after first all many)
        left_by_turn wrote =
            let now = state_after_lines first lines in
            let wrote_all = written_is old new before final written was is wrote ∙ on.text in
            let after = states_after first all many in
            laws.now session' session'' after
            (laws.more session' session'' (now ∷ next_state now line ∷ []) after
            (both_among now (next_state now line) after (after_front first all lines final many answered (line ∷ back) split wrote_all)
            (after_next first all lines final many answered line back split wrote_all)) turned)

        -- what a crash leaves after a turn of whose reply a part was written
        pub left_by_part : (mid : Option (List ℕ)) (text : List ℕ) (n : ℕ) → text ≡ answer (state_after_lines first lines) line
            → holds session'' (next_state (state_after_lines first lines) line) → mid ≡ with_suffix old written → new ≡ with_suffix mid (take n text)
            → left_now session'' (states_after first all many)
        left_by_part mid text n replies held wrote puts =
            let now = state_after_lines first lines in
            let next = next_state now line in
            let after = states_after first all many in
            let whole : new ≡ with_suffix old (written ++ take n text) =
            puts ∙ ap (λ o. with_suffix o (take n text)) wrote ∙ with_suffix-append old written (take n text) in
            let wrote_all = written_is old new before final (written ++ take n text) was is whole ∙ ap (λ w. w ++ take n text) on.text in
            let among = after_part first all lines final many answered line back split (take n text) (drop n text)
            (sym replies ∙ sym (take-append-drop n text)) wrote_all in
            laws.now session'' session'' after
            (laws.more session'' session'' (next ∷ []) after (one_among next after among) (laws.same session'' next held))

-- ---- how a run ends

IfSome-from : {A : Type 0} {P : A → Type 0} (o : Option A) → ((x : A) → o ≡ Some x → P x) → IfSome o P
IfSome-from None h = tt
IfSome-from (Some x) h = h x refl

nothing_unread : (unread : List ℕ) → length unread ≡ 0 → unread ≡ []
nothing_unread [] none = refl
nothing_unread (b ∷ unread) none = absurd (omega (arith, none))

-- what stopped the reader says which lines were answered
stopped_text : (e : EdgeError) (first : State) (script written left' : List ℕ) (old new : Option (List ℕ)) (behind : Option (List ℕ)) (unread : List ℕ)
    (before now total : ℕ)
    → WritesPrefix old new (play first script) → new ≡ with_suffix old written → reads.HasLineCause (Err e) before now total (length unread)
    → with_prefix unread behind ≡ Some left' → total + length left' ≡ length unread + length script
    → (e ≡ edge.Memory → ⊥) → (took : List ℕ) × (script ≡ took ++ left') × (play_ended first took ≡ written)
    → WritesReplies (stopped_by e) first script behind old new
stopped_text edge.ReadFault first script written left' old new behind unread before now total front wrote cause told count is (took, split, text) =
    let none : unread ≡ [] = nothing_unread unread cause.3 in
    let left : behind ≡ Some left' = sym (with_prefix-nil behind) ∙ ap (λ xs. with_prefix xs behind) (sym none) ∙ told in
    (front, (took, ap Some split ∙ ap (with_prefix took) (sym left), wrote ∙ ap (with_suffix old) (sym text)))
stopped_text edge.InputLimit first script written left' old new behind unread before now total front wrote cause told count is (took, split, text) =
    let long : length took ≡ 2 ^ 30 = omega (arith, cause.2, count, ap length split, length-append took left') in
    let within : take (2 ^ 30) script ≡ took = ap (take (2 ^ 30)) split ∙ take_at took left' (2 ^ 30) long in
    (front, wrote ∙ ap (with_suffix old) (sym text ∙ ap (play_ended first) (sym within)))
stopped_text edge.Memory first script written left' old new behind unread before now total front wrote cause told count is took = absurd (is refl)

stopped_cause : (e : EdgeError) (t : Traffic) (between total : ℕ) (unread : List ℕ) → t.source.before ≤ between
    → reads.HasLineCause (Err e) between t.source.now total (length unread)
    → ((script : List ℕ) → t.input ≡ Some script → (left : List ℕ) × (total + length left ≡ length unread + length script) × (length unread ≤ length left))
    → HasServingCause (stopped_by e) t
stopped_cause edge.ReadFault t between total unread grew cause count = risen_later t.source.before between t.source.now grew cause.1
stopped_cause edge.InputLimit t between total unread grew cause count =
    IfSome-from t.input (λ script is. let c = count script is in omega (arith, cause.1, cause.2, c.1, c.2))
stopped_cause edge.Memory t between total unread grew cause count = tt

pub stopped_is_not_done : (e : EdgeError) → stopped_by e ≡ Done → ⊥
stopped_is_not_done edge.ReadFault e = cc
stopped_is_not_done edge.InputLimit e = cc
stopped_is_not_done edge.Memory e = cc

-- a turn that failed
pub turn_text : (status : Status) (before now : ℕ) (first : State) (script : List ℕ) (left old new : Option (List ℕ)) → StopsTurn {A = Unit} (Err status) before now
    → WritesPrefix old new (play first script) → WritesReplies status first script left old new
turn_text NoMemory before now first script left old new stops front = front
turn_text DiskFault before now first script left old new stops front = front
turn_text (Damaged page rule) before now first script left old new stops front = front
turn_text _ before now first script left old new stops front = absurd stops

pub turn_is_not_done : (status : Status) (before now : ℕ) → StopsTurn {A = Unit} (Err status) before now → status ≡ Done → ⊥
turn_is_not_done status before now stops done = subst (λ s. StopsTurn {A = Unit} (Err s) before now) done stops

-- ---- whatever state there is

no_front : (front back : List ℕ) → front ++ back ≡ [] → back ≡ []
no_front [] back none = none
no_front (x ∷ front) back none = absurd (omega (arith, ap length none))

module _ {S K : Type 0} (G : source.Ghosts S) (H : sink.Ghosts K) (reader : LineReader S G) (output : K) (now : LineReader S G) (sink : K) (written : List ℕ)
    (lines : List Line) (so : Serving G H reader output now sink written lines) where
  -- the lines of the script begin with those so far
  pub split_so_far : (script : List ℕ) → rest reader ≡ Some script → (back : List Line) × (lines_of LINE_LIMIT script ≡ lines ++ back)
  split_so_far script told =
      let so_far = so.script_reads script told in (lines_of LINE_LIMIT so_far.gone.left, so_far.lines_are)

  module _ (new : LineReader S G) where
    -- and go on with the line that comes
    pub split_next : (line : Line) → (line ≡ End → ⊥) → IsNextLine LINE_LIMIT line (rest now) (rest new) → (script : List ℕ) → rest reader ≡ Some script
        → (back : List Line) × (lines_of LINE_LIMIT script ≡ lines ++ line ∷ back)
    split_next line not_end comes script told =
        let step = comes_next script now new lines (so.script_reads script told) line not_end comes in (lines_of LINE_LIMIT step.0, step.2)

    -- they are all lines, if the stream has ended
    pub split_all : IsNextLine LINE_LIMIT End (rest now) (rest new) → (script : List ℕ) → rest reader ≡ Some script → lines ≡ lines_of LINE_LIMIT script
    split_all comes script told =
        let so_far = so.script_reads script told in
        let none : lines_of LINE_LIMIT so_far.gone.left ≡ [] =
        last_of so_far.gone.left (rest new) (subst (λ o. IsNextLine LINE_LIMIT End o (rest new)) so_far.gone.told comes) in
        sym (append-nil lines) ∙ ap (λ ls. lines ++ ls) (sym none) ∙ sym so_far.lines_are

    module _ (bytes : List ℕ) (off : TakesOff now new bytes) where
      -- one line was answered
      pub Serving-line : (sink' : K) (line : Line) (text : List ℕ) → (line ≡ End → ⊥) → IsNextLine LINE_LIMIT line (rest now) (rest new)
          → (IsTrue (has_ended now) → EndsAgain (Ok line)) → IsLineAt LINE_LIMIT line bytes (rest new) (has_ended new)
          → CanTakeLine new → faults now ≤ faults new → H.taken sink' ≡ with_suffix (H.taken sink) text
          → H.faults sink ≤ H.faults sink' → Serving G H reader output new sink' (written ++ text) (lines ++ line ∷ [])
      Serving-line sink' line text not_end comes after how is_open grew puts grew' =
          let sofar = so.source in
          let sofar' = so.sink_faults in record {
            wrote = puts ∙ ap (λ t. with_suffix t text) so.wrote ∙ with_suffix-append (H.taken output) written text;
            script_reads = λ script told. Reads-line script now new lines (so.script_reads script told) line not_end comes bytes off after how;
            is_open = is_open;
            source = omega arith;
            sink_faults = omega arith;
          }

      -- bytes that no LF ended came, and then a fault or the limit
      text_cut : (e : EdgeError) → reads.HasLineCause (Err e) (faults now) (faults new) (taken new) (length (unread new)) → HasNoLf bytes
          → (IsTrue (has_ended now) → ⊥) → (e ≡ edge.Memory → ⊥) → (first : State) → written ≡ play_lines first lines
          → (script : List ℕ) → rest reader ≡ Some script → WritesReplies (stopped_by e) first script (G.left new.source.now) (H.taken output) (H.taken sink)
      unfolding Gone-more
      text_cut e cause none not_ended not_memory first is script told =
          let so_far = so.script_reads script told in
          let gone' = Gone-more script bytes now new so_far.gone off in
          let whole = whole_of so_far.gone.took lines (has_ended now) so_far.whole not_ended in
          let ended = whole_and_more so_far.gone.took bytes lines whole none in
          let split = split_so_far script told in
          stopped_text e first script written gone'.left (H.taken output) (H.taken sink) (G.left new.source.now) (unread new) (faults now) (faults new) (taken new)
          (front_so_far first lines written is (lines_of LINE_LIMIT script) (H.taken output) split.0 split.1 (H.taken sink) so.wrote)
          so.wrote cause gone'.told gone'.count not_memory (gone'.took, gone'.split, ap (play_lines first) ended ∙ sym is)

      text_by : (e : EdgeError) → reads.HasLineCause (Err e) (faults now) (faults new) (taken new) (length (unread new)) → HasNoLf bytes
          → (IsTrue (has_ended now) → EndsAgain (Err e)) → (first : State) → written ≡ play_lines first lines
          → (script : List ℕ) → rest reader ≡ Some script → WritesReplies (stopped_by e) first script (G.left new.source.now) (H.taken output) (H.taken sink)
      text_by edge.Memory cause none again first is script told =
          let split = split_so_far script told in
          front_so_far first lines written is (lines_of LINE_LIMIT script) (H.taken output) split.0 split.1 (H.taken sink) so.wrote
      text_by edge.ReadFault cause none again first is script told = text_cut edge.ReadFault cause none again (λ e. cc) first is script told
      text_by edge.InputLimit cause none again first is script told = text_cut edge.InputLimit cause none again (λ e. cc) first is script told

      module _ (e : EdgeError) (r : Result Line EdgeError) (failed : r ≡ Err e)
          (cause : reads.HasLineCause r (faults now) (faults new) (taken new) (length (unread new))) where
        here : reads.HasLineCause (Err e) (faults now) (faults new) (taken new) (length (unread new))
        here = subst (λ x. reads.HasLineCause x (faults now) (faults new) (taken new) (length (unread new))) failed cause

        -- no line came: the run ends with what stopped the reader
        pub text_stopped : IsTakenFor LINE_LIMIT r bytes (rest new) (has_ended new) → (IsTrue (has_ended now) → EndsAgain r)
            → (status : Status) → status ≡ stopped_by e → (first : State) → written ≡ play_lines first lines
            → (script : List ℕ) → rest reader ≡ Some script → WritesReplies status first script (G.left new.source.now) (H.taken output) (H.taken sink)
        text_stopped spells after status is first text script told =
            subst (λ s. WritesReplies s first script (G.left new.source.now) (H.taken output) (H.taken sink)) (sym is)
            (text_by e here (subst (λ x. IsTakenFor LINE_LIMIT x bytes (rest new) (has_ended new)) failed spells) (λ end. subst EndsAgain failed (after end)) first text
            script told)

        pub cause_stopped : (before after : ℕ) (status : Status) → status ≡ stopped_by e
            → HasServingCause status (reader_traffic G H reader new output sink before after)
        cause_stopped before after status is =
            let traffic = reader_traffic G H reader new output sink before after in
            let count : (script : List ℕ) → rest reader ≡ Some script → (left : List ℕ) × (taken new + length left ≡ length (unread new) + length script)
            × (length (unread new) ≤ length left) = λ script told.
            let gone = (so.script_reads script told).gone in
            let off' = counts_off script gone.left bytes now new gone.told gone.count off in (off'.0, off'.3, off'.4) in
            subst (λ s. HasServingCause s traffic) (sym is) (stopped_cause e traffic (faults now) (taken new) (unread new) so.source here count)

      -- why the run is done
      pub cause_done : (before after : ℕ) → taken new ≤ 2 ^ 30 → NothingLeft (rest new)
          → HasServingCause Done (reader_traffic G H reader new output sink before after)
      cause_done before after within nothing =
          IfSome-from (rest reader) (λ script told.
          let gone = Gone-more script bytes now new (so.script_reads script told).gone off in
          let none : gone.left ≡ [] = subst NothingLeft gone.told nothing in
          let count = gone.count in omega (arith, within, count, ap length none))

      -- a run that isn't done has taken a prefix of the input
      pub LeavesInput-front : (status : Status) → (status ≡ Done → ⊥) → (script : List ℕ) → rest reader ≡ Some script
          → LeavesInput status script (G.left new.source.now)
      LeavesInput-front status not_done script told =
          let gone = Gone-more script bytes now new (so.script_reads script told).gone off in
          let behind = behind_told (unread new) gone.left (G.left new.source.now) gone.told in
          let cut : script ≡ (gone.took ++ unread new) ++ behind.0 = split_on script gone.took gone.left (unread new) behind.0 gone.split behind.2 in
          record {
            took = gone.took ++ unread new;
            front = ap Some cut ∙ ap (with_prefix (gone.took ++ unread new)) (sym behind.1);
            whole = λ done. absurd (not_done done);
          }

      -- a run that is done has taken all of it
      pub LeavesInput-done : NothingLeft (rest new) → (script : List ℕ) → rest reader ≡ Some script → LeavesInput Done script (G.left new.source.now)
      LeavesInput-done nothing script told =
          let gone = Gone-more script bytes now new (so.script_reads script told).gone off in
          let behind = behind_told (unread new) gone.left (G.left new.source.now) gone.told in
          let none : gone.left ≡ [] = subst NothingLeft gone.told nothing in
          let left : G.left new.source.now ≡ Some [] = behind.1 ∙ ap Some (no_front (unread new) behind.0 (sym behind.2 ∙ none)) in
          record {
            took = script;
            front = sym (ap (with_prefix script) left ∙ ap Some (append-nil script));
            whole = λ done. left;
          }
