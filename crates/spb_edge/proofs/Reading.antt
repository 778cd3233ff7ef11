-- What a reader keeps while it reads a line, and what it has read at the end.
use Rattle.std.proofs.Common.{◌≡◌, ℕ, ◌+◌, ◌^◌, ◌<◌, ◌≤◌, inl, inr, List, [], ◌∷◌, ◌++◌, length, Bool, true, false, cond, Option, Some, None, Result, Ok, Err, refl, sym, ap, subst, ◌∙◌, append_assoc, append-nil, length-append, arith}
use Rattle.std.proofs.lemmas.List.Elements.{All-append}
use Rattle.std.proofs.lemmas.Bool.{false≢true}
use Rattle.std.specs.Prelude.{IsTrue}
use Rattle.spb_edge.specs.declared.reader.Line.{Line}
use Rattle.spb_edge.specs.declared.reader.Line.TheVariants.{Text, Long, End}
use Rattle.spb_edge.specs.declared.reader.EdgeError.{EdgeError}
use Rattle.spb_edge.specs.declared.reader.EdgeError.TheVariants as edge
use Rattle.spb_edge.specs.declared.reader.LineReader.{LineReader}
use Rattle.spb_edge.specs.declared.source.Source.{Ghosts}
use Rattle.spb_edge.specs.Known.{with_prefix, with_prefix-nil, with_prefix-append}
use Rattle.spb_edge.specs.Lines.{is_lf, HasNoLf, line_of, lines_of}
use Rattle.spb_edge.specs.declared.reader.Scanned.{Scanned}
use Rattle.spb_edge.specs.declared.reader.Scanned.TheVariants.{Ended, Open}
use Rattle.spb_edge.specs.Reader.{unread, rest, taken, faults, has_ended, budget, CanTakeLine, EndsAgain, TakesOff, NothingLeft, IsLineAt, IsTakenFor, IsFirstOf, IsNextLine, LowersBudget, IsScanned, Refills, IsLastLine}
use Rattle.spb_edge.specs.LineLaws.{lines_of-nil, lines_of-ended, lines_of-last}

-- the bytes of a line that no LF ended yet were taken off
pub record InLine {S : Type 0} {G : Ghosts S} (limit : ℕ) (old now : LineReader S G) (line : Line) (front : List ℕ) : Type 0 where
  pub no_lf : HasNoLf front
  pub so_far : line ≡ line_of limit front
  pub off : TakesOff old now front
  pub total : taken now ≤ 2 ^ 30
  pub counted : faults old ≤ faults now
  pub at_end : IsTrue (has_ended now) → (unread now ≡ []) × NothingLeft (rest now)
  pub after_end : IsTrue (has_ended old) → IsTrue (has_ended now) × (front ≡ []) × (now.source.now ≡ old.source.now)

-- what was taken off for a line is that line, before the lines after it
lines_of-line : (limit : ℕ) (line : Line) (bytes before after : List ℕ) (ended : Bool) → IsLineAt limit line bytes (Some after) ended → before ≡ bytes ++ after
    → lines_of limit before ≡ line ∷ lines_of limit after
lines_of-line limit line bytes before after ended (piece, none, is, inl lf) front =
    let at : before ≡ piece ++ 10 ∷ after = front ∙ ap (λ xs. xs ++ after) lf ∙ append_assoc piece (10 ∷ []) after in
    ap (lines_of limit) at ∙ lines_of-ended limit piece after none ∙ ap (λ l. l ∷ lines_of limit after) (sym is)
lines_of-line limit line bytes before after ended (piece, none, is, inr (last, some, nothing, at_end)) front =
    let at : before ≡ piece = front ∙ ap (λ xs. xs ++ after) last ∙ ap (λ xs. piece ++ xs) nothing ∙ append-nil piece in
    ap (lines_of limit) at ∙ lines_of-last limit piece none some ∙ ap (λ l. l ∷ []) (sym is)
    ∙ ap (λ ls. line ∷ ls) (sym (ap (lines_of limit) nothing ∙ lines_of-nil limit))

-- an answer is the next line, by what was taken off for it
pub IsNextLine-text : (limit : ℕ) (text bytes : List ℕ) (old new : Option (List ℕ)) (ended : Bool) → IsLineAt limit (Text text) bytes new ended
    → old ≡ with_prefix bytes new → IsNextLine limit (Text text) old new
IsNextLine-text limit text bytes old None ended at front = subst (λ o. IsNextLine limit (Text text) o None) (sym front) tt
IsNextLine-text limit text bytes old (Some after) ended at front =
    subst (λ o. IsNextLine limit (Text text) o (Some after)) (sym front) (lines_of-line limit (Text text) bytes (bytes ++ after) after ended at refl)

pub IsNextLine-long : (limit : ℕ) (bytes : List ℕ) (old new : Option (List ℕ)) (ended : Bool) → IsLineAt limit Long bytes new ended
    → old ≡ with_prefix bytes new → IsNextLine limit Long old new
IsNextLine-long limit bytes old None ended at front = subst (λ o. IsNextLine limit Long o None) (sym front) tt
IsNextLine-long limit bytes old (Some after) ended at front =
    subst (λ o. IsNextLine limit Long o (Some after)) (sym front) (lines_of-line limit Long bytes (bytes ++ after) after ended at refl)

pub IsNextLine-end : (limit : ℕ) (bytes : List ℕ) (old new : Option (List ℕ)) → bytes ≡ [] → NothingLeft new → old ≡ with_prefix bytes new
    → IsNextLine limit End old new
IsNextLine-end limit bytes old None none nothing front = subst (λ o. IsNextLine limit End o None) (sym front) tt
IsNextLine-end limit bytes old (Some after) none nothing front =
    let both : IsFirstOf End (lines_of limit (bytes ++ after)) (lines_of limit after) =
    (ap (λ xs. lines_of limit (xs ++ after)) none ∙ ap (lines_of limit) nothing ∙ lines_of-nil limit, ap (lines_of limit) nothing ∙ lines_of-nil limit) in
    subst (λ o. IsNextLine limit End o (Some after)) (sym front) both

-- ---- one look at the unread bytes, and one take

not_end : (within : Bool) (text : List ℕ) → End ≡ cond within (Text text) Long → ⊥
not_end true text e = cc
not_end false text e = cc

-- a piece is answered as a text or as Long
pub IsTakenFor-from_line : (limit : ℕ) (line : Line) (bytes : List ℕ) (left : Option (List ℕ)) (ended : Bool) → IsLineAt limit line bytes left ended
    → IsTakenFor limit (Ok line) bytes left ended
IsTakenFor-from_line limit (Text text) bytes left ended at = at
IsTakenFor-from_line limit Long bytes left ended at = at
IsTakenFor-from_line limit End bytes left ended (piece, none, is, how) = absurd (not_end _ piece is)

pub IsNextLine-from_line : (limit : ℕ) (line : Line) (bytes : List ℕ) (old new : Option (List ℕ)) (ended : Bool) → IsLineAt limit line bytes new ended
    → old ≡ with_prefix bytes new → IsNextLine limit line old new
IsNextLine-from_line limit (Text text) bytes old new ended at front = IsNextLine-text limit text bytes old new ended at front
IsNextLine-from_line limit Long bytes old new ended at front = IsNextLine-long limit bytes old new ended at front
IsNextLine-from_line limit End bytes old new ended (piece, none, is, how) front = absurd (not_end _ piece is)

pub LowersBudget-from_line : (limit : ℕ) (line : Line) (bytes : List ℕ) (left : Option (List ℕ)) (ended : Bool) (before now : ℕ)
    → IsLineAt limit line bytes left ended → now < before → LowersBudget (Ok line) before now
LowersBudget-from_line limit (Text text) bytes left ended before now at less = less
LowersBudget-from_line limit Long bytes left ended before now at less = less
LowersBudget-from_line limit End bytes left ended before now (piece, none, is, how) less = absurd (not_end _ piece is)

-- at an error the bytes had no LF
pub IsTakenFor-from_error : (limit : ℕ) (r : Result Line EdgeError) (e : EdgeError) (bytes : List ℕ) (left : Option (List ℕ)) (ended : Bool) → r ≡ Err e
    → HasNoLf bytes → IsTakenFor limit r bytes left ended
IsTakenFor-from_error limit r e bytes left ended is none = subst (λ x. IsTakenFor limit x bytes left ended) (sym is) none

module _ {S : Type 0} {G : Ghosts S} where
  -- nothing is taken off
  pub TakesOff-nothing : (reader : LineReader S G) → TakesOff reader reader []
  TakesOff-nothing reader = record {
    front = sym (with_prefix-nil (rest reader));
    count = omega arith;
    got = ([], append-nil (unread reader), omega arith);
  }

  -- what is taken off in a look at the unread bytes
  TakesOff-scan : (old now new : LineReader S G) (front bytes : List ℕ) → TakesOff old now front → unread now ≡ bytes ++ unread new
      → new.source.now ≡ now.source.now → taken new ≡ taken now → TakesOff old new (front ++ bytes)
  TakesOff-scan old now new front bytes off cut same total =
      let at : rest now ≡ with_prefix bytes (rest new) =
      ap (λ xs. with_prefix xs (G.left now.source.now)) cut ∙ with_prefix-append bytes (unread new) (G.left now.source.now)
      ∙ ap (λ s. with_prefix bytes (with_prefix (unread new) (G.left s))) (sym same) in
      let long : length (unread now) ≡ length bytes + length (unread new) = ap length cut ∙ length-append bytes (unread new) in
      let both : length (front ++ bytes) ≡ length front + length bytes = length-append front bytes in
      let counted = off.count in
      let got = off.got in record {
        front = off.front ∙ ap (with_prefix front) at ∙ sym (with_prefix-append front bytes (rest new));
        count = omega arith;
        got = (got.0, got.1 ∙ ap (λ xs. front ++ xs) cut ∙ sym (append_assoc front bytes (unread new)), total ∙ got.2);
      }

  -- a line that an LF ends
  pub at_lf : (limit : ℕ) (old now new : LineReader S G) (line ended : Line) (front : List ℕ) → InLine limit old now line front
      → IsScanned limit line (Ok (Ended ended)) now new → new.source.now ≡ now.source.now → taken new ≡ taken now → (bytes : List ℕ) × TakesOff old new bytes
      × IsLineAt limit ended bytes (rest new) (has_ended new)
  at_lf limit old now new line ended front so (piece, none, cut, longer) same total =
      let cut' : unread now ≡ (piece ++ 10 ∷ []) ++ unread new = cut ∙ sym (append_assoc piece (10 ∷ []) (unread new)) in (
        front ++ (piece ++ 10 ∷ []),
        TakesOff-scan old now new front (piece ++ 10 ∷ []) so.off cut' same total,
        (front ++ piece, All-append (λ b. is_lf b ≡ false) front piece so.no_lf none, longer front so.so_far, inl (sym (append_assoc front piece (10 ∷ [])))),
      )

  -- a line that goes on after all that was unread
  pub goes_on : (limit : ℕ) (old now seen new : LineReader S G) (line longer : Line) (front : List ℕ) → InLine limit old now line front
      → IsScanned limit line (Ok (Open longer)) now seen → seen.source.now ≡ now.source.now → taken seen ≡ taken now
      → rest new ≡ rest seen → taken new ≡ taken seen + length (unread new)
      → TakesOff old new (front ++ unread now) × HasNoLf (front ++ unread now) × (longer ≡ line_of limit (front ++ unread now))
  goes_on limit old now seen new line later front so (none, empty, long) same total stays more =
      let cut : unread now ≡ unread now ++ unread seen = sym (ap (λ xs. unread now ++ xs) empty ∙ append-nil (unread now)) in
      let off = TakesOff-scan old now seen front (unread now) so.off cut same total in
      let nothing : length (unread seen) ≡ 0 = ap length empty in
      let counted = off.count in
      let all = front ++ unread now in
      let got = off.got in
      let joined : unread old ++ (got.0 ++ unread new) ≡ all ++ unread new =
      sym (append_assoc (unread old) got.0 (unread new)) ∙ ap (λ xs. xs ++ unread new) (got.1 ∙ ap (λ xs. all ++ xs) empty ∙ append-nil all) in
      let longer_by : length (got.0 ++ unread new) ≡ length got.0 + length (unread new) = length-append got.0 (unread new) in
      let rose : taken seen ≡ taken old + length got.0 = got.2 in (
        record { front = off.front ∙ ap (with_prefix all) (sym stays); count = omega arith; got = (got.0 ++ unread new, joined, omega arith) },
        All-append (λ b. is_lf b ≡ false) front (unread now) so.no_lf none,
        long front so.so_far,
      )

  -- what a take into an empty buffer always leaves
  pub Refills-rest : (r : Result Bool EdgeError) (old new : LineReader S G) → Refills r old new → (rest new ≡ rest old)
      × (taken new ≡ taken old + length (unread new))
  Refills-rest (Ok true) old new h = (h.0, h.2)
  Refills-rest (Ok false) old new h = (h.0, omega (arith, ap length h.1))
  Refills-rest (Err edge.ReadFault) old new h = (h.0, omega (arith, ap length h.1))
  Refills-rest (Err edge.InputLimit) old new h = (h.0, omega arith)
  Refills-rest (Err edge.Memory) old new h = absurd h

-- a list of no items
empty_from_length : (xs : List ℕ) → length xs ≡ 0 → xs ≡ []
empty_from_length [] e = refl
empty_from_length (x ∷ xs) e = absurd (omega arith)

-- the end of the stream, after a line that no LF ended
pub at_end : (limit : ℕ) (line closed : Line) (front : List ℕ) (left : Option (List ℕ)) → HasNoLf front → line ≡ line_of limit front
    → IsLastLine limit line closed → NothingLeft left → IsTakenFor limit (Ok closed) front left true
at_end limit line closed front left none is closes nothing = elim (closes front is) [
  | inl e ↦ subst (λ l. IsTakenFor limit (Ok l) front left true) (sym e.1) (empty_from_length front e.0, nothing, refl)
  | inr l ↦ IsTakenFor-from_line limit closed front left true (front, none, l.1, inr (refl, l.0, nothing, refl))
]

module _ {S : Type 0} {G : Ghosts S} where
  -- what was seen, by what it is
  pub IsScanned-is : (limit : ℕ) (line : Line) (now new : LineReader S G) (a b : Scanned) → a ≡ b → IsScanned limit line (Ok a) now new
      → IsScanned limit line (Ok b) now new
  IsScanned-is limit line now new a b is = subst (λ s. IsScanned limit line (Ok s) now new) is

  pub Refills-is : (old new : LineReader S G) (a b : Bool) → a ≡ b → Refills (Ok a) old new → Refills (Ok b) old new
  Refills-is old new a b is = subst (λ s. Refills (Ok s) old new) is

  -- bytes that were taken off lower the budget by as many
  pub budget-off : (old new : LineReader S G) (bytes : List ℕ) → TakesOff old new bytes → taken old ≤ 2 ^ 30 → taken new ≤ 2 ^ 30
      → budget new + length bytes ≡ budget old
  budget-off old new bytes off before now = let counted = off.count in omega arith

  -- a line that is answered, by what was taken off for it
  pub answered : (limit : ℕ) (line : Line) (old new : LineReader S G) (bytes : List ℕ) → TakesOff old new bytes
      → IsLineAt limit line bytes (rest new) (has_ended new) → IsNextLine limit line (rest old) (rest new)
  answered limit line old new bytes off at = IsNextLine-from_line limit line bytes (rest old) (rest new) (has_ended new) at off.front

-- End comes after no bytes
pub LowersBudget-closed : (limit : ℕ) (closed : Line) (front : List ℕ) (left : Option (List ℕ)) (ended : Bool) (before now : ℕ)
    → IsTakenFor limit (Ok closed) front left ended → now + length front ≡ before → LowersBudget (Ok closed) before now
LowersBudget-closed limit (Text text) front left ended before now (piece, none, is, inl e) sum = let some = ap length e in
    omega (arith, length-append piece (10 ∷ []))
LowersBudget-closed limit (Text text) front left ended before now (piece, none, is, inr e) sum = let same = ap length e.0 in omega arith
LowersBudget-closed limit Long front left ended before now (piece, none, is, inl e) sum = let some = ap length e in omega (arith, length-append piece (10 ∷ []))
LowersBudget-closed limit Long front left ended before now (piece, none, is, inr e) sum = let same = ap length e.0 in omega arith
LowersBudget-closed limit End front left ended before now at sum = omega arith

pub IsNextLine-closed : (limit : ℕ) (closed : Line) (front : List ℕ) (old new : Option (List ℕ)) (ended : Bool) → IsTakenFor limit (Ok closed) front new ended
    → old ≡ with_prefix front new → IsNextLine limit closed old new
IsNextLine-closed limit (Text text) front old new ended at = IsNextLine-text limit text front old new ended at
IsNextLine-closed limit Long front old new ended at = IsNextLine-long limit front old new ended at
IsNextLine-closed limit End front old new ended at = IsNextLine-end limit front old new at.0 at.1

module _ {S : Type 0} {G : Ghosts S} where
  -- the stream ended after the line so far
  pub at_stream_end : (limit : ℕ) (old now seen new : LineReader S G) (line longer closed : Line) (front : List ℕ) → InLine limit old now line front
      → IsScanned limit line (Ok (Open longer)) now seen → seen.source.now ≡ now.source.now → taken seen ≡ taken now
      → Refills (Ok false) seen new → IsLastLine limit longer closed
      → (bytes : List ℕ) × TakesOff old new bytes × IsTakenFor limit (Ok closed) bytes (rest new) (has_ended new)
  at_stream_end limit old now seen new line longer closed front so sees same total left closes =
      let rests = Refills-rest (Ok false) seen new left in
      let on = goes_on limit old now seen new line longer front so sees same total rests.0 rests.1 in
      let nothing : NothingLeft (rest new) = subst NothingLeft (sym rests.0) left.5 in
      let all = front ++ unread now in
      (all, on.0, subst (IsTakenFor limit (Ok closed) all (rest new)) (sym left.6) (at_end limit longer closed all (rest new) on.1 on.2 closes nothing))

  -- more came after the line so far; the source hadn't ended
  pub more_came : (limit : ℕ) (old now seen new : LineReader S G) (line longer : Line) (front : List ℕ) → InLine limit old now line front
      → IsScanned limit line (Ok (Open longer)) now seen → seen.source.now ≡ now.source.now → taken seen ≡ taken now
      → has_ended seen ≡ has_ended now → (IsTrue (has_ended seen) → ⊥) → Refills (Ok true) seen new → (bytes : List ℕ) × InLine limit old new longer bytes
  more_came limit old now seen new line longer front so sees same total alike_end running left =
      let on = goes_on limit old now seen new line longer front so sees same total left.0 left.2 in
      let counted : faults old ≤ faults now = so.counted in
      let alike : faults seen ≡ faults now = ap G.faults same in (
        front ++ unread now,
        record {
          no_lf = on.1;
          so_far = on.2;
          off = on.0;
          total = left.3;
          counted = omega (arith, left.4);
          at_end = λ ended. absurd (false≢true (sym left.5 ∙ ended));
          after_end = λ ended. absurd (running (alike_end ∙ (so.after_end ended).0));
        },
      )

  -- the reader may be asked for more after a line that goes on
  pub CanTakeLine-seen : (limit : ℕ) (old now seen : LineReader S G) (line later : Line) (front : List ℕ) → InLine limit old now line front
      → IsScanned limit line (Ok (Open later)) now seen → seen.source.now ≡ now.source.now → taken seen ≡ taken now → has_ended seen ≡ has_ended now
      → CanTakeLine seen
  CanTakeLine-seen limit old now seen line later front so (none, empty, long) same total alike_end =
      let sofar = so.total in record {
        total = omega arith;
        ended = λ ended.
            let end = so.at_end (sym alike_end ∙ ended) in
            let rests : rest now ≡ rest seen =
            ap (λ xs. with_prefix xs (G.left now.source.now)) (end.0 ∙ sym empty) ∙ ap (λ s. with_prefix (unread seen) (G.left s)) (sym same) in
            (empty, subst NothingLeft rests end.1);
      }

  -- an LF was found, so the source hadn't ended
  pub not_ended_at_lf : (limit : ℕ) (old now new : LineReader S G) (line ended : Line) (front : List ℕ) → InLine limit old now line front
      → IsScanned limit line (Ok (Ended ended)) now new → IsTrue (has_ended now) → ⊥
  not_ended_at_lf limit old now new line ended front so (piece, none, cut, longer) end =
      let long = ap length (sym (so.at_end end).0 ∙ cut) in
      absurd (omega (arith, length-append piece (10 ∷ unread new)))

  pub CanTakeLine-at_lf : (limit : ℕ) (old now new : LineReader S G) (line ended : Line) (front : List ℕ) → InLine limit old now line front
      → IsScanned limit line (Ok (Ended ended)) now new → taken new ≡ taken now → has_ended new ≡ has_ended now → CanTakeLine new
  CanTakeLine-at_lf limit old now new line ended front so sees total alike_end =
      let sofar = so.total in record {
        total = omega arith;
        ended = λ end. absurd (not_ended_at_lf limit old now new line ended front so sees (sym alike_end ∙ end));
      }

  -- after the end the line so far is none
  pub EndsAgain-closed : (limit : ℕ) (old now seen : LineReader S G) (line later closed : Line) (front : List ℕ) → InLine limit old now line front
      → IsScanned limit line (Ok (Open later)) now seen → IsLastLine limit later closed → IsTrue (has_ended old) → EndsAgain (Ok closed)
  EndsAgain-closed limit old now seen line later closed front so (none, empty, long) closes ended =
      let after = so.after_end ended in
      let nothing : front ++ unread now ≡ [] = ap (λ xs. xs ++ unread now) after.1 ∙ (so.at_end after.0).0 in
      let short = ap length nothing in
      elim (closes (front ++ unread now) (long front so.so_far)) [
        | inl e ↦ subst (λ l. EndsAgain (Ok l)) (sym e.1) tt
        | inr l ↦ absurd (omega (arith, l.0))
      ]
