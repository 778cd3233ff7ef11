-- What the reading keeps from line to line: the lines that were read, and the bytes that went for them.
use Rattle.std.proofs.Common.{◌≡◌, ℕ, ◌+◌, ◌-◌, ◌^◌, ◌<◌, ◌≤◌, List, [], ◌∷◌, ◌++◌, length, map, take, Option, Some, None, Result, Ok, Err, inl, inr, refl, sym, ap, subst, ◌∙◌, append-nil, append_assoc, length-append, arith}
use Rattle.std.specs.Prelude.{Bool, false, IsTrue, ◌⊎◌, Vec, All, IfOk}
use Rattle.std.proofs.lemmas.Bool.{false≢true}
use Rattle.std.proofs.lemmas.List.{length-map, map-append, take_at}
use Rattle.std.proofs.Math.Seq.{take-append-add}
use Rattle.std.proofs.lemmas.Option.{none-some}
use Rattle.spb_edge.specs.declared.reader.Line.{Line}
use Rattle.spb_edge.specs.declared.reader.Line.TheVariants.{Text, Long, End}
use Rattle.spb_edge.specs.declared.reader.EdgeError.{EdgeError}
use Rattle.spb_edge.specs.declared.reader.EdgeError.TheVariants as edge
use Rattle.spb_edge.specs.declared.reader.LineReader.{LineReader}
use Rattle.spb_edge.specs.declared.source.Source as source
use Rattle.spb_edge.specs.Known.{with_prefix, with_prefix-nil, with_prefix-append}
use Rattle.spb_edge.specs.Lines.{HasNoLf, line_of, lines_of, ended_lines}
use Rattle.spb_edge.specs.LineLaws.{lines_of-nil, lines_of-ended, lines_of-last, ended_lines-ended, ended_lines-none}
use Rattle.spb_edge.specs.Reader.{unread, rest, taken, faults, has_ended, CanTakeLine, EndsAgain, TakesOff, IsLineAt, IsTakenFor, NothingLeft, HasLineCause, LowersBudget}
use Rattle.metrics_builtin.specs.declared.Space.{Space}
use Rattle.metrics_builtin.specs.Space.{IsValid}
use Rattle.spb_defs.specs.declared.TheConstants.{LINE_LIMIT}
use Rattle.sample_lines.specs.declared.samples.SampleError.{SampleError}
use Rattle.sample_lines.specs.declared.samples.SampleError.TheVariants.{ReadFault, InputLimit, NoSample, BadSample, Memory}
use Rattle.sample_lines.specs.SampleLines.{sample_of, AreSampleLines, AreAllSamples, first_kept}
use Rattle.sample_lines.specs.Answers.{TakesFront, RefusesScript, AnswersScript, IsCausedBy, HasSampleCause, AreKept, Completes, EndsWith, ReadsSample, stopped_by}
use Rattle.sample_lines.proofs.Keeping.{kept-few, kept-some, kept-none}

-- whatever follows the bytes, their lines come first
abbrev pub AreWhole : List Line → List ℕ → Type 0
AreWhole lines took = (more : List ℕ)
    → (lines_of LINE_LIMIT (took ++ more) ≡ lines ++ lines_of LINE_LIMIT more) × (ended_lines LINE_LIMIT (took ++ more) ≡ lines ++ ended_lines LINE_LIMIT more)

-- the lines of the bytes: whole ones, until the source has ended
abbrev pub AreRead : List Line → List ℕ → Bool → Type 0
AreRead lines took ended = AreWhole lines took ⊎ (IsTrue ended × (lines_of LINE_LIMIT took ≡ lines))

-- a reader that was new gave these lines, for which these bytes went
pub record Reading {S : Type 0} {G : source.Ghosts S} (reader now : LineReader S G) (lines : List Line) (took : List ℕ) : Type 0 where
  pub front : rest reader ≡ with_prefix took (rest now)
  pub count : length took + length (unread now) ≡ taken now
  pub is_open : CanTakeLine now
  pub source : faults reader ≤ faults now
  pub read : AreRead lines took (has_ended now)
  pub none : length lines ≡ 0 → length took ≡ 0

-- before the first line
pub Reading-start : {S : Type 0} {G : source.Ghosts S} (reader : LineReader S G) → taken reader ≡ 0 → unread reader ≡ [] → has_ended reader ≡ false
    → Reading reader reader [] []
Reading-start reader none empty running = record {
  front = sym (with_prefix-nil (rest reader));
  count = omega (arith, ap length empty, none);
  is_open = record { total = omega (arith, none); ended = λ ended. absurd (false≢true (sym running ∙ ended)) };
  source = omega arith;
  read = inl (λ more. (refl, refl));
  none = λ none. refl;
}

-- ---- lines

some_is : {A : Type 0} {x y : A} → Some x ≡ Some y → x ≡ y
some_is e = cc

-- the first n of two lists, all of the first among them
take_over : {A : Type 0} (n : ℕ) (xs ys : List A) → length xs ≤ n → take n (xs ++ ys) ≡ xs ++ take (n - length xs) ys
take_over n xs ys within =
    let parts : n ≡ length xs + (n - length xs) = omega (arith, within) in
    ap (λ m. take m (xs ++ ys)) parts ∙ take-append-add xs ys (n - length xs)

abbrev some_object : List ℕ → Option (List ℕ)
some_object object = Some object

no_item : {A : Type 0} (xs : List A) → length xs ≡ 0 → xs ≡ []
no_item [] none = refl
no_item (x ∷ xs) none = absurd (omega (arith, none))

-- a line that is answered isn't the end, so the source hadn't ended
pub running : (line : Line) → (line ≡ End → ⊥) → EndsAgain (Ok line) → ⊥
running (Text text) not_end again = again
running Long not_end again = again
running End not_end again = not_end refl

-- the bytes of a line that is answered
pub line_at : (line : Line) (bytes : List ℕ) (left : Option (List ℕ)) (ended : Bool) → (line ≡ End → ⊥) → IsTakenFor LINE_LIMIT (Ok line) bytes left ended
    → IsLineAt LINE_LIMIT line bytes left ended
line_at (Text text) bytes left ended not_end at = at
line_at Long bytes left ended not_end at = at
line_at End bytes left ended not_end at = absurd (not_end refl)

-- the lines were whole if the source hadn't ended
whole_of : (lines : List Line) (took : List ℕ) (ended : Bool) → AreRead lines took ended → (IsTrue ended → ⊥) → AreWhole lines took
whole_of lines took ended (inl whole) not_ended = whole
whole_of lines took ended (inr end) not_ended = absurd (not_ended end.0)

-- all lines were read if nothing follows
lines_are : (lines : List Line) (took : List ℕ) (ended : Bool) → AreRead lines took ended → lines_of LINE_LIMIT took ≡ lines
lines_are lines took ended (inl whole) =
    ap (lines_of LINE_LIMIT) (sym (append-nil took)) ∙ (whole []).0 ∙ ap (λ ls. lines ++ ls) (lines_of-nil LINE_LIMIT) ∙ append-nil lines
lines_are lines took ended (inr end) = end.1

module _ (lines : List Line) (took : List ℕ) (whole : AreWhole lines took) (line : Line) (piece : List ℕ) (none : HasNoLf piece)
    (is : line ≡ line_of LINE_LIMIT piece) where
  -- one more that an LF ends
  whole_line : (bytes : List ℕ) → bytes ≡ piece ++ 10 ∷ [] → (more : List ℕ)
      → (lines_of LINE_LIMIT (took ++ bytes ++ more) ≡ lines ++ line ∷ lines_of LINE_LIMIT more)
      × (ended_lines LINE_LIMIT (took ++ bytes ++ more) ≡ lines ++ line ∷ ended_lines LINE_LIMIT more)
  whole_line bytes lf more =
      let cells : bytes ++ more ≡ piece ++ 10 ∷ more = ap (λ xs. xs ++ more) lf ∙ append_assoc piece (10 ∷ []) more in (
        ap (lines_of LINE_LIMIT) (append_assoc took bytes more) ∙ (whole (bytes ++ more)).0
            ∙ ap (λ ls. lines ++ ls)
            (ap (lines_of LINE_LIMIT) cells ∙ lines_of-ended LINE_LIMIT piece more none ∙ ap (λ l. l ∷ lines_of LINE_LIMIT more) (sym is)),
        ap (ended_lines LINE_LIMIT) (append_assoc took bytes more) ∙ (whole (bytes ++ more)).1
            ∙ ap (λ ls. lines ++ ls)
            (ap (ended_lines LINE_LIMIT) cells ∙ ended_lines-ended LINE_LIMIT piece more none ∙ ap (λ l. l ∷ ended_lines LINE_LIMIT more) (sym is)),
      )

  -- the last one, which the end of the stream ends
  last_line : (bytes : List ℕ) → bytes ≡ piece → 0 < length piece → lines_of LINE_LIMIT (took ++ bytes) ≡ lines ++ line ∷ []
  last_line bytes all some =
      (whole bytes).0
      ∙ ap (λ ls. lines ++ ls)
      (ap (lines_of LINE_LIMIT) all ∙ lines_of-last LINE_LIMIT piece none some ∙ ap (λ l. l ∷ []) (sym is))

-- one more line was read
AreRead-line : (lines : List Line) (took : List ℕ) (line : Line) (bytes : List ℕ) (left : Option (List ℕ)) (ended : Bool) → AreWhole lines took
    → IsLineAt LINE_LIMIT line bytes left ended → AreRead (lines ++ line ∷ []) (took ++ bytes) ended
AreRead-line lines took line bytes left ended whole (piece, none, is, inl lf) =
    inl (λ more.
    let both = whole_line lines took whole line piece none is bytes lf more in (
      both.0 ∙ sym (append_assoc lines (line ∷ []) (lines_of LINE_LIMIT more)),
      both.1 ∙ sym (append_assoc lines (line ∷ []) (ended_lines LINE_LIMIT more)),
    ))
AreRead-line lines took line bytes left ended whole (piece, none, is, inr last) =
    inr (last.3, last_line lines took whole line piece none is bytes last.0 last.1)

-- each line lowers the budget
pub lowers : (line : Line) (before now : ℕ) → (line ≡ End → ⊥) → LowersBudget (Ok line) before now → now < before
lowers (Text text) before now not_end less = less
lowers Long before now not_end less = less
lowers End before now not_end less = absurd (not_end refl)

-- one more is a sample
pub AreSampleLines-line : (space : Space) (lines : List Line) (objects : List (List ℕ)) (line : Line) (object : List ℕ) → AreSampleLines space lines objects
    → sample_of space line ≡ Some object → AreSampleLines space (lines ++ line ∷ []) (objects ++ object ∷ [])
AreSampleLines-line space lines objects line object samples is =
    map-append (sample_of space) lines (line ∷ []) ∙ ap (λ os. os ++ sample_of space line ∷ []) samples
    ∙ ap (λ o. map Some objects ++ o ∷ []) is ∙ sym (map-append Some objects (object ∷ []))

-- ---- a call of the reader

-- what is known begins with the prefix, and the rest is known too
behind_told : (front left : List ℕ) (behind : Option (List ℕ)) → with_prefix front behind ≡ Some left → (back : List ℕ) × (behind ≡ Some back)
    × (left ≡ front ++ back)
behind_told front left None at = absurd (none-some left at)
behind_told front left (Some back) at = (back, refl, sym (some_is at))

module _ {S : Type 0} {G : source.Ghosts S} (reader now : LineReader S G) (lines : List Line) (took : List ℕ) (so : Reading reader now lines took)
    (new : LineReader S G) (bytes : List ℕ) (off : TakesOff now new bytes) where
  front_after : rest reader ≡ with_prefix (took ++ bytes) (rest new)
  front_after = so.front ∙ ap (with_prefix took) off.front ∙ sym (with_prefix-append took bytes (rest new))

  count_after : length (took ++ bytes) + length (unread new) ≡ taken new
  count_after = let before = so.count in let counted = off.count in omega (arith, before, counted, length-append took bytes)

  -- one line more
  pub Reading-line : (line : Line) → CanTakeLine new → faults now ≤ faults new → (IsTrue (has_ended now) → ⊥)
      → IsLineAt LINE_LIMIT line bytes (rest new) (has_ended new) → Reading reader new (lines ++ line ∷ []) (took ++ bytes)
  Reading-line line is_open grew not_ended how = record {
    front = front_after;
    count = count_after;
    is_open = is_open;
    source = let before = so.source in omega (arith, before, grew);
    read = AreRead-line lines took line bytes (rest new) (has_ended new) (whole_of lines took (has_ended now) so.read not_ended) how;
    none = λ none. absurd (omega (arith, none, length-append lines (line ∷ [])));
  }

  module _ (script : List ℕ) (told : rest reader ≡ Some script) where
    -- what was taken, unread bytes among it, is a front of the input
    pub takes_front : TakesFront script (G.left new.source.now)
    takes_front = (
      (took ++ bytes) ++ unread new,
      sym told ∙ front_after ∙ sym (with_prefix-append (took ++ bytes) (unread new) (G.left new.source.now)),
    )

    left_after : (back : List ℕ) × (rest new ≡ Some back) × (script ≡ (took ++ bytes) ++ back)
    left_after = behind_told (took ++ bytes) script (rest new) (sym front_after ∙ told)

    -- nothing is left: the script is what was taken
    script_ended : NothingLeft (rest new) → script ≡ took ++ bytes
    script_ended nothing =
        let after = left_after in
        let none : after.0 ≡ [] = subst NothingLeft after.1 nothing in
        after.2 ∙ ap (λ xs. (took ++ bytes) ++ xs) none ∙ append-nil (took ++ bytes)

    source_ended : NothingLeft (rest new) → G.left new.source.now ≡ Some []
    source_ended nothing =
        let after = left_after in
        let none : after.0 ≡ [] = subst NothingLeft after.1 nothing in
        let behind = behind_told (unread new) after.0 (G.left new.source.now) after.1 in
        let short = ap length (sym behind.2 ∙ none) in
        behind.1 ∙ ap Some (no_item behind.0 (omega (arith, short, length-append (unread new) behind.0)))

    within_limit : NothingLeft (rest new) → taken new ≤ 2 ^ 30 → length script ≤ 2 ^ 30
    within_limit nothing within = let all = ap length (script_ended nothing) in omega (arith, count_after, within, all)

    -- ---- the answers

    module _ (space : Space) where
      -- a line is no sample, and those before it are
      refused_line : AreAllSamples space lines → (IsTrue (has_ended now) → ⊥) → taken new ≤ 2 ^ 30 → (line : Line) → sample_of space line ≡ None
          → IsLineAt LINE_LIMIT line bytes (rest new) (has_ended new) → (number : ℕ) → number ≡ length lines + 1
          → RefusesScript (BadSample number) space script (G.left new.source.now)
      refused_line samples not_ended within line bad (piece, none, is, inl lf) number number_is =
          let whole = whole_of lines took (has_ended now) so.read not_ended in
          let after = left_after in
          let both = whole_line lines took whole line piece none is bytes lf in
          let room : length (took ++ bytes) ≤ 2 ^ 30 = omega (arith, count_after, within) in
          let kept : take (2 ^ 30) script ≡ (took ++ bytes) ++ take (2 ^ 30 - length (took ++ bytes)) after.0 =
          ap (take (2 ^ 30)) after.2 ∙ take_over (2 ^ 30) (took ++ bytes) after.0 room in (
            record {
              before = lines;
              bad = line;
              behind = lines_of LINE_LIMIT after.0;
              split = ap (lines_of LINE_LIMIT) after.2 ∙ (both after.0).0;
              number_is = number_is;
              samples = samples;
              none = bad;
            },
            inr record {
              before = lines;
              bad = line;
              behind = ended_lines LINE_LIMIT (take (2 ^ 30 - length (took ++ bytes)) after.0);
              split = ap (ended_lines LINE_LIMIT) kept ∙ (both (take (2 ^ 30 - length (took ++ bytes)) after.0)).1;
              number_is = number_is;
              samples = samples;
              none = bad;
            },
          )
      refused_line samples not_ended within line bad (piece, none, is, inr last) number number_is =
          let whole = whole_of lines took (has_ended now) so.read not_ended in (
            record {
              before = lines;
              bad = line;
              behind = [];
              split = ap (lines_of LINE_LIMIT) (script_ended last.2) ∙ last_line lines took whole line piece none is bytes last.0 last.1;
              number_is = number_is;
              samples = samples;
              none = bad;
            },
            inl (within_limit last.2 within),
          )

      -- or memory ran out
      pub refused : AreAllSamples space lines → (IsTrue (has_ended now) → ⊥) → taken new ≤ 2 ^ 30 → (line : Line)
          → IsLineAt LINE_LIMIT line bytes (rest new) (has_ended new) → (number : ℕ) → number ≡ length lines + 1
          → (e : SampleError) → ReadsSample (Err e) (sample_of space line) number → RefusesScript e space script (G.left new.source.now)
      refused samples not_ended within line how number number_is (BadSample bad) (none, is) =
          refused_line samples not_ended within line none how bad (is ∙ number_is)
      refused samples not_ended within line how number number_is NoSample read = absurd read
      refused samples not_ended within line how number number_is InputLimit read = absurd read
      refused samples not_ended within line how number number_is ReadFault read = absurd read
      refused samples not_ended within line how number number_is Memory read = tt

      -- no line came
      pub stopped : AreAllSamples space lines → (e : EdgeError) → HasLineCause (Err e) (faults now) (faults new) (taken new) (length (unread new))
          → HasNoLf bytes → (IsTrue (has_ended now) → EndsAgain (Err e)) → RefusesScript (stopped_by e) space script (G.left new.source.now)
      stopped (objects, samples) edge.ReadFault cause none not_ended =
          let whole = whole_of lines took (has_ended now) so.read not_ended in
          let read : ended_lines LINE_LIMIT (took ++ bytes) ≡ lines =
          (whole bytes).1 ∙ ap (λ ls. lines ++ ls) (ended_lines-none LINE_LIMIT bytes none) ∙ append-nil lines in
          let all : rest new ≡ G.left new.source.now =
          ap (λ xs. with_prefix xs (G.left new.source.now)) (no_item (unread new) cause.3) ∙ with_prefix-nil (G.left new.source.now) in (
            took ++ bytes,
            sym told ∙ front_after ∙ ap (with_prefix (took ++ bytes)) all,
            (objects, ap (map (sample_of space)) read ∙ samples),
          )
      stopped (objects, samples) edge.InputLimit cause none not_ended =
          let whole = whole_of lines took (has_ended now) so.read not_ended in
          let read : ended_lines LINE_LIMIT (took ++ bytes) ≡ lines =
          (whole bytes).1 ∙ ap (λ ls. lines ++ ls) (ended_lines-none LINE_LIMIT bytes none) ∙ append-nil lines in
          let after = left_after in
          let behind = behind_told (unread new) after.0 (G.left new.source.now) after.1 in
          let long : length (took ++ bytes) ≡ 2 ^ 30 = omega (arith, count_after, cause.2) in
          let within : take (2 ^ 30) script ≡ took ++ bytes = ap (take (2 ^ 30)) after.2 ∙ take_at (took ++ bytes) after.0 (2 ^ 30) long in
          let whole_length = ap length after.2 in
          let left_length = ap length behind.2 in (
            omega
                (arith, long, cause.1, whole_length, left_length, length-append (took ++ bytes) after.0, length-append (unread new) behind.0),
            (objects, ap (λ xs. map (sample_of space) (ended_lines LINE_LIMIT xs)) within ∙ ap (map (sample_of space)) read ∙ samples),
          )
      stopped samples edge.Memory cause none not_ended = tt

      -- the input ended
      pub ended : (nothing : NothingLeft (rest new)) → bytes ≡ [] → taken new ≤ 2 ^ 30 → (objects kept : List (List ℕ)) → AreSampleLines space lines objects
          → kept ≡ first_kept objects → {V : Type 0} (result : Result (Vec (List ℕ) V) SampleError) → EndsWith result kept
          → AnswersScript result space script (G.left new.source.now)
      ended nothing no_byte within objects kept samples is (Ok given) with = (
        record {
          objects = objects;
          samples = ap (map (sample_of space))
              (ap (lines_of LINE_LIMIT) (script_ended nothing ∙ ap (λ xs. took ++ xs) no_byte ∙ append-nil took) ∙ lines_are lines took (has_ended now) so.read)
              ∙ samples;
          some = kept-some objects kept is with.1;
          kept_is = with.0 ∙ is;
        },
        within_limit nothing within,
        source_ended nothing,
      )
      ended nothing no_byte within objects kept samples is (Err NoSample) with =
          let no_object = kept-none objects kept is (ap length with) in
          let as_many = ap length samples in
          let no_line : length lines ≡ 0 =
          omega (arith, no_object, as_many, length-map lines (sample_of space), length-map objects some_object) in
          let nowhere = so.none no_line in (
            script_ended nothing ∙ ap (λ xs. took ++ xs) no_byte ∙ append-nil took ∙ no_item took nowhere,
            source_ended nothing,
          )
      ended nothing no_byte within objects kept samples is (Err (BadSample line)) with = absurd with
      ended nothing no_byte within objects kept samples is (Err InputLimit) with = absurd with
      ended nothing no_byte within objects kept samples is (Err ReadFault) with = absurd with
      ended nothing no_byte within objects kept samples is (Err Memory) with = absurd with

-- ---- the other clauses

-- why no line came
pub stopped_cause : (e : EdgeError) (before between now total unread : ℕ) → before ≤ between → HasLineCause (Err e) between now total unread
    → IsCausedBy (stopped_by e) before now
stopped_cause edge.ReadFault before between now total unread grew cause = (omega (arith, grew, cause.0), omega (arith, grew, cause.1))
stopped_cause edge.InputLimit before between now total unread grew cause = omega (arith, grew, cause.0)
stopped_cause edge.Memory before between now total unread grew cause = omega (arith, grew, cause.0)

-- what is kept at the end
pub kept_at_end : (space : Space) (objects kept : List (List ℕ)) → kept ≡ first_kept objects → All (IsValid space) kept → {V : Type 0}
    (result : Result (Vec (List ℕ) V) SampleError) → EndsWith result kept → IfOk result (λ samples. AreKept space samples.items)
kept_at_end space objects kept is valid (Ok given) with =
    let few = kept-few objects kept is in
    let same = ap length with.0 in
    let some = with.1 in record {
      valid = subst (All (IsValid space)) (sym with.0) valid;
      some = omega (arith, same, some);
      few = omega (arith, same, few);
    }
kept_at_end space objects kept is valid (Err e) with = tt

-- a script within the limit is decided if no fault was counted
pub completed : {V : Type 0} (result : Result (Vec (List ℕ) V) SampleError) (space : Space) (input left : Option (List ℕ)) (before now : ℕ)
    → ((script : List ℕ) → input ≡ Some script → AnswersScript result space script left) → HasSampleCause result before now
    → Completes result input before now
completed (Ok kept) space input left before now answers cause script told within none = tt
completed (Err NoSample) space input left before now answers cause script told within none = tt
completed (Err (BadSample line)) space input left before now answers cause script told within none = tt
completed (Err InputLimit) space input left before now answers cause script told within none =
    let past = (answers script told).0 in absurd (omega (arith, within, past))
completed (Err ReadFault) space input left before now answers cause script told within none = absurd (none cause.1)
completed (Err Memory) space input left before now answers cause script told within none = tt
