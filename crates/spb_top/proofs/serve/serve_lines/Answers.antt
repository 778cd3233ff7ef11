use Rattle.std.proofs.Common.{◌≡◌, [], ◌∷◌, ◌++◌, Ok, refl, subst, sym, ap, ◌∙◌, arith}
use Rattle.std.proofs.lemmas.Bool.{false≢true}
use Rattle.spb_edge.specs.declared.reader.Line.TheVariants.{End}
use Rattle.spb_edge.specs.Lines.{lines_of}
use Rattle.spb_edge.specs.Known.{with_suffix-nil, with_suffix}
use Rattle.spb_edge.specs.Reader.{rest, has_ended, IsTakenFor, IsNextLine}
use Rattle.spb_defs.specs.declared.TheConstants.{LINE_LIMIT}
use Rattle.spb_defs.specs.Step.{reply}
use Rattle.spb_defs.specs.ReplyText.{reply_text}
use Rattle.spb_defs.specs.Play.{play_lines}
use Rattle.spb_defs.specs.Changes.{state_after_lines}
use Rattle.spb_top.specs.declared.status.Status.TheVariants.{WriteFault}
use Rattle.spb_top.proofs.Running.{Serving-start, GoesOn-start, Serving-line, GoesOn-line, laws_of, left_so_far, left_between, left_after_turn, left_by_turn, left_by_part, split_so_far, split_next, split_all, front_so_far, front_of_reply, line_at, text_stopped, cause_done, cause_stopped, turn_text, turn_is_not_done, LeavesInput-front, LeavesInput-done, stopped_is_not_done}
use Rattle.spb_top.proofs.serve.serve_lines.Goals as goal

-- ---- memory runs out before the first line

pub returns-in_default-clause-any_moment : goal.returns-in_default-clause-any_moment
returns-in_default-clause-any_moment g c = λ first holds script told.
    let turns = g.T.Turns in
    let met = g.met.T.Turns in
    let session = c.args.session.now in
    let laws = laws_of turns.holds turns.leaves turns.left_now met.leaves_same met.leaves_joined met.leaves_more met.leaves_now in
    let on = GoesOn-start turns.holds turns.leaves session first holds (met.leaves_same session first holds) in
    let all = lines_of LINE_LIMIT script in left_so_far turns.holds turns.leaves turns.left_now laws first session session [] [] on all all refl

pub returns-in_default-clause-acknowledged : goal.returns-in_default-clause-acknowledged
returns-in_default-clause-acknowledged g c = λ first holds script told before final was is many answered.
    let turns = g.T.Turns in
    let met = g.met.T.Turns in
    let session = c.args.session.now in
    let taken = g.K.Sink.taken c.args.output.now in
    let laws = laws_of turns.holds turns.leaves turns.left_now met.leaves_same met.leaves_joined met.leaves_more met.leaves_now in
    let on = GoesOn-start turns.holds turns.leaves session first holds (met.leaves_same session first holds) in
    let all = lines_of LINE_LIMIT script in
    left_between turns.holds turns.leaves turns.left_now laws first session session [] [] on all all refl taken taken before final many was is
    (sym (with_suffix-nil taken)) answered

-- ---- from line to line

pub loop-line-init : goal.loop-line-init
loop-line-init g c =
    let turns = g.T.Turns in (
      [],
      (
        [],
        record {
          name = refl;
          session = refl;
          told = refl;
          space = refl;
          running = c.requires.open;
          disk = omega arith;
          serving = Serving-start c.args.reader.now c.requires.nothing_taken c.requires.nothing_unread g.K.Sink c.args.output.now c.requires.not_ended;
          goes_on = λ first holds.
              GoesOn-start turns.holds turns.leaves c.args.session.now first holds (g.met.T.Turns.leaves_same c.args.session.now first holds);
        },
      ),
    )

pub loop-line-preserved-in-Ok-put_all : goal.loop-line-preserved-in-Ok-put_all
loop-line-preserved-in-Ok-put_all g c =
    let turns = g.T.Turns in
    let met = g.met.T.Turns in
    let line = c.in-Ok-take_line.line in
    let not_end : line ≡ End → ⊥ = λ e. false≢true (sym c.if-is_end.false ∙ c.is_end.ensures.1 e) in
    let (written, (lines, kept)) = c.loop-line.invariant in
    let consumed = c.in-Ok-take_line.ensures.consumed in
    let read = c.in-Ok-take_line.ensures.cause in
    let how = line_at line consumed.0 (rest c.take_line.new.self) (has_ended c.take_line.new.self) not_end consumed.2 in
    let laws = laws_of turns.holds turns.leaves turns.left_now met.leaves_same met.leaves_joined met.leaves_more met.leaves_now in (
      written ++ c.as_slice.result.now,
      (
        lines ++ line ∷ [],
        record {
          name = c.take_line.ensures.name ∙ kept.name;
          session = c.take_turn.ensures.name ∙ kept.session;
          told = c.take_turn.ensures.told ∙ kept.told;
          space = c.take_turn.ensures.space ∙ kept.space;
          running = c.in_default-take_turn.ensures.open;
          disk = let before = kept.disk in let turn = c.in_default-take_turn.ensures.stops in omega (arith, before, turn);
          serving = Serving-line g.S.Source g.K.Sink c.args.reader.now c.args.output.now c.loop-line.reader c.loop-line.output written lines kept.serving
              c.take_line.new.self consumed.0 consumed.1 c.put_all.new.sink line c.as_slice.result.now not_end c.in-Ok-take_line.ensures.line
              c.in-Ok-take_line.ensures.after_end how c.in-Ok-take_line.ensures.open read.0 c.in-Ok-put_all.ensures.puts c.in-Ok-put_all.ensures.fault;
          goes_on = λ first holds.
              let on = kept.goes_on first holds in
              let state = state_after_lines first lines in
              let said = c.as_slice.ensures ∙ c.in_default-take_turn.ensures.text state on.held
              ∙ ap (λ space. reply_text space (reply state line)) (sym c.requires.space ∙ sym kept.space ∙ sym (met.space_held c.loop-line.session state on.held)) in
              GoesOn-line turns.holds turns.leaves turns.left_now laws first c.args.session.now c.loop-line.session written lines on c.take_turn.new.session line
              (c.take_turn.ensures.any_moment state on.held) c.as_slice.result.now said (c.in_default-take_turn.ensures.next state on.held);
        },
      ),
    )

pub loop-line-preserved : goal.loop-line-preserved
loop-line-preserved g c =
    let turns = g.T.Turns in
    let met = g.met.T.Turns in
    let line = c.in-Ok-take_line.line in
    let not_end : line ≡ End → ⊥ = λ e. false≢true (sym c.if-is_end.false ∙ c.is_end.ensures.1 e) in
    let (written, (lines, kept)) = c.loop-line.invariant in
    let consumed = c.in-Ok-take_line.ensures.consumed in
    let read = c.in-Ok-take_line.ensures.cause in
    let how = line_at line consumed.0 (rest c.take_line.new.self) (has_ended c.take_line.new.self) not_end consumed.2 in
    let laws = laws_of turns.holds turns.leaves turns.left_now met.leaves_same met.leaves_joined met.leaves_more met.leaves_now in (
      written ++ c.as_slice.result.now,
      (
        lines ++ line ∷ [],
        record {
          name = c.take_line.ensures.name ∙ kept.name;
          session = c.take_turn.ensures.name ∙ kept.session;
          told = c.take_turn.ensures.told ∙ kept.told;
          space = c.take_turn.ensures.space ∙ kept.space;
          running = c.in_default-take_turn.ensures.open;
          disk = let before = kept.disk in let turn = c.in_default-take_turn.ensures.stops in omega (arith, before, turn);
          serving = Serving-line g.S.Source g.K.Sink c.args.reader.now c.args.output.now c.loop-line.reader c.loop-line.output written lines kept.serving
              c.take_line.new.self consumed.0 consumed.1 c.put_all.new.sink line c.as_slice.result.now not_end c.in-Ok-take_line.ensures.line
              c.in-Ok-take_line.ensures.after_end how c.in-Ok-take_line.ensures.open read.0 c.in-Ok-put_all.ensures.puts c.in-Ok-put_all.ensures.fault;
          goes_on = λ first holds.
              let on = kept.goes_on first holds in
              let state = state_after_lines first lines in
              let said = c.as_slice.ensures ∙ c.in_default-take_turn.ensures.text state on.held
              ∙ ap (λ space. reply_text space (reply state line)) (sym c.requires.space ∙ sym kept.space ∙ sym (met.space_held c.loop-line.session state on.held)) in
              GoesOn-line turns.holds turns.leaves turns.left_now laws first c.args.session.now c.loop-line.session written lines on c.take_turn.new.session line
              (c.take_turn.ensures.any_moment state on.held) c.as_slice.result.now said (c.in_default-take_turn.ensures.next state on.held);
        },
      ),
    )

-- ---- the input ends

pub returns-then-is_end-clause-text : goal.returns-then-is_end-clause-text
returns-then-is_end-clause-text g c = λ first holds script told.
    let (written, (lines, kept)) = c.loop-line.invariant in
    let comes = subst (λ line. IsNextLine LINE_LIMIT line (rest c.loop-line.reader) (rest c.take_line.new.self)) (c.is_end.ensures.0 c.if-is_end.true)
    c.in-Ok-take_line.ensures.line in
    let all = split_all g.S.Source g.K.Sink c.args.reader.now c.args.output.now c.loop-line.reader c.loop-line.output written lines kept.serving
    c.take_line.new.self comes script told in
    kept.serving.wrote ∙ ap (with_suffix (g.K.Sink.taken c.args.output.now)) ((kept.goes_on first holds).text ∙ ap (play_lines first) all)

pub returns-then-is_end-clause-done : goal.returns-then-is_end-clause-done
returns-then-is_end-clause-done g c = λ first holds script told done.
    let (written, (lines, kept)) = c.loop-line.invariant in
    let comes = subst (λ line. IsNextLine LINE_LIMIT line (rest c.loop-line.reader) (rest c.take_line.new.self)) (c.is_end.ensures.0 c.if-is_end.true)
    c.in-Ok-take_line.ensures.line in
    let all = split_all g.S.Source g.K.Sink c.args.reader.now c.args.output.now c.loop-line.reader c.loop-line.output written lines kept.serving
    c.take_line.new.self comes script told in
    subst (λ ls. g.T.Turns.holds c.loop-line.session (state_after_lines first ls)) all (kept.goes_on first holds).held

pub returns-then-is_end-clause-any_moment : goal.returns-then-is_end-clause-any_moment
returns-then-is_end-clause-any_moment g c = λ first holds script told.
    let turns = g.T.Turns in
    let met = g.met.T.Turns in
    let (written, (lines, kept)) = c.loop-line.invariant in
    let split = split_so_far g.S.Source g.K.Sink c.args.reader.now c.args.output.now c.loop-line.reader c.loop-line.output written lines kept.serving script told in
    let laws = laws_of turns.holds turns.leaves turns.left_now met.leaves_same met.leaves_joined met.leaves_more met.leaves_now in
    left_so_far turns.holds turns.leaves turns.left_now laws first c.args.session.now c.loop-line.session written lines (kept.goes_on first holds)
    (lines_of LINE_LIMIT script) split.0 split.1

pub returns-then-is_end-clause-acknowledged : goal.returns-then-is_end-clause-acknowledged
returns-then-is_end-clause-acknowledged g c = λ first holds script told before final was is many answered.
    let turns = g.T.Turns in
    let met = g.met.T.Turns in
    let (written, (lines, kept)) = c.loop-line.invariant in
    let split = split_so_far g.S.Source g.K.Sink c.args.reader.now c.args.output.now c.loop-line.reader c.loop-line.output written lines kept.serving script told in
    let laws = laws_of turns.holds turns.leaves turns.left_now met.leaves_same met.leaves_joined met.leaves_more met.leaves_now in
    left_between turns.holds turns.leaves turns.left_now laws first c.args.session.now c.loop-line.session written lines (kept.goes_on first holds)
    (lines_of LINE_LIMIT script) split.0 split.1 (g.K.Sink.taken c.args.output.now) (g.K.Sink.taken c.loop-line.output) before final many was is
    kept.serving.wrote answered

pub returns-then-is_end-clause-input : goal.returns-then-is_end-clause-input
returns-then-is_end-clause-input g c =
    let (written, (lines, kept)) = c.loop-line.invariant in
    let consumed = c.in-Ok-take_line.ensures.consumed in
    let end = c.is_end.ensures.0 c.if-is_end.true in
    let spells = subst (λ line. IsTakenFor LINE_LIMIT (Ok line) consumed.0 (rest c.take_line.new.self) (has_ended c.take_line.new.self)) end consumed.2 in
    LeavesInput-done g.S.Source g.K.Sink c.args.reader.now c.args.output.now c.loop-line.reader c.loop-line.output written lines kept.serving
    c.take_line.new.self consumed.0 consumed.1 spells.1

pub returns-then-is_end-clause-cause : goal.returns-then-is_end-clause-cause
returns-then-is_end-clause-cause g c =
    let (written, (lines, kept)) = c.loop-line.invariant in
    let consumed = c.in-Ok-take_line.ensures.consumed in
    let read = c.in-Ok-take_line.ensures.cause in
    let end = c.is_end.ensures.0 c.if-is_end.true in
    let spells = subst (λ line. IsTakenFor LINE_LIMIT (Ok line) consumed.0 (rest c.take_line.new.self) (has_ended c.take_line.new.self)) end consumed.2 in
    cause_done g.S.Source g.K.Sink c.args.reader.now c.args.output.now c.loop-line.reader c.loop-line.output written lines kept.serving c.take_line.new.self
    consumed.0 consumed.1 (g.T.Turns.faults c.args.session.now) (g.T.Turns.faults c.loop-line.session) read.1 spells.1

-- ---- the reader stops

pub returns-in-Err-clause-text : goal.returns-in-Err-clause-text
returns-in-Err-clause-text g c = λ first holds.
    let (written, (lines, kept)) = c.loop-line.invariant in
    let consumed = c.take_line.ensures.consumed in
    text_stopped g.S.Source g.K.Sink c.args.reader.now c.args.output.now c.loop-line.reader c.loop-line.output written lines kept.serving c.take_line.new.self
    consumed.0 consumed.1 c.in-Err.e c.take_line.result c.in-Err.is c.take_line.ensures.cause consumed.2 c.take_line.ensures.after_end
    c.stopped_by.result c.stopped_by.ensures first (kept.goes_on first holds).text

pub returns-in-Err-clause-any_moment : goal.returns-in-Err-clause-any_moment
returns-in-Err-clause-any_moment g c = λ first holds script told.
    let turns = g.T.Turns in
    let met = g.met.T.Turns in
    let (written, (lines, kept)) = c.loop-line.invariant in
    let split = split_so_far g.S.Source g.K.Sink c.args.reader.now c.args.output.now c.loop-line.reader c.loop-line.output written lines kept.serving script told in
    let laws = laws_of turns.holds turns.leaves turns.left_now met.leaves_same met.leaves_joined met.leaves_more met.leaves_now in
    left_so_far turns.holds turns.leaves turns.left_now laws first c.args.session.now c.loop-line.session written lines (kept.goes_on first holds)
    (lines_of LINE_LIMIT script) split.0 split.1

pub returns-in-Err-clause-acknowledged : goal.returns-in-Err-clause-acknowledged
returns-in-Err-clause-acknowledged g c = λ first holds script told before final was is many answered.
    let turns = g.T.Turns in
    let met = g.met.T.Turns in
    let (written, (lines, kept)) = c.loop-line.invariant in
    let split = split_so_far g.S.Source g.K.Sink c.args.reader.now c.args.output.now c.loop-line.reader c.loop-line.output written lines kept.serving script told in
    let laws = laws_of turns.holds turns.leaves turns.left_now met.leaves_same met.leaves_joined met.leaves_more met.leaves_now in
    left_between turns.holds turns.leaves turns.left_now laws first c.args.session.now c.loop-line.session written lines (kept.goes_on first holds)
    (lines_of LINE_LIMIT script) split.0 split.1 (g.K.Sink.taken c.args.output.now) (g.K.Sink.taken c.loop-line.output) before final many was is
    kept.serving.wrote answered

pub returns-in-Err-clause-input : goal.returns-in-Err-clause-input
returns-in-Err-clause-input g c =
    let (written, (lines, kept)) = c.loop-line.invariant in
    let consumed = c.take_line.ensures.consumed in
    LeavesInput-front g.S.Source g.K.Sink c.args.reader.now c.args.output.now c.loop-line.reader c.loop-line.output written lines kept.serving
    c.take_line.new.self consumed.0 consumed.1 c.stopped_by.result (λ done. stopped_is_not_done c.in-Err.e (sym c.stopped_by.ensures ∙ done))

pub returns-in-Err-clause-cause : goal.returns-in-Err-clause-cause
returns-in-Err-clause-cause g c =
    let (written, (lines, kept)) = c.loop-line.invariant in
    let consumed = c.take_line.ensures.consumed in
    cause_stopped g.S.Source g.K.Sink c.args.reader.now c.args.output.now c.loop-line.reader c.loop-line.output written lines kept.serving c.take_line.new.self
    consumed.0 consumed.1 c.in-Err.e c.take_line.result c.in-Err.is c.take_line.ensures.cause (g.T.Turns.faults c.args.session.now)
    (g.T.Turns.faults c.loop-line.session) c.stopped_by.result c.stopped_by.ensures

-- ---- the session ends

pub returns-in-Err-take_turn-clause-text : goal.returns-in-Err-take_turn-clause-text
returns-in-Err-take_turn-clause-text g c = λ first holds script told.
    let (written, (lines, kept)) = c.loop-line.invariant in
    let taken = g.K.Sink.taken c.args.output.now in
    let taken' = g.K.Sink.taken c.loop-line.output in
    let split = split_so_far g.S.Source g.K.Sink c.args.reader.now c.args.output.now c.loop-line.reader c.loop-line.output written lines kept.serving script told in
    turn_text c.in-Err-take_turn.status (g.T.Turns.faults c.loop-line.session) (g.T.Turns.faults c.take_turn.new.session) first script
    (g.S.Source.left c.take_line.new.self.source.now) taken taken' c.in-Err-take_turn.ensures.stops
    (front_so_far first lines written (kept.goes_on first holds).text (lines_of LINE_LIMIT script) taken split.0 split.1 taken' kept.serving.wrote)

pub returns-in-Err-take_turn-clause-any_moment : goal.returns-in-Err-take_turn-clause-any_moment
returns-in-Err-take_turn-clause-any_moment g c = λ first holds script told.
    let turns = g.T.Turns in
    let met = g.met.T.Turns in
    let line = c.in-Ok-take_line.line in
    let not_end : line ≡ End → ⊥ = λ e. false≢true (sym c.if-is_end.false ∙ c.is_end.ensures.1 e) in
    let (written, (lines, kept)) = c.loop-line.invariant in
    let split = split_next g.S.Source g.K.Sink c.args.reader.now c.args.output.now c.loop-line.reader c.loop-line.output written lines kept.serving
    c.take_line.new.self line not_end c.in-Ok-take_line.ensures.line script told in
    let laws = laws_of turns.holds turns.leaves turns.left_now met.leaves_same met.leaves_joined met.leaves_more met.leaves_now in
    let on = kept.goes_on first holds in
    left_after_turn turns.holds turns.leaves turns.left_now laws first c.args.session.now c.loop-line.session written lines on c.take_turn.new.session line
    (c.take_turn.ensures.any_moment (state_after_lines first lines) on.held) (lines_of LINE_LIMIT script) split.0 split.1

pub returns-in-Err-take_turn-clause-acknowledged : goal.returns-in-Err-take_turn-clause-acknowledged
returns-in-Err-take_turn-clause-acknowledged g c = λ first holds script told before final was is many answered.
    let turns = g.T.Turns in
    let met = g.met.T.Turns in
    let line = c.in-Ok-take_line.line in
    let not_end : line ≡ End → ⊥ = λ e. false≢true (sym c.if-is_end.false ∙ c.is_end.ensures.1 e) in
    let (written, (lines, kept)) = c.loop-line.invariant in
    let split = split_next g.S.Source g.K.Sink c.args.reader.now c.args.output.now c.loop-line.reader c.loop-line.output written lines kept.serving
    c.take_line.new.self line not_end c.in-Ok-take_line.ensures.line script told in
    let laws = laws_of turns.holds turns.leaves turns.left_now met.leaves_same met.leaves_joined met.leaves_more met.leaves_now in
    let on = kept.goes_on first holds in
    left_by_turn turns.holds turns.leaves turns.left_now laws first c.args.session.now c.loop-line.session written lines on c.take_turn.new.session line
    (c.take_turn.ensures.any_moment (state_after_lines first lines) on.held) (lines_of LINE_LIMIT script) split.0 split.1
    (g.K.Sink.taken c.args.output.now) (g.K.Sink.taken c.loop-line.output) before final many was is answered kept.serving.wrote

pub returns-in-Err-take_turn-clause-input : goal.returns-in-Err-take_turn-clause-input
returns-in-Err-take_turn-clause-input g c =
    let (written, (lines, kept)) = c.loop-line.invariant in
    let consumed = c.in-Ok-take_line.ensures.consumed in
    let status = c.in-Err-take_turn.status in
    LeavesInput-front g.S.Source g.K.Sink c.args.reader.now c.args.output.now c.loop-line.reader c.loop-line.output written lines kept.serving
    c.take_line.new.self consumed.0 consumed.1 status
    (turn_is_not_done status (g.T.Turns.faults c.loop-line.session) (g.T.Turns.faults c.take_turn.new.session) c.in-Err-take_turn.ensures.stops)

-- ---- the sink fails

pub returns-in_default-put_all-clause-text : goal.returns-in_default-put_all-clause-text
returns-in_default-put_all-clause-text g c = λ first holds script told.
    let met = g.met.T.Turns in
    let line = c.in-Ok-take_line.line in
    let not_end : line ≡ End → ⊥ = λ e. false≢true (sym c.if-is_end.false ∙ c.is_end.ensures.1 e) in
    let (written, (lines, kept)) = c.loop-line.invariant in
    let split = split_next g.S.Source g.K.Sink c.args.reader.now c.args.output.now c.loop-line.reader c.loop-line.output written lines kept.serving
    c.take_line.new.self line not_end c.in-Ok-take_line.ensures.line script told in
    let on = kept.goes_on first holds in
    let state = state_after_lines first lines in
    let said = c.as_slice.ensures ∙ c.in_default-take_turn.ensures.text state on.held
    ∙ ap (λ space. reply_text space (reply state line)) (sym c.requires.space ∙ sym kept.space ∙ sym (met.space_held c.loop-line.session state on.held)) in
    let puts = c.in_default-put_all.ensures.puts in
    front_of_reply first lines written on.text (lines_of LINE_LIMIT script) (g.K.Sink.taken c.args.output.now) line split.0 split.1
    (g.K.Sink.taken c.loop-line.output) (g.K.Sink.taken c.put_all.new.sink) c.as_slice.result.now puts.0 said kept.serving.wrote puts.2

pub returns-in_default-put_all-clause-any_moment : goal.returns-in_default-put_all-clause-any_moment
returns-in_default-put_all-clause-any_moment g c = λ first holds script told.
    let turns = g.T.Turns in
    let met = g.met.T.Turns in
    let line = c.in-Ok-take_line.line in
    let not_end : line ≡ End → ⊥ = λ e. false≢true (sym c.if-is_end.false ∙ c.is_end.ensures.1 e) in
    let (written, (lines, kept)) = c.loop-line.invariant in
    let split = split_next g.S.Source g.K.Sink c.args.reader.now c.args.output.now c.loop-line.reader c.loop-line.output written lines kept.serving
    c.take_line.new.self line not_end c.in-Ok-take_line.ensures.line script told in
    let laws = laws_of turns.holds turns.leaves turns.left_now met.leaves_same met.leaves_joined met.leaves_more met.leaves_now in
    let on = kept.goes_on first holds in
    left_after_turn turns.holds turns.leaves turns.left_now laws first c.args.session.now c.loop-line.session written lines on c.take_turn.new.session line
    (c.take_turn.ensures.any_moment (state_after_lines first lines) on.held) (lines_of LINE_LIMIT script) split.0 split.1

pub returns-in_default-put_all-clause-acknowledged : goal.returns-in_default-put_all-clause-acknowledged
returns-in_default-put_all-clause-acknowledged g c = λ first holds script told before final was is many answered.
    let turns = g.T.Turns in
    let met = g.met.T.Turns in
    let line = c.in-Ok-take_line.line in
    let not_end : line ≡ End → ⊥ = λ e. false≢true (sym c.if-is_end.false ∙ c.is_end.ensures.1 e) in
    let (written, (lines, kept)) = c.loop-line.invariant in
    let split = split_next g.S.Source g.K.Sink c.args.reader.now c.args.output.now c.loop-line.reader c.loop-line.output written lines kept.serving
    c.take_line.new.self line not_end c.in-Ok-take_line.ensures.line script told in
    let laws = laws_of turns.holds turns.leaves turns.left_now met.leaves_same met.leaves_joined met.leaves_more met.leaves_now in
    let on = kept.goes_on first holds in
    let state = state_after_lines first lines in
    let said = c.as_slice.ensures ∙ c.in_default-take_turn.ensures.text state on.held
    ∙ ap (λ space. reply_text space (reply state line)) (sym c.requires.space ∙ sym kept.space ∙ sym (met.space_held c.loop-line.session state on.held)) in
    let puts = c.in_default-put_all.ensures.puts in
    left_by_part turns.holds turns.leaves turns.left_now laws first c.args.session.now c.loop-line.session written lines on c.take_turn.new.session line
    (c.take_turn.ensures.any_moment state on.held) (lines_of LINE_LIMIT script) split.0 split.1 (g.K.Sink.taken c.args.output.now)
    (g.K.Sink.taken c.put_all.new.sink) before final many was is answered (g.K.Sink.taken c.loop-line.output) c.as_slice.result.now puts.0 said
    (c.in_default-take_turn.ensures.next state on.held) kept.serving.wrote puts.2

pub returns-in_default-put_all-clause-input : goal.returns-in_default-put_all-clause-input
returns-in_default-put_all-clause-input g c =
    let (written, (lines, kept)) = c.loop-line.invariant in
    let consumed = c.in-Ok-take_line.ensures.consumed in
    LeavesInput-front g.S.Source g.K.Sink c.args.reader.now c.args.output.now c.loop-line.reader c.loop-line.output written lines kept.serving
    c.take_line.new.self consumed.0 consumed.1 WriteFault (λ e. cc)
