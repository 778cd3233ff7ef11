use Rattle.std.proofs.Common.{rules, ◌≡◌, [], ◌∷◌, ◌++◌, ◌+◌, length, Ok, Err, refl, subst, sym, ap, ◌∙◌, length-append, arith}
use Rattle.std.proofs.lemmas.Bool.{false≢true}
use Rattle.spb_edge.specs.Reader.{rest, budget, has_ended, IsTakenFor}
use Rattle.spb_edge.specs.declared.reader.Line.TheVariants.{End}
use Rattle.spb_defs.specs.declared.TheConstants.{LINE_LIMIT}
use Rattle.sample_lines.specs.SampleLines.{first_kept}
use Rattle.sample_lines.specs.Answers.{RefusesScript, AnswersScript}
use Rattle.sample_lines.proofs.Reading.{Reading-start, Reading-line, running, line_at, lowers, AreSampleLines-line, takes_front, refused, stopped, ended, kept_at_end}
use Rattle.sample_lines.proofs.samples.samples_of_lines.Goals as goal

-- ---- from line to line

pub loop-line-init : goal.loop-line-init
unfolding first_kept
loop-line-init g c =
    let room = c.requires.nothing_taken in
    let none = ap length c.requires.nothing_unread in (
      [],
      [],
      [],
      record {
        name = refl;
        reading = Reading-start c.args.reader.now c.requires.nothing_taken c.requires.nothing_unread c.requires.not_ended;
        samples = refl;
        kept_is = c.new-kept.ensures.items;
        valid = search rules;
        number_is = refl;
        room = omega (arith, room, none);
      },
    )

pub loop-line-preserved-in_ok-keep : goal.loop-line-preserved-in_ok-keep
loop-line-preserved-in_ok-keep g c =
    let (lines, objects, took, kept) = c.loop-line.invariant in
    let not_end : c.in-Ok.line ≡ End → ⊥ = λ e. false≢true (sym c.if-is_end.false ∙ c.is_end.ensures.1 e) in
    let consumed = c.in-Ok.ensures.consumed in
    let read = c.in-Ok.ensures.cause in
    let less = lowers c.in-Ok.line (budget c.loop-line.reader) (budget c.take_line.new.self) not_end c.in-Ok.ensures.progress in
    let number = kept.number_is in
    let room = kept.room in (
      lines ++ c.in-Ok.line ∷ [],
      objects ++ c.in_ok-object.object ∷ [],
      took ++ consumed.0,
      record {
        name = c.take_line.ensures.name ∙ kept.name;
        reading = Reading-line c.args.reader.now c.loop-line.reader lines took kept.reading c.take_line.new.self consumed.0 consumed.1 c.in-Ok.line
            c.in-Ok.ensures.open read.0 (λ end. running c.in-Ok.line not_end (c.in-Ok.ensures.after_end end))
            (line_at c.in-Ok.line consumed.0 (rest c.take_line.new.self) (has_ended c.take_line.new.self) not_end consumed.2);
        samples = AreSampleLines-line c.args.space.now lines objects c.in-Ok.line c.in_ok-object.object kept.samples c.in_ok-object.ensures.exact;
        kept_is = c.in_ok-keep.ensures.first objects kept.kept_is;
        valid = c.in_ok-keep.ensures.valid c.args.space.now kept.valid c.in_ok-object.ensures.valid;
        number_is = omega (arith, number, length-append lines (c.in-Ok.line ∷ []));
        room = omega (arith, room, less);
      },
    )

-- ---- the reader stops

pub returns-in-Err-clause-answer : goal.returns-in-Err-clause-answer
returns-in-Err-clause-answer g c = λ script told.
    let (lines, objects, took, kept) = c.loop-line.invariant in
    let consumed = c.in-Err.ensures.consumed in
    subst (λ e. RefusesScript e c.args.space.now script (g.S.Source.left c.take_line.new.self.source.now)) (sym c.stopped_by.ensures)
    (stopped c.args.reader.now c.loop-line.reader lines took kept.reading c.take_line.new.self consumed.0 consumed.1 script told c.args.space.now
    (objects, kept.samples) c.in-Err.e c.in-Err.ensures.cause consumed.2 c.in-Err.ensures.after_end)

pub returns-in-Err-clause-input : goal.returns-in-Err-clause-input
returns-in-Err-clause-input g c = λ script told.
    let (lines, objects, took, kept) = c.loop-line.invariant in
    let consumed = c.in-Err.ensures.consumed in
    takes_front c.args.reader.now c.loop-line.reader lines took kept.reading c.take_line.new.self consumed.0 consumed.1 script told

-- ---- the input ends

pub returns-then-is_end-clause-answer : goal.returns-then-is_end-clause-answer
returns-then-is_end-clause-answer g c = λ script told.
    let (lines, objects, took, kept) = c.loop-line.invariant in
    let consumed = c.in-Ok.ensures.consumed in
    let read = c.in-Ok.ensures.cause in
    let end = c.is_end.ensures.0 c.if-is_end.true in
    let spells = subst (λ line. IsTakenFor LINE_LIMIT (Ok line) consumed.0 (rest c.take_line.new.self) (has_ended c.take_line.new.self)) end consumed.2 in
    ended c.args.reader.now c.loop-line.reader lines took kept.reading c.take_line.new.self consumed.0 consumed.1 script told c.args.space.now
    spells.1 spells.0 read.1 objects c.loop-line.kept.items kept.samples kept.kept_is c.finish.result c.finish.ensures

pub returns-then-is_end-clause-kept : goal.returns-then-is_end-clause-kept
returns-then-is_end-clause-kept g c =
    let (lines, objects, took, kept) = c.loop-line.invariant in
    kept_at_end c.args.space.now objects c.loop-line.kept.items kept.kept_is kept.valid c.finish.result c.finish.ensures

-- ---- a line is no sample, or memory runs out

pub returns-in_err-object-clause-answer : goal.returns-in_err-object-clause-answer
returns-in_err-object-clause-answer g c = λ script told.
    let (lines, objects, took, kept) = c.loop-line.invariant in
    let not_end : c.in-Ok.line ≡ End → ⊥ = λ e. false≢true (sym c.if-is_end.false ∙ c.is_end.ensures.1 e) in
    let consumed = c.in-Ok.ensures.consumed in
    let read = c.in-Ok.ensures.cause in
    let number = kept.number_is in
    let is : c.from_residual.result ≡ Err c.in_err-object.field-0.0 = search rules in
    subst (λ r. AnswersScript r c.args.space.now script (g.S.Source.left c.take_line.new.self.source.now)) (sym is)
    (refused c.args.reader.now c.loop-line.reader lines took kept.reading c.take_line.new.self consumed.0 consumed.1 script told c.args.space.now
    (objects, kept.samples) (λ end. running c.in-Ok.line not_end (c.in-Ok.ensures.after_end end)) read.1 c.in-Ok.line
    (line_at c.in-Ok.line consumed.0 (rest c.take_line.new.self) (has_ended c.take_line.new.self) not_end consumed.2)
    (c.loop-line.number + 1) (ap (λ n. n + 1) number) c.in_err-object.field-0.0 c.in_err-object.ensures.exact)

pub returns-in_err-object-clause-input : goal.returns-in_err-object-clause-input
returns-in_err-object-clause-input g c = λ script told.
    let (lines, objects, took, kept) = c.loop-line.invariant in
    let consumed = c.in-Ok.ensures.consumed in
    takes_front c.args.reader.now c.loop-line.reader lines took kept.reading c.take_line.new.self consumed.0 consumed.1 script told

pub returns-in_err-keep-clause-input : goal.returns-in_err-keep-clause-input
returns-in_err-keep-clause-input g c = λ script told.
    let (lines, objects, took, kept) = c.loop-line.invariant in
    let consumed = c.in-Ok.ensures.consumed in
    takes_front c.args.reader.now c.loop-line.reader lines took kept.reading c.take_line.new.self consumed.0 consumed.1 script told
