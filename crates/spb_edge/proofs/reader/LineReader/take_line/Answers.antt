use Rattle.std.proofs.Common.{◌≡◌, Result, Ok, Err, [], sym, ◌∙◌, arith, rules}
use Rattle.std.specs.Prelude.{IsTrue}
use Rattle.std.proofs.lemmas.Bool.{true≢false}
use Rattle.spb_edge.specs.Reader.{has_ended}
use Rattle.std.proofs.lemmas.Result.{err_from_is_err_and}
use Rattle.spb_edge.proofs.Reading.{TakesOff-nothing, at_lf, goes_on, at_stream_end, more_came, Refills-rest, IsScanned-is, Refills-is, answered, budget-off, IsTakenFor-from_line, IsTakenFor-from_error, LowersBudget-closed, IsNextLine-closed, CanTakeLine-seen, CanTakeLine-at_lf, not_ended_at_lf, EndsAgain-closed}
use Rattle.spb_edge.proofs.reader.LineReader.take_line.Goals as goal

err_is_not_ok : {A E : Type 0} {x : A} {e : E} → Err e ≡ Ok x → ⊥
err_is_not_ok e = cc

ok_is : {A E : Type 0} {x y : A} → ◌≡◌ {A = Result A E} (Ok x) (Ok y) → x ≡ y
ok_is e = cc

pub returns-in-Ended-clause-consumed : goal.returns-in-Ended-clause-consumed
returns-in-Ended-clause-consumed g c =
    let so = c.loop-ended.invariant.1.1 in
    let seen = IsScanned-is c.args.limit c.loop-ended.line c.loop-ended.self c.scan.new.self _ _ c.in-Ended.is c.in_ok-ended.ensures.scans in
    let at = at_lf c.args.limit c.args.self.now c.loop-ended.self c.scan.new.self c.loop-ended.line c.in-Ended.ended _ so seen c.in_ok-ended.ensures.source
    c.in_ok-ended.ensures.taken in
    (at.0, at.1, IsTakenFor-from_line _ _ _ _ _ at.2)

pub returns-in-Ended-clause-line : goal.returns-in-Ended-clause-line
returns-in-Ended-clause-line g c =
    let so = c.loop-ended.invariant.1.1 in
    let seen = IsScanned-is c.args.limit c.loop-ended.line c.loop-ended.self c.scan.new.self _ _ c.in-Ended.is c.in_ok-ended.ensures.scans in
    let at = at_lf c.args.limit c.args.self.now c.loop-ended.self c.scan.new.self c.loop-ended.line c.in-Ended.ended _ so seen c.in_ok-ended.ensures.source
    c.in_ok-ended.ensures.taken in
    answered c.args.limit c.in-Ended.ended c.args.self.now c.scan.new.self at.0 at.1 at.2

pub returns-in_err-of-clause-consumed : goal.returns-in_err-of-clause-consumed
returns-in_err-of-clause-consumed g c =
    let p = err_from_is_err_and c.from_residual.result c.from_residual.ensures.1 in
    ([], TakesOff-nothing c.args.self.now, IsTakenFor-from_error _ _ p.0 [] _ _ p.1 (λ _ _ less. absurd (omega (arith, less))))

pub returns-in_err-refill-clause-consumed : goal.returns-in_err-refill-clause-consumed
returns-in_err-refill-clause-consumed g c =
    let so = c.loop-ended.invariant.1.1 in
    let seen = IsScanned-is c.args.limit c.loop-ended.line c.loop-ended.self c.scan.new.self _ _ c.in-Open.is c.in_ok-ended.ensures.scans in
    let left = Refills-rest c.refill.result c.scan.new.self c.refill.new.self c.refill.ensures.refills in
    let on = goes_on c.args.limit c.args.self.now c.loop-ended.self c.scan.new.self c.refill.new.self c.loop-ended.line c.in-Open.open _ so seen
    c.in_ok-ended.ensures.source c.in_ok-ended.ensures.taken left.0 left.1 in
    let p = err_from_is_err_and c.from_residual-in_err-refill.result c.from_residual-in_err-refill.ensures.1 in
    (_, on.0, IsTakenFor-from_error _ _ p.0 _ _ _ p.1 on.1)

pub returns-then-not-branch-clause-consumed : goal.returns-then-not-branch-clause-consumed
returns-then-not-branch-clause-consumed g c =
    let so = c.loop-ended.invariant.1.1 in
    let seen = IsScanned-is c.args.limit c.loop-ended.line c.loop-ended.self c.scan.new.self _ _ c.in-Open.is c.in_ok-ended.ensures.scans in
    let left = Refills-is c.scan.new.self c.refill.new.self _ _ c.if-not-branch.true c.in_ok-refill.ensures.refills in
    let at = at_stream_end c.args.limit c.args.self.now c.loop-ended.self c.scan.new.self c.refill.new.self c.loop-ended.line c.in-Open.open c.closed.result _
    so seen c.in_ok-ended.ensures.source c.in_ok-ended.ensures.taken left c.closed.ensures in
    at

pub returns-then-not-branch-clause-line : goal.returns-then-not-branch-clause-line
returns-then-not-branch-clause-line g c =
    let so = c.loop-ended.invariant.1.1 in
    let seen = IsScanned-is c.args.limit c.loop-ended.line c.loop-ended.self c.scan.new.self _ _ c.in-Open.is c.in_ok-ended.ensures.scans in
    let left = Refills-is c.scan.new.self c.refill.new.self _ _ c.if-not-branch.true c.in_ok-refill.ensures.refills in
    let at = at_stream_end c.args.limit c.args.self.now c.loop-ended.self c.scan.new.self c.refill.new.self c.loop-ended.line c.in-Open.open c.closed.result _
    so seen c.in_ok-ended.ensures.source c.in_ok-ended.ensures.taken left c.closed.ensures in
    IsNextLine-closed c.args.limit c.closed.result at.0 _ _ _ at.2 at.1.front

pub returns-then-not-branch-clause-progress : goal.returns-then-not-branch-clause-progress
returns-then-not-branch-clause-progress g c =
    let so = c.loop-ended.invariant.1.1 in
    let seen = IsScanned-is c.args.limit c.loop-ended.line c.loop-ended.self c.scan.new.self _ _ c.in-Open.is c.in_ok-ended.ensures.scans in
    let left = Refills-is c.scan.new.self c.refill.new.self _ _ c.if-not-branch.true c.in_ok-refill.ensures.refills in
    let at = at_stream_end c.args.limit c.args.self.now c.loop-ended.self c.scan.new.self c.refill.new.self c.loop-ended.line c.in-Open.open c.closed.result _
    so seen c.in_ok-ended.ensures.source c.in_ok-ended.ensures.taken left c.closed.ensures in
    LowersBudget-closed c.args.limit c.closed.result at.0 _ _ _ _ at.2 (budget-off c.args.self.now c.refill.new.self at.0 at.1 c.requires.open.total left.3)

pub returns-in-Ended-clause-open : goal.returns-in-Ended-clause-open
returns-in-Ended-clause-open g c =
    let so = c.loop-ended.invariant.1.1 in
    let seen = IsScanned-is c.args.limit c.loop-ended.line c.loop-ended.self c.scan.new.self _ _ c.in-Ended.is c.in_ok-ended.ensures.scans in
    CanTakeLine-at_lf c.args.limit c.args.self.now c.loop-ended.self c.scan.new.self c.loop-ended.line c.in-Ended.ended _ so seen c.in_ok-ended.ensures.taken
    c.in_ok-ended.ensures.ended

pub returns-in-Ended-clause-after_end : goal.returns-in-Ended-clause-after_end
returns-in-Ended-clause-after_end g c = λ ended.
    let so = c.loop-ended.invariant.1.1 in
    let seen = IsScanned-is c.args.limit c.loop-ended.line c.loop-ended.self c.scan.new.self _ _ c.in-Ended.is c.in_ok-ended.ensures.scans in
    absurd (not_ended_at_lf c.args.limit c.args.self.now c.loop-ended.self c.scan.new.self c.loop-ended.line c.in-Ended.ended _ so seen (so.after_end ended).0)

pub refill-requires-clause-open : goal.refill-requires-clause-open
refill-requires-clause-open g c =
    let so = c.loop-ended.invariant.1.1 in
    let seen = IsScanned-is c.args.limit c.loop-ended.line c.loop-ended.self c.scan.new.self _ _ c.in-Open.is c.in_ok-ended.ensures.scans in
    CanTakeLine-seen c.args.limit c.args.self.now c.loop-ended.self c.scan.new.self c.loop-ended.line c.in-Open.open _ so seen c.in_ok-ended.ensures.source
    c.in_ok-ended.ensures.taken c.in_ok-ended.ensures.ended

pub returns-in_err-refill-clause-after_end : goal.returns-in_err-refill-clause-after_end
returns-in_err-refill-clause-after_end g c = λ ended.
    let so = c.loop-ended.invariant.1.1 in
    let again = c.refill.ensures.after_end (c.in_ok-ended.ensures.ended ∙ (so.after_end ended).0) in
    absurd (err_is_not_ok (sym c.in_err-refill.was ∙ again))

pub returns-then-not-branch-clause-after_end : goal.returns-then-not-branch-clause-after_end
returns-then-not-branch-clause-after_end g c = λ ended.
    let so = c.loop-ended.invariant.1.1 in
    let seen = IsScanned-is c.args.limit c.loop-ended.line c.loop-ended.self c.scan.new.self _ _ c.in-Open.is c.in_ok-ended.ensures.scans in
    EndsAgain-closed c.args.limit c.args.self.now c.loop-ended.self c.scan.new.self c.loop-ended.line c.in-Open.open c.closed.result _ so seen c.closed.ensures
    ended

pub loop-ended-preserved : goal.loop-ended-preserved
loop-ended-preserved g c =
    let so = c.loop-ended.invariant.1.1 in
    let seen = IsScanned-is c.args.limit c.loop-ended.line c.loop-ended.self c.scan.new.self _ _ c.in-Open.is c.in_ok-ended.ensures.scans in
    let left = Refills-is c.scan.new.self c.refill.new.self _ _ c.if-not-branch.false c.in_ok-refill.ensures.refills in
    let running : IsTrue (has_ended c.scan.new.self)
    → ⊥ = λ ended. true≢false (sym c.if-not-branch.false ∙ ok_is (sym c.in_ok-refill.was ∙ c.refill.ensures.after_end ended)) in (
      search rules,
      more_came c.args.limit c.args.self.now c.loop-ended.self c.scan.new.self c.refill.new.self c.loop-ended.line c.in-Open.open _ so seen
          c.in_ok-ended.ensures.source c.in_ok-ended.ensures.taken c.in_ok-ended.ensures.ended running left,
    )
