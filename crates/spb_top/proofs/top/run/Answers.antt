use Rattle.std.proofs.Common.{◌≡◌, ◌∙◌, sym, subst, rules, Some, map, List, ℕ}
use Rattle.std.proofs.lemmas.Bool.{false≢true}
use Rattle.std.specs.String.{string_bytes}
use Rattle.spb_edge.specs.Crash.{CrashesLeaveOnly}
use Rattle.spb_edge.specs.Lines.{lines_of}
use Rattle.spb_defs.specs.declared.TheConstants.{LINE_LIMIT}
use Rattle.spb_defs.specs.declared.Asked.{Asked}
use Rattle.spb_defs.specs.declared.Asked.TheVariants.{Mem, Make, Run, Check, Trial}
use Rattle.spb_defs.specs.Words.{asked_of}
use Rattle.spb_top.specs.Outside.{outside_of, unread_outside}
use Rattle.spb_top.specs.Files.{IsKnownBefore, MayLeave}
use Rattle.spb_top.specs.Turns.{StandsForOne, states_after}
use Rattle.spb_top.proofs.AtOnce.{acknowledged_at_once, completes_as, completes_in_memory, completes_unread, known_bytes, same_words}
use Rattle.spb_top.proofs.top.run.Goals as goal

-- ---- memory runs out in reading the words

pub returns-in_default-clause-acknowledged : goal.returns-in_default-clause-acknowledged
returns-in_default-clause-acknowledged g c = λ known knows durable asks first stands script told before written was now many answered crash left.
    subst (λ (i : List ℕ). StandsForOne (states_after first (lines_of LINE_LIMIT script) many) i) (sym (durable crash left))
    (acknowledged_at_once first (lines_of LINE_LIMIT script) before written (g.K.Sink.taken c.args.output.now) many (g.D.Disk.image c.args.disk.now) was now
    answered stands)

-- ---- a store in memory

pub returns-in-Some-Mem-clause-complete : goal.returns-in-Some-Mem-clause-complete
returns-in-Some-Mem-clause-complete g c =
    let exact = c.in-Ok.ensures.exact in
    let is = c.in-Some-Mem.is in
    let inner = c.in-Some-Mem.field-0-is in
    let made = c.in-Some-Mem.setup-is in
    let asks : asked_of (map string_bytes c.args.words.now) ≡ Some (Mem c.in-Some-Mem.setup) = sym exact ∙ is ∙ search (rules, inner, made) in
    completes_in_memory (asked_of (map string_bytes c.args.words.now)) c.in-Some-Mem.setup c.serve_memory.result
    (outside_of g.S.Source g.K.Sink g.D.Disk c.args.input.now c.serve_memory.new.input c.args.output.now c.serve_memory.new.output c.args.disk.now c.args.disk.now)
    c.serve_memory.ensures.cause asks

-- ---- a new store

pub returns-in-Some-Make-clause-complete : goal.returns-in-Some-Make-clause-complete
returns-in-Some-Make-clause-complete g c =
    let exact = c.in-Ok.ensures.exact in
    let is = c.in-Some-Make.is in
    let inner = c.in-Some-Make.field-0-is in
    let made = c.in-Some-Make in
    let asks : asked_of (map string_bytes c.args.words.now) ≡ Some (Make made.curve made.pivots made.cap made.space) =
    sym exact ∙ is ∙ search (rules, inner, made.curve-is, made.pivots-is, made.cap-is, made.space-is) in
    let o = outside_of g.S.Source g.K.Sink g.D.Disk c.args.input.now c.make_file.new.input c.args.output.now c.make_file.new.output c.args.disk.now
    c.make_file.new.disk in
    completes_as (asked_of (map string_bytes c.args.words.now)) (Make made.curve made.pivots made.cap made.space) c.make_file.result o asks
    (c.causes_complete.ensures (Make made.curve made.pivots made.cap made.space) c.make_file.result o c.make_file.ensures.cause)

-- ---- a script on a store in a file

pub returns-in-Some-Run-clause-acknowledged : goal.returns-in-Some-Run-clause-acknowledged
returns-in-Some-Run-clause-acknowledged g c = λ known knows durable asks first stands script told before written was now many answered crash left.
    c.serve_file.ensures.acknowledged known knows durable first stands script told before written was now many answered crash left

pub returns-in-Some-Run-clause-complete : goal.returns-in-Some-Run-clause-complete
returns-in-Some-Run-clause-complete g c =
    let exact = c.in-Ok.ensures.exact in
    let is = c.in-Some-Run.is in
    let inner = c.in-Some-Run.field-0-is in
    let asks : asked_of (map string_bytes c.args.words.now) ≡ Some Run = sym exact ∙ is ∙ search (rules, inner) in
    let o = outside_of g.S.Source g.K.Sink g.D.Disk c.args.input.now c.serve_file.new.input c.args.output.now c.serve_file.new.output c.args.disk.now
    c.serve_file.new.disk in
    completes_as (asked_of (map string_bytes c.args.words.now)) Run c.serve_file.result o asks
    (c.causes_complete.ensures Run c.serve_file.result o c.serve_file.ensures.cause)

pub returns-in-Some-Run-clause-durable : goal.returns-in-Some-Run-clause-durable
returns-in-Some-Run-clause-durable g c = λ known knows durable read done.
    let exact = c.in-Ok.ensures.exact in
    let is = c.in-Some-Run.is in
    let inner = c.in-Some-Run.field-0-is in
    let asks : asked_of (map string_bytes c.args.words.now) ≡ Some Run = sym exact ∙ is ∙ search (rules, inner) in
    let input = known_bytes (g.S.Source.left c.args.input.now) (read asks) in
    c.serve_file.ensures.durable known knows durable input.0 input.1 done

-- ---- a store that is checked

pub returns-in-Some-Check-clause-complete : goal.returns-in-Some-Check-clause-complete
returns-in-Some-Check-clause-complete g c =
    let exact = c.in-Ok.ensures.exact in
    let is = c.in-Some-Check.is in
    let inner = c.in-Some-Check.field-0-is in
    let asks : asked_of (map string_bytes c.args.words.now) ≡ Some Check = sym exact ∙ is ∙ search (rules, inner) in
    completes_unread (asked_of (map string_bytes c.args.words.now)) Check c.check_file.result
    (outside_of g.S.Source g.K.Sink g.D.Disk c.args.input.now c.args.input.now c.args.output.now c.check_file.new.output c.args.disk.now c.check_file.new.disk)
    (unread_outside g.K.Sink g.D.Disk c.args.output.now c.check_file.new.output c.args.disk.now c.check_file.new.disk) asks
    (λ can. can) (λ none. record { source = λ reads. absurd (false≢true reads); sink = none.sink; disk = none.disk })
    (c.causes_complete.ensures Check c.check_file.result
    (unread_outside g.K.Sink g.D.Disk c.args.output.now c.check_file.new.output c.args.disk.now c.check_file.new.disk) c.check_file.ensures.cause)

pub returns-in-Some-Check-clause-any_moment : goal.returns-in-Some-Check-clause-any_moment
returns-in-Some-Check-clause-any_moment g c = λ known knows durable asked asks'.
    let exact = c.in-Ok.ensures.exact in
    let is = c.in-Some-Check.is in
    let inner = c.in-Some-Check.field-0-is in
    let asks : asked_of (map string_bytes c.args.words.now) ≡ Some Check = sym exact ∙ is ∙ search (rules, inner) in
    let o = outside_of g.S.Source g.K.Sink g.D.Disk c.args.input.now c.args.input.now c.args.output.now c.check_file.new.output c.args.disk.now c.check_file.new.disk in
    subst (λ (a : Asked). IsKnownBefore a o → CrashesLeaveOnly g.D.Disk.moment g.D.Disk.crash_states_since c.args.disk.now c.check_file.new.disk (MayLeave a o))
    (same_words Check asked asks asks') (λ before. c.check_file.ensures.any_moment known knows durable before)

-- ---- a trial

pub returns-in-Some-Trial-clause-complete : goal.returns-in-Some-Trial-clause-complete
returns-in-Some-Trial-clause-complete g c =
    let exact = c.in-Ok.ensures.exact in
    let tried = c.in-Some-Trial in
    let is = tried.is in
    let inner = tried.field-0-is in
    let asks : asked_of (map string_bytes c.args.words.now) ≡ Some (Trial tried.seed tried.count) =
    sym exact ∙ is ∙ search (rules, inner, tried.seed-is, tried.count-is) in
    completes_unread (asked_of (map string_bytes c.args.words.now)) (Trial tried.seed tried.count) c.try_file.result
    (outside_of g.S.Source g.K.Sink g.D.Disk c.args.input.now c.args.input.now c.args.output.now c.try_file.new.output c.args.disk.now c.try_file.new.disk)
    (unread_outside g.K.Sink g.D.Disk c.args.output.now c.try_file.new.output c.args.disk.now c.try_file.new.disk) asks
    (λ can. can) (λ none. record { source = λ reads. absurd (false≢true reads); sink = none.sink; disk = none.disk })
    (c.causes_complete.ensures (Trial tried.seed tried.count) c.try_file.result
    (unread_outside g.K.Sink g.D.Disk c.args.output.now c.try_file.new.output c.args.disk.now c.try_file.new.disk) c.try_file.ensures.cause)

pub returns-in-Some-Trial-clause-any_moment : goal.returns-in-Some-Trial-clause-any_moment
returns-in-Some-Trial-clause-any_moment g c = λ known knows durable asked asks'.
    let exact = c.in-Ok.ensures.exact in
    let tried = c.in-Some-Trial in
    let is = tried.is in
    let inner = tried.field-0-is in
    let asks : asked_of (map string_bytes c.args.words.now) ≡ Some (Trial tried.seed tried.count) =
    sym exact ∙ is ∙ search (rules, inner, tried.seed-is, tried.count-is) in
    let o = outside_of g.S.Source g.K.Sink g.D.Disk c.args.input.now c.args.input.now c.args.output.now c.try_file.new.output c.args.disk.now c.try_file.new.disk in
    subst (λ (a : Asked). IsKnownBefore a o → CrashesLeaveOnly g.D.Disk.moment g.D.Disk.crash_states_since c.args.disk.now c.try_file.new.disk (MayLeave a o))
    (same_words (Trial tried.seed tried.count) asked asks asks') (λ before. c.try_file.ensures.any_moment known knows durable)
