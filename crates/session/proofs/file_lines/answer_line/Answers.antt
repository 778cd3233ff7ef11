use Rattle.std.proofs.Common.{◌≡◌, Ok, sym, ap, subst, ◌∙◌, arith}
use Rattle.std.proofs.lemmas.Result.{IfOk-weaker, on_ok_weaker}
use Rattle.spb_edge.specs.Crash.{CrashesLeaveOnly}
use Rattle.spb_defs.specs.State.{State, empty_in_memory}
use Rattle.spb_defs.specs.Step.{reply, next_state, reply_of, changed_state}
use Rattle.store_check.specs.declared.profile.Profile.{Profile}
use Rattle.open_store.specs.Store.{IsInState}
use Rattle.open_store.specs.Answers.{StandsForEither}
use Rattle.session.specs.Queries.{ReadsLine}
use Rattle.session.proofs.FileLaws.{space_of, samples_of, acting_same, left_same}
use Rattle.session.proofs.file_lines.answer_line.Goals as goal

pub answer_command-requires-clause-proper : goal.answer_command-requires-clause-proper
answer_command-requires-clause-proper g c =
    let any : State = empty_in_memory c.args.store.now.profile.space 0 in
    let reads = subst (λ read. ReadsLine (Ok read) any c.args.line.now) c.in-Ok.is
    (c.in_ok-command.ensures any (ap (λ (p : Profile). p.space) (sym c.profile.ensures))) in
    reads.2

pub returns-in-Ok-clause-reply : goal.returns-in-Ok-clause-reply
returns-in-Ok-clause-reply g c = λ s in_state.
    let K = g.D.Disk in
    let reads = subst (λ read. ReadsLine (Ok read) s c.args.line.now) c.in-Ok.is
    (c.in_ok-command.ensures s (space_of K.is_known K.image c.args.store.now s in_state ∙ ap (λ (p : Profile). p.space) (sym c.profile.ensures))) in
    let acts = ap (λ (t : State). reply_of t c.in-Ok.command) (acting_same s c.in-Ok.command (samples_of K.is_known K.image c.args.store.now s in_state)) in
    IfOk-weaker c.answer_command.result (λ said. said ≡ reply_of s c.in-Ok.command) (λ said. said ≡ reply s c.args.line.now)
    (λ said is. is ∙ sym (reads.0 ∙ acts)) (c.answer_command.ensures.reply s in_state)

pub returns-in-Ok-clause-next : goal.returns-in-Ok-clause-next
returns-in-Ok-clause-next g c = λ s in_state.
    let K = g.D.Disk in
    let reads = subst (λ read. ReadsLine (Ok read) s c.args.line.now) c.in-Ok.is
    (c.in_ok-command.ensures s (space_of K.is_known K.image c.args.store.now s in_state ∙ ap (λ (p : Profile). p.space) (sym c.profile.ensures))) in
    let acts = ap (λ (t : State). changed_state t c.in-Ok.command) (acting_same s c.in-Ok.command (samples_of K.is_known K.image c.args.store.now s in_state)) in
    on_ok_weaker c.answer_command.result (λ is. subst (IsInState K.is_known K.image c.answer_command.new.store) (sym (reads.1 ∙ acts)) is)
    (c.answer_command.ensures.next s in_state)

pub returns-in-Ok-clause-any_moment : goal.returns-in-Ok-clause-any_moment
returns-in-Ok-clause-any_moment g c = λ s in_state crashes durable.
    let K = g.D.Disk in
    let reads = subst (λ read. ReadsLine (Ok read) s c.args.line.now) c.in-Ok.is
    (c.in_ok-command.ensures s (space_of K.is_known K.image c.args.store.now s in_state ∙ ap (λ (p : Profile). p.space) (sym c.profile.ensures))) in
    let acts = ap (λ (t : State). changed_state t c.in-Ok.command) (acting_same s c.in-Ok.command (samples_of K.is_known K.image c.args.store.now s in_state)) in
    subst (λ (t : State). CrashesLeaveOnly K.moment K.crash_states_since c.args.store.now.pages.disk c.answer_command.new.store.pages.disk (StandsForEither s t))
    (sym (reads.1 ∙ acts)) (c.answer_command.ensures.any_moment s in_state crashes durable)

pub returns-in-Err-clause-reply : goal.returns-in-Err-clause-reply
returns-in-Err-clause-reply g c = λ s in_state.
    let K = g.D.Disk in
    let reads = subst (λ read. ReadsLine (Ok read) s c.args.line.now) c.in-Err.is
    (c.in_ok-command.ensures s (space_of K.is_known K.image c.args.store.now s in_state ∙ ap (λ (p : Profile). p.space) (sym c.profile.ensures))) in
    reads.0

pub returns-in-Err-clause-next : goal.returns-in-Err-clause-next
returns-in-Err-clause-next g c = λ s in_state.
    let K = g.D.Disk in
    let reads = subst (λ read. ReadsLine (Ok read) s c.args.line.now) c.in-Err.is
    (c.in_ok-command.ensures s (space_of K.is_known K.image c.args.store.now s in_state ∙ ap (λ (p : Profile). p.space) (sym c.profile.ensures))) in
    subst (IsInState K.is_known K.image c.args.store.now) (sym reads.1) in_state

pub returns-in-Err-clause-any_moment : goal.returns-in-Err-clause-any_moment
returns-in-Err-clause-any_moment g c = λ s in_state crashes durable.
    let K = g.D.Disk in
    left_same K.is_known K.knows_crashes K.size_of K.image K.crash_states K.moment K.crash_states_since g.met.D.Disk.only_now c.args.store.now s
    (next_state s c.args.line.now) in_state durable

pub returns-in-Err-clause-object : goal.returns-in-Err-clause-object
returns-in-Err-clause-object g c =
    let any : State = empty_in_memory c.args.store.now.profile.space 0 in
    let reads = subst (λ read. ReadsLine (Ok read) any c.args.line.now) c.in-Err.is
    (c.in_ok-command.ensures any (ap (λ (p : Profile). p.space) (sym c.profile.ensures))) in
    reads.2

pub returns-in-Err-clause-count : goal.returns-in-Err-clause-count
returns-in-Err-clause-count g c =
    let any : State = empty_in_memory c.args.store.now.profile.space 0 in
    let reads = subst (λ read. ReadsLine (Ok read) any c.args.line.now) c.in-Err.is
    (c.in_ok-command.ensures any (ap (λ (p : Profile). p.space) (sym c.profile.ensures))) in
    let none = reads.3 in omega (arith, none)
