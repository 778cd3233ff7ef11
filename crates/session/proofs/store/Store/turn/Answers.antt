use Rattle.std.proofs.Common.{◌≡◌, Ok, refl, sym, ◌∙◌, subst, arith}
use Rattle.std.proofs.lemmas.Result.{IfOk-weaker, on_ok_weaker}
use Rattle.spb_defs.specs.Step.{reply, reply_to}
use Rattle.session.specs.Queries.{ReadsLine}
use Rattle.session.specs.Store.{state_of}
use Rattle.session.proofs.store.Store.turn.Goals as goal

pub execute-requires-clause-proper : goal.execute-requires-clause-proper
execute-requires-clause-proper g c =
    let reads = subst (λ read. ReadsLine (Ok read) (state_of c.args.self.now) c.args.line.now) c.in-Ok.is
    (c.in_ok-command.ensures (state_of c.args.self.now) refl) in
    reads.2

pub returns-in-Ok-clause-reply : goal.returns-in-Ok-clause-reply
returns-in-Ok-clause-reply g c =
    let reads = subst (λ read. ReadsLine (Ok read) (state_of c.args.self.now) c.args.line.now) c.in-Ok.is
    (c.in_ok-command.ensures (state_of c.args.self.now) refl) in
    IfOk-weaker c.execute.result (λ said. said ≡ reply_to (state_of c.args.self.now) c.in-Ok.command)
    (λ said. said ≡ reply (state_of c.args.self.now) c.args.line.now)
    (λ said is. is ∙ sym reads.0) c.execute.ensures.reply

pub returns-in-Ok-clause-next : goal.returns-in-Ok-clause-next
returns-in-Ok-clause-next g c =
    let reads = subst (λ read. ReadsLine (Ok read) (state_of c.args.self.now) c.args.line.now) c.in-Ok.is
    (c.in_ok-command.ensures (state_of c.args.self.now) refl) in
    on_ok_weaker c.execute.result (λ is. is ∙ sym reads.1) c.execute.ensures.next

pub returns-in-Err-clause-reply : goal.returns-in-Err-clause-reply
returns-in-Err-clause-reply g c =
    let reads = subst (λ read. ReadsLine (Ok read) (state_of c.args.self.now) c.args.line.now) c.in-Err.is
    (c.in_ok-command.ensures (state_of c.args.self.now) refl) in
    reads.0

pub returns-in-Err-clause-next : goal.returns-in-Err-clause-next
returns-in-Err-clause-next g c =
    let reads = subst (λ read. ReadsLine (Ok read) (state_of c.args.self.now) c.args.line.now) c.in-Err.is
    (c.in_ok-command.ensures (state_of c.args.self.now) refl) in
    sym reads.1

pub returns-in-Err-clause-object : goal.returns-in-Err-clause-object
returns-in-Err-clause-object g c =
    let reads = subst (λ read. ReadsLine (Ok read) (state_of c.args.self.now) c.args.line.now) c.in-Err.is
    (c.in_ok-command.ensures (state_of c.args.self.now) refl) in
    reads.2

pub returns-in-Err-clause-few : goal.returns-in-Err-clause-few
returns-in-Err-clause-few g c =
    let reads = subst (λ read. ReadsLine (Ok read) (state_of c.args.self.now) c.args.line.now) c.in-Err.is
    (c.in_ok-command.ensures (state_of c.args.self.now) refl) in
    let none = reads.3 in omega (arith, none)

pub returns-in-Err-clause-count : goal.returns-in-Err-clause-count
returns-in-Err-clause-count g c =
    let reads = subst (λ read. ReadsLine (Ok read) (state_of c.args.self.now) c.args.line.now) c.in-Err.is
    (c.in_ok-command.ensures (state_of c.args.self.now) refl) in
    let none = reads.3 in omega (arith, none)
