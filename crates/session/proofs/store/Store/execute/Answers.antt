use Rattle.std.proofs.Common.{◌≡◌, ◌≤◌, subst, sym}
use Rattle.std.specs.Prelude.{◌^◌}
use Rattle.std.proofs.lemmas.Result.{IfOk-weaker}
use Rattle.spb_defs.specs.Step.{reply_of, evals_of}
use Rattle.session.specs.Store.{state_of}
use Rattle.session.proofs.Sound.{few_evals}
use Rattle.session.proofs.store.Store.execute.Goals as goal

pub returns-clause-few : goal.returns-clause-few
returns-clause-few g c =
    let store = c.make_ready.new.self in
    let asked = c.args.command in
    IfOk-weaker c.execute_ready.result (λ said. said ≡ reply_of (state_of store) asked) (λ said. evals_of said ≤ 2 ^ 32)
    (λ said is. subst (λ said. evals_of said ≤ 2 ^ 32) (sym is) (few_evals store c.make_ready.ensures.sound asked)) c.execute_ready.ensures.reply
