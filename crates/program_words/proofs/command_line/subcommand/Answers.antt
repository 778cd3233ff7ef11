use Rattle.std.proofs.Common.{◌≡◌, ◌∙◌, ap, ap₂, map, sym}
use Rattle.std.proofs.lemmas.Result.{IfOk-weaker}
use Rattle.clap.specs.Words.{App, AddsArg, app_of, new_app, with_rule}
use Rattle.program_words.specs.CommandLine.{subcommand_in, with_rest, with_words}
use Rattle.program_words.proofs.command_line.subcommand.Goals as goal

pub returns-then-form-clause-app : goal.returns-then-form-clause-app
returns-then-form-clause-app c =
    let form = c.args.form.now in
    let ids = map (λ id. id.now) form.words.now in
    IfOk-weaker c.arg.result (AddsArg c.in_ok-command.command c.more_words.result) (λ command. app_of command ≡ subcommand_in form)
    (λ command added. added.shape c.more_words.ensures.local
    ∙ ap₂ with_rule (c.in_ok-command.ensures.app ∙ ap (λ (app : App). with_words app ids) c.new.ensures.app) c.more_words.ensures.rule
    ∙ ap (λ b. with_rest b (with_words (new_app form.name.now) ids)) (sym c.if-form.true)) c.arg.ensures
