use Rattle.std.proofs.Common.{◌∙◌, ap, ap₂, ◌||◌}
use Rattle.clap.specs.Words.{App, app_of, with_subcommand}
use Rattle.program_words.specs.CommandLine.{subcommand_in}
use Rattle.program_words.proofs.Folding.{folded_more}
use Rattle.program_words.proofs.command_line.with_subcommands.Goals as goal

pub loop-form-preserved : goal.loop-form-preserved
loop-form-preserved c =
    let at = c.loop-form in
    let sub = c.in_ok-subcommand.ensures in
    let added = c.in_ok-command.ensures in (
      added.shape sub.local ∙ ap₂ with_subcommand at.invariant.0 (ap (λ (app : App). app.top) sub.app)
          ∙ folded_more (λ app (sub : App). with_subcommand app sub.top) subcommand_in (app_of c.args.command) c.args.forms.now at.form-index _ c.loop-form-test.true,
      added.globals ∙ ap₂ (λ a b. a || b) at.invariant.1 sub.local,
    )
