use Rattle.std.proofs.Common.{◌∙◌, ap₂, ◌||◌}
use Rattle.clap.specs.Words.{app_of, with_rule}
use Rattle.program_words.specs.CommandLine.{one_word}
use Rattle.program_words.proofs.Folding.{folded_more}
use Rattle.program_words.proofs.command_line.with_words.Goals as goal

pub loop-id-preserved : goal.loop-id-preserved
loop-id-preserved c =
    let at = c.loop-id in
    let added = c.in_ok-command.ensures in (
      added.shape c.one_word.ensures.local ∙ ap₂ with_rule at.invariant.0 c.one_word.ensures.rule
          ∙ folded_more (λ app id. with_rule app (one_word id)) (λ id. id.now) (app_of c.args.command) c.args.ids.now at.id-index _ c.loop-id-test.true,
      added.globals ∙ ap₂ (λ a b. a || b) at.invariant.1 c.one_word.ensures.local,
    )
