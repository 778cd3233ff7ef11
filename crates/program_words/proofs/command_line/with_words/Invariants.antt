use Rattle.std.proofs.Common.{◌≡◌, false, map, take}
use Rattle.clap.specs.Words.{app_of}
use Rattle.clap.specs.declared.builder.Command.TheViews.{out-Command as fields_of}
use Rattle.program_words.specs.CommandLine.{with_words}
use Rattle.program_words.proofs.command_line.with_words.Given as goal

-- the words so far were added
abbrev pub invariant-loop-id : goal.invariant-loop-id
invariant-loop-id l =
    (app_of l.command ≡ with_words (app_of l.fn.command) (map (λ id. id.now) (take l.id-index l.fn.ids)))
    × ((fields_of l.command).has_globals ≡ false)
