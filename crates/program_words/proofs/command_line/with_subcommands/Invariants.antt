use Rattle.std.proofs.Common.{◌≡◌, false, map, take}
use Rattle.clap.specs.Words.{app_of}
use Rattle.clap.specs.declared.builder.Command.TheViews.{out-Command as fields_of}
use Rattle.program_words.specs.CommandLine.{subcommand_in, with_subcommands}
use Rattle.program_words.proofs.command_line.with_subcommands.Given as goal

-- the forms so far were added
abbrev pub invariant-loop-form : goal.invariant-loop-form
invariant-loop-form l =
    (app_of l.command ≡ with_subcommands (app_of l.fn.command) (map subcommand_in (take l.form-index l.fn.forms)))
    × ((fields_of l.command).has_globals ≡ false)
