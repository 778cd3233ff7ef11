-- The command line as clap reads it.
use Rattle.std.specs.Prelude.{Bool, true, false, List, [], ◌∷◌, Some, codes, fold, map}
use Rattle.clap.specs.Words.{App, Rule, Text, new_app, new_rule, with_rule, with_subcommand}
use Rattle.clap.specs.Lexer.{usize_max}
use Rattle.program_words.specs.declared.command_line.Form.{Form}

-- a word that has to be there
abbrev pub one_word : Text → Rule
one_word id = record (new_rule id) { required = true }

-- all words that are left, one at least
abbrev pub more_words : Text → Rule
more_words id = record (new_rule id) { required = true; range = Some (record { start_inclusive = 1; end_inclusive = usize_max }) }

-- a command with more words that have to be there
abbrev pub with_words : App → List Text → App
with_words app ids = fold (λ app id. with_rule app (one_word id)) app ids

-- and with all words that are left, if it goes on
abbrev pub with_rest : Bool → App → App
with_rest true app = with_rule app (more_words (codes "parameters"))
with_rest false app = app

-- a subcommand by its name, the words that have to be there, and whether it goes on
abbrev pub subcommand : Text → List Text → Bool → App
subcommand name words goes_on = with_rest goes_on (with_words (new_app name) words)

-- a command with more subcommands
abbrev pub with_subcommands : App → List App → App
with_subcommands app subs = fold (λ app sub. with_subcommand app sub.top) app subs

-- the program: one of its subcommands, and no other word
abbrev pub command_alone : App
command_alone =
    let app = new_app (codes "spb") in
    record app { top = record app.top { no_binary_name = true; disable_help_flag = true; disable_help_subcommand = true; subcommand_required = true } }

-- with its subcommands
abbrev pub command_spb : App
command_spb = with_subcommands command_alone (
    subcommand (codes "mem") (codes "kind" ∷ []) true
    ∷ subcommand (codes "make") (codes "file" ∷ codes "curve" ∷ codes "pivots" ∷ codes "cap" ∷ codes "kind" ∷ []) true
    ∷ subcommand (codes "run") (codes "file" ∷ []) false
    ∷ subcommand (codes "check") (codes "file" ∷ []) false
    ∷ subcommand (codes "trial") (codes "file" ∷ codes "seed" ∷ codes "count" ∷ []) false
    ∷ [])

-- the subcommand of a form
abbrev pub subcommand_in : Form → App
subcommand_in form = subcommand form.name.now (map (λ id. id.now) form.words.now) form.goes_on
