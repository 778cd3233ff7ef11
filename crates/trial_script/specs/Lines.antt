-- The lines of a trial one by one.
use Rattle.std.specs.Prelude.{◌≡◌, ℕ, ◌+◌, ◌-◌, ◌/◌, ◌%◌, nat_lt, List, [], ◌∷◌, map, Option, Some, None, if◌then◌else◌}
use Rattle.std.specs.List.{range_with_len}
use Rattle.spb_edge.specs.declared.reader.Line.{Line}
use Rattle.spb_edge.specs.declared.reader.Line.TheVariants.{End}
use Rattle.spb_defs.specs.declared.Command.{Command}
use Rattle.spb_defs.specs.declared.Command.TheVariants.{Add, Range, Near, Join}
use Rattle.trial_script.specs.Draws.{drawn_object}
use Rattle.trial_script.specs.Script.{trial_line}

-- the command at a place, with its object
abbrev pub command_at : ℕ → ℕ → List ℕ → Command
command_at count place object =
    if nat_lt place count then Add (place % 2) (place / 2) object
    else (if nat_lt place (count + 16) then Range 1 400 object else (if nat_lt place (count + 32) then Near 0 5 object else Join 0 1 60))

-- the lines from a place on, whose objects are drawn from the state on
unfoldable pub lines_from : ℕ → ℕ → ℕ → List Line
lines_from state place count = map (λ k. trial_line (command_at count (place + k) (drawn_object state k))) (range_with_len 0 (count + 33 - place))

-- the next of the lines that are left, which the others follow, or none if none is left
abbrev pub GivesNext : Option Line → List Line → List Line → Type 0
GivesNext (Some line) before after = (before ≡ line ∷ after) × (line ≡ End → ⊥)
GivesNext None before after = (before ≡ []) × (after ≡ [])
