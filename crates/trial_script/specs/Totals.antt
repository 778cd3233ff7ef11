-- What the replies of a trial come to, and the line that says it.
use Rattle.std.specs.Prelude.{ℕ, ◌+◌, ◌-◌, ◌^◌, min, List, [], ◌∷◌, ◌++◌, length, sum_by, count_by, codes}
use Rattle.std.specs.Fmt.{decimal}
use Rattle.spb_edge.specs.declared.reader.Line.{Line}
use Rattle.spb_defs.specs.declared.Reply.{Reply}
use Rattle.spb_defs.specs.declared.Reply.TheVariants.{Range, Near, Join}
use Rattle.spb_defs.specs.State.{State}
use Rattle.spb_defs.specs.Step.{reply, next_state}
use Rattle.spb_defs.specs.Changes.{is_ok}
use Rattle.trial_script.specs.declared.totals.Tally.{Tally}
use Rattle.trial_script.specs.declared.totals.Totals.{Totals}
use Rattle.trial_script.specs.Script.{trial_state, trial_lines}

-- the replies to the lines from a state on
abbrev pub replies_of : State → List Line → List Reply
replies_of s [] = []
replies_of s (line ∷ lines) = reply s line ∷ replies_of (next_state s line) lines

-- ---- sums

abbrev pub no_tally : Tally
no_tally = record { found = 0; evals = 0; sure = 0 }

-- the numbers of the answer to a range: of any other reply 0
abbrev pub range_tally : Reply → Tally
range_tally (Range ids evals sure) = record { found = length ids; evals = evals; sure = sure }
range_tally _ = no_tally

-- of the answer to a question for the nearest
abbrev pub near_tally : Reply → Tally
near_tally (Near rows evals) = record { found = length rows; evals = evals; sure = 0 }
near_tally _ = no_tally

-- of the answer to a join
abbrev pub join_tally : Reply → Tally
join_tally (Join pairs evals sure) = record { found = length pairs; evals = evals; sure = sure }
join_tally _ = no_tally

-- the sums of such numbers over all replies
abbrev pub tally_by : (Reply → Tally) → List Reply → Tally
tally_by tally replies = record {
  found = sum_by (λ r. (tally r).found) replies;
  evals = sum_by (λ r. (tally r).evals) replies;
  sure = sum_by (λ r. (tally r).sure) replies;
}

-- how many replies are `ok`, and the sums over the ranges, the questions for the nearest and the joins
abbrev pub totals_of : List Reply → Totals
totals_of replies = record {
  changes = count_by is_ok replies;
  range = tally_by range_tally replies;
  near = tally_by near_tally replies;
  join = tally_by join_tally replies;
}

-- ---- the line

-- a name, how many were found, and how many distances were computed
abbrev pub found_text : List ℕ → Tally → List ℕ
found_text name tally = name ++ decimal tally.found ++ codes " evals " ++ decimal tally.evals

-- the same, and how many were sure
abbrev pub sure_text : List ℕ → Tally → List ℕ
sure_text name tally = found_text name tally ++ codes " sure " ++ decimal tally.sure

unfoldable pub summary_text : Totals → List ℕ
summary_text t =
    codes "trial changes " ++ decimal t.changes ++ sure_text (codes " range ") t.range ++ found_text (codes " near ") t.near
    ++ sure_text (codes " join ") t.join ++ 10 ∷ []

-- what the replies to the lines of a trial come to
abbrev pub trial_totals : ℕ → ℕ → Totals
trial_totals seed count = totals_of (replies_of (trial_state seed) (trial_lines seed count))

-- the line that a trial writes
abbrev pub trial_text : ℕ → ℕ → List ℕ
trial_text seed count = summary_text (trial_totals seed count)

-- ---- sums in 64 bits

-- the number, or the greatest one in 64 bits
abbrev pub cap : ℕ → ℕ
cap n = min n (2 ^ 64 - 1)

abbrev pub capped_tally : Tally → Tally
capped_tally tally = record { found = cap tally.found; evals = cap tally.evals; sure = cap tally.sure }

-- a tally and more numbers
abbrev pub tally_and : Tally → ℕ → ℕ → ℕ → Tally
tally_and tally found evals sure = record { found = tally.found + found; evals = tally.evals + evals; sure = tally.sure + sure }

-- each sum as far as 64 bits hold it
abbrev pub capped : Totals → Totals
capped t = record { changes = cap t.changes; range = capped_tally t.range; near = capped_tally t.near; join = capped_tally t.join }
