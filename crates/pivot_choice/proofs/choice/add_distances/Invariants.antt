use Rattle.std.proofs.Common.{◌≡◌, ℕ, ◌+◌, ◌<◌, ◌≤◌, length, take, slice_index, count_by}
use Rattle.metric_laws.specs.Log.{LogExtends, each_with}
use Rattle.spb_defs.specs.Choice.{sample_at}
use Rattle.pivot_choice.specs.Worths.{is_unchosen, updated_worth, unchosen_among_first}
use Rattle.pivot_choice.proofs.choice.add_distances.Given as goal

-- the places so far have their new worths, and this many were measured; the others are as they were
abbrev pub invariant-loop-place : goal.invariant-loop-place
invariant-loop-place g l =
    let kind = g.R.Ruler.kind l.fn.ruler in
    record {
      same_length : length l.worths ≡ length l.fn.worths;
      passed : (k : ℕ) → k < l.place → slice_index l.worths k ≡ updated_worth (g.R.Ruler.dist kind) l.sample l.chosen k (slice_index l.fn.worths k);
      ahead : (k : ℕ) → l.place ≤ k → slice_index l.worths k ≡ slice_index l.fn.worths k;
      rise : (k : ℕ) → slice_index l.worths k ≤ slice_index l.fn.worths k + 4294967295;
      kind_is : g.R.Ruler.kind l.ruler ≡ kind;
      count_is : g.R.Ruler.count l.ruler ≡ g.R.Ruler.count l.fn.ruler + count_by is_unchosen (take l.place l.fn.worths);
      grew : LogExtends (g.R.Ruler.log l.fn.ruler) (g.R.Ruler.log l.ruler)
          (each_with (sample_at l.sample l.chosen) (unchosen_among_first l.fn.worths l.sample l.place));
    }
