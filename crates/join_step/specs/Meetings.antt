-- An entry that comes to a window, and what was judged of its pairs.
use Rattle.std.specs.Prelude.{◌≡◌, ℕ, ◌+◌, ◌-◌, ◌≤◌, nat_lt, if◌then◌else◌, List, map, Option}
use Rattle.metric_laws.specs.Objects.{Distance}
use Rattle.metric_laws.specs.Log.{MeasuredPair}
use Rattle.query_pass.specs.declared.found.Found.{Found}
use Rattle.query_pass.specs.Findings.{PassesOver, MeasuresOpen}
use Rattle.query_pass.specs.Pairs.{verdict_of_pair, pair_ids, pair_objects}
use Rattle.bptree_node.specs.declared.rows.Entry.{Entry}
use Rattle.z_curve.specs.ZOrder.{z_cell}
use Rattle.join_window.specs.Corners.{reach}
use Rattle.join_window.specs.declared.window.Reaching.{Reaching}
use Rattle.pair_entries.specs.PairEntries.{rows_at}
use Rattle.join_step.specs.declared.placing.Placing.{Placing}
use Rattle.join_step.specs.declared.placing.Placing.TheVariants.{ByIds, LaterRight, LaterLeft}

-- the entry with its cell and how far it reaches
abbrev pub reaching : (axes bits radius : ℕ) → Entry → Reaching
reaching axes bits radius e = record { upper = reach bits radius (z_cell axes bits e.key); entry = e; cell = z_cell axes bits e.key }

-- an earlier and a later entry as a pair
abbrev pub placed : Placing → Reaching → Reaching → Reaching × Reaching
placed ByIds earlier later = if nat_lt later.entry.id earlier.entry.id then (later, earlier) else (earlier, later)
placed LaterRight earlier later = (earlier, later)
placed LaterLeft earlier later = (later, earlier)

-- the pairs of a later entry with earlier ones
abbrev pub pairs_with : Placing → Reaching → List Reaching → List (Reaching × Reaching)
pairs_with placing later held = map (λ earlier. placed placing earlier later) held

-- Whatever the pages hold, at most so many pairs were judged: the distances that were evaluated were counted, each once.
pub record Tallies {K : Type 0} (most : ℕ) (before after : Found K) (count count' : ℕ) : Type 0 where
  pub least : before.evals ≤ after.evals
  pub few : after.evals ≤ before.evals + most
  pub few_sure : after.sure ≤ before.sure + most
  pub counted : count' ≡ count + (after.evals - before.evals)

-- Over these pages these pairs were judged and noted, and those left open were measured.
pub record GoesOver (dist : Distance) (radius : ℕ) (pages : ℕ → List ℕ) (pairs : List (Reaching × Reaching)) (before after : Found (ℕ × ℕ))
    (count : ℕ) (log : Option (List MeasuredPair)) (count' : ℕ) (log' : Option (List MeasuredPair)) : Type 0 where
  pub found : PassesOver (verdict_of_pair dist radius) pair_ids (map (rows_at pages) pairs) before after
  pub measured : MeasuresOpen (verdict_of_pair dist radius) pair_objects (map (rows_at pages) pairs) count log count' log'
