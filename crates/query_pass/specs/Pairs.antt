-- Rows, pairs of rows, and the verdict on a pair.
use Rattle.std.specs.Prelude.{◌≡◌, ℕ, ◌&&◌, Bool, nat_lt, nat_le, List, All, if◌then◌else◌}
use Rattle.metric_laws.specs.Objects.{Object, Distance}
use Rattle.metric_laws.specs.Log.{MeasuredPair}
use Rattle.spb_defs.specs.Pivots.{cells_of}
use Rattle.spb_defs.specs.Scans.{Entry}
use Rattle.pivot_map.specs.Rows.{entry_of}
use Rattle.pivot_map.specs.Verdicts.{pair_verdict}
use Rattle.pivot_map.specs.declared.row.Row.{Row}
use Rattle.query_pass.specs.declared.verdict.Verdict.{Verdict}
use Rattle.query_pass.specs.Verdicts.{verdict_of}

-- an object that is measured, with its cells
pub record IsRow (admitted : Object → Type 0) (dist : Distance) (pivots : List Object) (row : Row) : Type 0 where
  pub object : admitted row.object
  pub vector : row.vect ≡ cells_of dist pivots row.object

-- pairs of such rows
pub record ArePairs (admitted : Object → Type 0) (dist : Distance) (pivots : List Object) (pairs : List (Row × Row)) : Type 0 where
  pub left : All (λ (pair : Row × Row). IsRow admitted dist pivots pair.0) pairs
  pub right : All (λ (pair : Row × Row). IsRow admitted dist pivots pair.1) pairs

-- the ids and objects of the two
abbrev pub pair_entries : Row × Row → Entry × Entry
pair_entries pair = (entry_of pair.0, entry_of pair.1)

abbrev pub pair_ids : Row × Row → ℕ × ℕ
pair_ids pair = (pair.0.id, pair.1.id)

abbrev pub pair_objects : Row × Row → MeasuredPair
pair_objects pair = (pair.0.object, pair.1.object)

-- the verdict on the two
abbrev pub verdict_of_pair : Distance → ℕ → Row × Row → Verdict
verdict_of_pair dist radius pair = verdict_of (pair_verdict pair.0.vect radius pair.1.vect) (nat_le (dist pair.0.object pair.1.object) radius)

-- the two rows, within one list with the lesser id on the left
abbrev pub ordered_pair : Bool → Row → Row → Row × Row
ordered_pair same left right = if same && nat_lt right.id left.id then (right, left) else (left, right)
