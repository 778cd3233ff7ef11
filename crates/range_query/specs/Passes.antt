-- What is passed over: rows for a query, and pairs of rows.
use Rattle.std.specs.Prelude.{◌≡◌, ℕ, Bool, nat_le, List, length, map, drop, All, if◌then◌else◌}
use Rattle.metric_laws.specs.Objects.{Object, Distance}
use Rattle.pivot_map.specs.declared.row.Row.{Row}
use Rattle.pivot_map.specs.Verdicts.{query_verdict}
use Rattle.query_pass.specs.declared.verdict.Verdict.{Verdict}
use Rattle.query_pass.specs.Verdicts.{verdict_of}
use Rattle.query_pass.specs.Pairs.{ordered_pair}

-- rows of objects that are measured, with vectors of one length
pub record AreAlike (admitted : Object → Type 0) (coordinates : ℕ) (rows : List Row) : Type 0 where
  pub objects : All (λ (row : Row). admitted row.object) rows
  pub vectors : All (λ (row : Row). coordinates ≡ length row.vect) rows

-- the verdict on the query, by its vector, and a row
abbrev pub verdict_of_row : Distance → List ℕ → List ℕ → ℕ → Row → Verdict
verdict_of_row dist asked query radius row = verdict_of (query_verdict asked radius row.vect) (nat_le (dist query row.object) radius)

-- the pairs of a row with each of the others
abbrev pub pairs_of : Bool → List Row → Row → List (Row × Row)
pairs_of same others left = map (ordered_pair same left) others

-- the rows that a row is paired with: all on the right, or within one list those from a place on
abbrev pub partners_of : Bool → List Row → ℕ → List Row
partners_of same right next = if same then drop next right else right
