-- What the engines answer over rows is the reply of each state that has these rows.
use Rattle.std.proofs.Common.{◌≡◌, ℕ, Bool, true, List, sym, ap, subst, ◌∙◌}
use Rattle.std.specs.Prelude.{◌==◌, All, if◌then◌else◌}
use Rattle.metrics_builtin.specs.declared.Space.{Space}
use Rattle.metrics_builtin.specs.Space.{IsValid, dist}
use Rattle.spb_defs.specs.declared.RangeAnswer.{RangeAnswer}
use Rattle.spb_defs.specs.declared.NearAnswer.{NearAnswer}
use Rattle.spb_defs.specs.declared.JoinAnswer.{JoinAnswer}
use Rattle.spb_defs.specs.declared.Reply.TheVariants.{Curve}
use Rattle.spb_defs.specs.declared.Command.TheVariants as command
use Rattle.spb_defs.specs.MetricOf.{IsMetricOf}
use Rattle.spb_defs.specs.Pivots.{cells_of}
use Rattle.spb_defs.specs.Scans.{range_answer, near_answer, considered_pairs, join_answer}
use Rattle.spb_defs.specs.State.{State, allows_joins, entries_in}
use Rattle.spb_defs.specs.Step.{range_reply, near_reply, join_reply, reply_of}
use Rattle.pivot_map.specs.declared.row.Row.{Row}
use Rattle.pivot_map.specs.Rows.{ArePivots, AreRows, entries_of}
use Rattle.scan_laws.specs.RowOrder.{range_answer-moved, near_answer-moved, considered_pairs-moved, join_answer-moved}
use Rattle.session.specs.Queries.{HoldsRows}

-- ---- rows and pivots of a space are what its metric measures

module _ (admitted : List ℕ → Type 0) (distance : List ℕ → List ℕ → ℕ) (space : Space) (is : IsMetricOf admitted distance space) (pivots : List (List ℕ)) where
  pub measured_pivots : ArePivots (IsValid space) pivots → ArePivots admitted pivots
  measured_pivots are = record { few = are.few; objects = λ k d below. (is.admits _).1 (are.objects k d below) }

  pub measured_rows : (rows : List Row) → AreRows (IsValid space) (dist space) pivots rows → AreRows admitted distance pivots rows
  measured_rows rows are = record {
    few = are.few;
    objects = λ k d below. (is.admits _).1 (are.objects k d below);
    vects = subst (λ (f : List ℕ → List ℕ → ℕ). All (λ (row : Row). row.vect ≡ cells_of f pivots row.object) rows) (sym is.distance_is) are.vects;
    ids = are.ids;
  }

-- ---- answers

module _ (admitted : List ℕ → Type 0) (distance : List ℕ → List ℕ → ℕ) (s : State) (is : IsMetricOf admitted distance s.space) (pivots : List (List ℕ)) where
  pub range_said : (c radius : ℕ) (query : List ℕ) (rows : List Row) (answer : RangeAnswer) → HoldsRows s c pivots rows
      → answer ≡ range_answer distance pivots (entries_of rows) query radius
      → range_reply answer ≡ reply_of s (command.Range c radius query)
  unfolding reply_of
  range_said c radius query rows answer holds found =
      ap range_reply
      (found
      ∙ ap (λ (f : List ℕ → List ℕ → ℕ). range_answer f pivots (entries_of rows) query radius) is.distance_is
      ∙ ap (λ (ps : List (List ℕ)). range_answer (dist s.space) ps (entries_of rows) query radius) (sym holds.pivots)
      ∙ sym (range_answer-moved (dist s.space) s.pivots (entries_in s.members c) (entries_of rows) holds.rows query radius))

  pub near_said : (c k : ℕ) (query : List ℕ) (rows : List Row) (answer : NearAnswer) → HoldsRows s c pivots rows
      → answer ≡ near_answer distance pivots (entries_of rows) query k
      → near_reply answer ≡ reply_of s (command.Near c k query)
  unfolding reply_of
  near_said c k query rows answer holds found =
      ap near_reply
      (found
      ∙ ap (λ (f : List ℕ → List ℕ → ℕ). near_answer f pivots (entries_of rows) query k) is.distance_is
      ∙ ap (λ (ps : List (List ℕ)). near_answer (dist s.space) ps (entries_of rows) query k) (sym holds.pivots)
      ∙ sym (near_answer-moved (dist s.space) s.pivots (entries_in s.members c) (entries_of rows) holds.rows query k))

  pub join_said : (c d radius : ℕ) (left right : List Row) (answer : JoinAnswer) → allows_joins s.curve ≡ true → HoldsRows s c pivots left
      → HoldsRows s d pivots right
      → answer ≡ join_answer distance pivots (considered_pairs (c == d) (entries_of left) (entries_of right)) radius
      → join_reply answer ≡ reply_of s (command.Join c d radius)
  unfolding reply_of
  join_said c d radius left right answer joined lefts rights found =
      let own = considered_pairs (c == d) (entries_of left) (entries_of right) in
      let all = considered_pairs (c == d) (entries_in s.members c) (entries_in s.members d) in
      let moved = considered_pairs-moved (c == d) (entries_in s.members c) (entries_of left) (entries_in s.members d) (entries_of right)
      lefts.rows rights.rows in
      ap join_reply
      (found
      ∙ ap (λ (f : List ℕ → List ℕ → ℕ). join_answer f pivots own radius) is.distance_is
      ∙ ap (λ (ps : List (List ℕ)). join_answer (dist s.space) ps own radius) (sym lefts.pivots)
      ∙ sym (join_answer-moved (dist s.space) s.pivots all own moved radius))
      ∙ sym (ap (λ (b : Bool). if b then join_reply (join_answer (dist s.space) s.pivots all radius) else Curve) joined)
