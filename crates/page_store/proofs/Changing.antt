-- A change that is committed and settled, as one run.
use Rattle.std.proofs.Common.{◌≡◌, inr, ℕ, Bool, false, IsTrue, List, Result, sym, subst}
use Rattle.std.specs.Prelude.{OnOk}
use Rattle.spb_edge.specs.Crash.{IsDurable, CrashesLeaveOnly}
use Rattle.spb_edge.specs.Moments.{weaker, joined}
use Rattle.redo_journal.specs.Redo.{RecoversTo, overlay, has_open_gate}
use Rattle.redo_journal.specs.Change.{HoldsChange, Commits, IsBeforeOrAfter}

module _ {D : Type 0} (is_known knows_crashes : D → Bool) (image : D → List ℕ) (crash_states : D → List ℕ → Type 0) (moment : D → ℕ)
    (crash_states_since : D → ℕ → List ℕ → Type 0) where
  -- what a commit says of its moments
  abbrev pub CommitSays : D → ℕ → List (ℕ × List ℕ) → D → Type 0
  CommitSays start total entries new = IsTrue (is_known start) → IsTrue (knows_crashes start) → IsDurable (image start) (crash_states start)
      → (marks : List ℕ) (home : ℕ → List ℕ) → RecoversTo total (image start) marks home → has_open_gate (image start) ≡ false
      → CrashesLeaveOnly moment crash_states_since start new (IsBeforeOrAfter total entries marks home)

  -- what one that succeeded says of the image
  abbrev pub CommitLeaves : D → ℕ → List (ℕ × List ℕ) → D → Type 0
  CommitLeaves start total entries new = IsTrue (is_known start) → Commits total entries (image start) (image new)

  -- what settling says of its moments, of a change that the journal holds
  abbrev pub SettleSays : ℕ → List (ℕ × List ℕ) → D → D → Type 0
  SettleSays total entries mid new = IsTrue (is_known mid) → IsTrue (knows_crashes mid) → IsDurable (image mid) (crash_states mid)
      → HoldsChange entries (image mid) → (marks : List ℕ) (home : ℕ → List ℕ) → RecoversTo total (image mid) marks home
      → CrashesLeaveOnly moment crash_states_since mid new (λ c. RecoversTo total c marks home)

  -- what it says of the image
  abbrev pub SettleLeaves : {E : Type 0} → Result Unit E → ℕ → List (ℕ × List ℕ) → D → D → Type 0
  SettleLeaves result total entries mid new = IsTrue (is_known mid) → HoldsChange entries (image mid) → (marks : List ℕ) (home : ℕ → List ℕ)
      → RecoversTo total (image mid) marks home → OnOk result (RecoversTo total (image new) marks home)

  -- both together leave the pages without the change or with it
  pub settled : (start mid new : D) (total t : ℕ) (entries es : List (ℕ × List ℕ)) → t ≡ total → es ≡ entries → is_known mid ≡ is_known start
      → knows_crashes mid ≡ knows_crashes start → CommitSays start total entries mid → CommitLeaves start total entries mid
      → (IsTrue (is_known start) → IsTrue (knows_crashes start) → IsDurable (image mid) (crash_states mid)) → SettleSays t es mid new
      → CommitSays start total entries new
  settled start mid new total t entries es of_total of_entries same same_crashes says leaves kept settles = λ known crashes durable marks home stands closed.
      let after : Commits total entries (image start) (image mid) = leaves known in
      let all : SettleSays total entries mid new =
      subst (λ (n : ℕ). SettleSays n entries mid new) of_total (subst (λ (xs : List (ℕ × List ℕ)). SettleSays t xs mid new) of_entries settles) in
      joined moment crash_states_since start mid new (IsBeforeOrAfter total entries marks home)
      (says known crashes durable marks home stands closed)
      (weaker moment crash_states_since mid new (λ c. RecoversTo total c marks (overlay entries home)) (IsBeforeOrAfter total entries marks home)
      (λ c has. inr has)
      (all (subst IsTrue (sym same) known) (subst IsTrue (sym same_crashes) crashes) (kept known crashes) after.holds marks (overlay entries home)
      (after.stands marks home stands closed)))

  -- and if they succeed the pages with it
  pub changed : {E : Type 0} (result : Result Unit E) (start mid new : D) (total t : ℕ) (entries es : List (ℕ × List ℕ)) → t ≡ total → es ≡ entries
      → is_known mid ≡ is_known start → CommitLeaves start total entries mid → SettleLeaves result t es mid new → IsTrue (is_known start)
      → (marks : List ℕ) (home : ℕ → List ℕ) → RecoversTo total (image start) marks home → has_open_gate (image start) ≡ false
      → OnOk result (RecoversTo total (image new) marks (overlay entries home))
  changed {E} result start mid new total t entries es of_total of_entries same leaves settles = λ known marks home stands closed.
      let after : Commits total entries (image start) (image mid) = leaves known in
      let all : SettleLeaves result total entries mid new =
      subst (λ (n : ℕ). SettleLeaves result n entries mid new) of_total
      (subst (λ (xs : List (ℕ × List ℕ)). SettleLeaves result t xs mid new) of_entries settles) in
      all (subst IsTrue (sym same) known) after.holds marks (overlay entries home) (after.stands marks home stands closed)
