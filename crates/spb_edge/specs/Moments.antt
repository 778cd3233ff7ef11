-- How a run of calls goes on, as to its crash states.
use Rattle.std.proofs.Common.{inl, inr, ⊎_elim, ℕ, List, arith}
use Rattle.spb_edge.specs.Crash.{Elapses, CrashesLeaveOnly}

module _ {D : Type 0} (moment : D → ℕ) (crash_states_since : D → ℕ → List ℕ → Type 0) where
  -- before the first call
  pub started : (old : D) (P : List ℕ → Type 0) → ((c : List ℕ) → crash_states_since old (moment old) c → P c)
      → CrashesLeaveOnly moment crash_states_since old old P
  started old P here = record { later = omega arith; each = here; before = λ t c le left. inl left }

  -- one call more, after which a crash leaves what has P
  pub goes_on : (old mid new : D) (P crash_states : List ℕ → Type 0) → CrashesLeaveOnly moment crash_states_since old mid P
      → Elapses (moment mid) (moment new) (crash_states_since mid) (crash_states_since new) crash_states
      → ((c : List ℕ) → crash_states c → P c) → CrashesLeaveOnly moment crash_states_since old new P
  goes_on old mid new P crash_states so_far time here = record {
    later = omega (arith, so_far.later, time.later);
    each = λ c left. ⊎_elim (so_far.each c) (here c) (time.nothing_else (moment old) c so_far.later left);
    before = λ t c le left. ⊎_elim (so_far.before t c le) (λ now. inr (here c now)) (time.nothing_else t c (omega (arith, le, so_far.later)) left);
  }

  -- what has P has Q
  pub weaker : (old new : D) (P Q : List ℕ → Type 0) → ((c : List ℕ) → P c → Q c) → CrashesLeaveOnly moment crash_states_since old new P
      → CrashesLeaveOnly moment crash_states_since old new Q
  weaker old new P Q of run = record {
    later = run.later;
    each = λ c left. of c (run.each c left);
    before = λ t c le left. ⊎_elim (λ was. inl was) (λ has. inr (of c has)) (run.before t c le left);
  }

  -- one run after another
  pub joined : (old mid new : D) (P : List ℕ → Type 0) → CrashesLeaveOnly moment crash_states_since old mid P
      → CrashesLeaveOnly moment crash_states_since mid new P → CrashesLeaveOnly moment crash_states_since old new P
  joined old mid new P first second = record {
    later = omega (arith, first.later, second.later);
    each = λ c left. ⊎_elim (first.each c) (λ has. has) (second.before (moment old) c first.later left);
    before = λ t c le left. ⊎_elim (first.before t c le) (λ has. inr has) (second.before t c (omega (arith, le, first.later)) left);
  }
