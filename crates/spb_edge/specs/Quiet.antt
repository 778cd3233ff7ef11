-- A quiet stretch: calls that leave a disk, and what a crash may leave of it, as they were.
use Rattle.std.proofs.Common.{◌≡◌, inl, inr, ⊎_elim, ℕ, Bool, List, IsTrue, refl, sym, ◌∙◌, subst, arith}
use Rattle.spb_edge.specs.Crash.{Includes, Elapses, CrashesLeaveOnly}
use Rattle.spb_edge.specs.Moments.{goes_on}

module _ {D : Type 0} (is_known knows_crashes : D → Bool) (size_of : D → ℕ) (image : D → List ℕ)
    (crash_states : D → List ℕ → Type 0) (moment : D → ℕ) (crash_states_since : D → ℕ → List ℕ → Type 0) where
  -- The length, the image if it is known, and the crash states are the same; a crash since the first state could leave
  -- no others; and time goes on.
  pub record IsQuiet (old new : D) : Type 0 where
    pub tells : is_known new ≡ is_known old
    pub tells_crashes_too : knows_crashes new ≡ knows_crashes old
    pub length_is : size_of new ≡ size_of old
    pub image_is : IsTrue (is_known old) → image new ≡ image old
    pub no_more : Includes (crash_states old) (crash_states new)
    pub no_fewer : Includes (crash_states new) (crash_states old)
    pub since : Includes (crash_states old) (crash_states_since new (moment old))
    pub time : Elapses (moment old) (moment new) (crash_states_since old) (crash_states_since new) (crash_states new)

  -- a state and itself
  pub quiet_same : (d : D) → Includes (crash_states d) (crash_states_since d (moment d)) → IsQuiet d d
  quiet_same d only_now = record {
    tells = refl;
    tells_crashes_too = refl;
    length_is = refl;
    image_is = λ _. refl;
    no_more = λ c left. left;
    no_fewer = λ c left. left;
    since = only_now;
    time = record { later = omega arith; nothing_else = λ t c le left. inl left; keeps = λ t c le left. left };
  }

  -- one quiet stretch after another
  pub quiet_chains : (old mid new : D) → IsQuiet old mid → IsQuiet mid new → IsQuiet old new
  quiet_chains old mid new first second = record {
    tells = second.tells ∙ first.tells;
    tells_crashes_too = second.tells_crashes_too ∙ first.tells_crashes_too;
    length_is = second.length_is ∙ first.length_is;
    image_is = λ tells. second.image_is (subst IsTrue (sym first.tells) tells) ∙ first.image_is tells;
    no_more = λ c left. first.no_more c (second.no_more c left);
    no_fewer = λ c left. second.no_fewer c (first.no_fewer c left);
    since = λ c left. ⊎_elim (first.since c) (λ now. first.no_more c (second.no_more c now)) (second.time.nothing_else (moment old) c first.time.later left);
    time = record {
      later = omega (arith, first.time.later, second.time.later);
      nothing_else = λ t c le left. ⊎_elim (λ was. ⊎_elim (λ past. inl past) (λ now. inr (second.no_fewer c now)) (first.time.nothing_else t c le was))
          (λ now. inr now)
          (second.time.nothing_else t c (omega (arith, le, first.time.later)) left);
      keeps = λ t c le left. second.time.keeps t c (omega (arith, le, first.time.later)) (first.time.keeps t c le left);
    };
  }

  -- a run goes on over a quiet stretch
  pub calmly : (old mid new : D) (P : List ℕ → Type 0) → CrashesLeaveOnly moment crash_states_since old mid P → IsQuiet mid new
      → ((c : List ℕ) → crash_states mid c → P c) → CrashesLeaveOnly moment crash_states_since old new P
  calmly old mid new P run quiet here = goes_on moment crash_states_since old mid new P (crash_states new) run quiet.time
      (λ c now. here c (quiet.no_more c now))
