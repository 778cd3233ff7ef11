-- The store on which a trial begins, and the crashes of the trial.
use Rattle.std.proofs.Common.{◌≡◌, ◌⊎◌, inl, inr, ℕ, List, length, refl, sym, ap, subst, ◌∙◌, arith}
use Rattle.std.specs.Prelude.{min, IsTrue}
use Rattle.spb_edge.specs.declared.disk.Disk as disk
use Rattle.spb_edge.specs.Lines.{lines_of}
use Rattle.spb_edge.specs.Crash.{Includes, IsDurable}
use Rattle.spb_edge.specs.Moments.{started, weaker, joined}
use Rattle.spb_edge.specs.Quiet.{calmly}
use Rattle.metric_laws.specs.Objects.{Object}
use Rattle.metrics_builtin.specs.Space.{dist}
use Rattle.spb_defs.specs.declared.Asked.TheVariants.{Trial}
use Rattle.spb_defs.specs.declared.TheConstants.{LINE_LIMIT}
use Rattle.spb_defs.specs.Changes.{changes}
use Rattle.spb_defs.specs.Choice.{chosen_samples}
use Rattle.spb_defs.specs.State.{empty_in_file}
use Rattle.store_check.specs.declared.profile.Profile.{Profile}
use Rattle.store_check.specs.Stands.{Stands, IsNoStore}
use Rattle.trial_script.specs.Script.{trial_space, trial_samples, trial_state, trial_lines, trial_script}
use Rattle.spb_top.specs.declared.making.Plan.{Plan}
use Rattle.spb_top.specs.Outside.{Outside}
use Rattle.spb_top.specs.Files.{MayLeave}
use Rattle.spb_top.specs.Plans.{IsChosen, new_profile}
use Rattle.spb_top.specs.Trials.{trial_plan}
use Rattle.spb_top.specs.Turns.{StandsForOne, states_through}
use Rattle.spb_top.proofs.OpenedFiles.{Leaves, Quiet}
use Rattle.spb_top.proofs.ServedFiles.{through_changes}

-- it has the pivots that are chosen from the trial's samples
pub trial_is : (seed many : ℕ) (plan : Plan) (profile : Profile) (samples pivots chosen : List Object) (evals : ℕ) → plan ≡ trial_plan
    → profile ≡ new_profile plan many → samples ≡ trial_samples seed → length samples ≡ 16 → pivots ≡ chosen → IsChosen plan samples chosen evals
    → empty_in_file profile.space profile.curve pivots profile.cap ≡ trial_state seed
unfolding trial_state
trial_is seed many plan profile samples pivots chosen evals planned profiled drawn sixteen same is =
    let of_plan : IsChosen trial_plan samples chosen evals = subst (λ p. IsChosen p samples chosen evals) planned is in
    let four : pivots ≡ chosen_samples (dist trial_space) samples 4 =
    same ∙ of_plan.pivots_are ∙ ap (λ n. chosen_samples (dist trial_space) samples (min 4 n)) sixteen in
    ap (λ (p : Profile). empty_in_file p.space p.curve pivots p.cap) (profiled ∙ ap (λ (p : Plan). new_profile p many) planned)
    ∙ ap (λ (objects : List Object). empty_in_file trial_space trial_plan.curve objects 65536)
    (four ∙ ap (λ (objects : List Object). chosen_samples (dist trial_space) objects 4) drawn)

-- ---- crashes

-- what is no store, or stands for a state of the changes
abbrev pub IsOnTheWay : ℕ → ℕ → List ℕ → Type 0
IsOnTheWay seed count c = IsNoStore c ⊎ StandsForOne (changes (trial_state seed) (trial_script seed count)) c

module _ (seed count : ℕ) (read : lines_of LINE_LIMIT (trial_script seed count) ≡ trial_lines seed count) where
  of_made : (c : List ℕ) → IsNoStore c ⊎ Stands c (trial_state seed) → IsOnTheWay seed count c
  of_made c (inl no_store) = inl no_store
  of_made c (inr stands) = inr (trial_state seed, (0, omega arith, refl), stands)

  of_run : (image c : List ℕ) → Stands image (trial_state seed) → StandsForOne (states_through (trial_state seed) (trial_lines seed count)) c → IsOnTheWay seed count c
  of_run image c stood has =
      inr (through_changes image (trial_state seed) stood (trial_script seed count) c
      (subst (λ lines. StandsForOne (states_through (trial_state seed) lines) c) (sym read) has))

  module _ {D : Type 0} (E : disk.Ghosts D) where
    -- while the store is made
    pub leaves_made : (old new : D) → Leaves E old new (λ c. IsNoStore c ⊎ Stands c (trial_state seed)) → Leaves E old new (IsOnTheWay seed count)
    leaves_made old new = weaker E.moment E.crash_states_since old new (λ c. IsNoStore c ⊎ Stands c (trial_state seed)) (IsOnTheWay seed count) of_made

    -- and while the script runs on it
    pub leaves_run : (old mid new : D) → Stands (E.image mid) (trial_state seed) → Leaves E old mid (λ c. IsNoStore c ⊎ Stands c (trial_state seed))
        → Leaves E mid new (StandsForOne (states_through (trial_state seed) (trial_lines seed count))) → Leaves E old new (IsOnTheWay seed count)
    leaves_run old mid new stood making running =
        joined E.moment E.crash_states_since old mid new (IsOnTheWay seed count) (leaves_made old mid making)
        (weaker E.moment E.crash_states_since mid new (StandsForOne (states_through (trial_state seed) (trial_lines seed count))) (IsOnTheWay seed count)
        (λ c. of_run (E.image mid) c stood) running)

-- after the size was asked for
pub asked_and_run : {D : Type 0} (E : disk.Ghosts D) (seed count : ℕ) (o : Outside) (old asked new : D) → Quiet E old asked
    → Includes (E.crash_states old) (E.crash_states_since old (E.moment old)) → IsDurable (E.image old) (E.crash_states old) → length (E.image old) ≡ 0
    → (IsDurable (E.image asked) (E.crash_states asked) → Leaves E asked new (IsOnTheWay seed count))
    → IsTrue (E.is_known old) → Leaves E old new (MayLeave (Trial seed count) o)
asked_and_run E seed count o old asked new quiet only_now durable none running known =
    let P = MayLeave (Trial seed count) o in
    let here : (c : List ℕ) → E.crash_states old c → P c = λ c left _. inl (inl (omega (arith, ap length (durable c left), none))) in
    joined E.moment E.crash_states_since old asked new P
    (calmly E.is_known E.knows_crashes E.size_of E.image E.crash_states E.moment E.crash_states_since old old asked P
    (started E.moment E.crash_states_since old P (λ c left. here c (only_now c left))) quiet here)
    (weaker E.moment E.crash_states_since asked new (IsOnTheWay seed count) P (λ c on_the_way _. on_the_way)
    (running (λ c left. durable c (quiet.no_more c left) ∙ sym (quiet.image_is known))))
