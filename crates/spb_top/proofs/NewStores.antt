-- The making of a store's file.
use Rattle.std.proofs.Common.{◌≡◌, ◌⊎◌, ⊎_elim, inl, inr, ◌∙◌, ◌≤◌, Bool, List, [], ℕ, length, Option, Some, None, ap, subst, refl, arith}
use Rattle.std.specs.Prelude.{IfSome, ◌^◌}
use Rattle.spb_edge.specs.Crash.{IsDurable, Includes, CrashesLeaveOnly}
use Rattle.spb_edge.specs.Moments.{started, weaker, joined}
use Rattle.spb_edge.specs.Quiet.{IsQuiet, calmly}
use Rattle.metric_laws.specs.Objects.{Object}
use Rattle.spb_defs.specs.State.{State, empty_in_file}
use Rattle.store_check.specs.declared.profile.Profile.{Profile}
use Rattle.store_check.specs.Stands.{Stands, IsNoStore}
use Rattle.sample_lines.specs.declared.samples.SampleError.{SampleError}
use Rattle.sample_lines.specs.declared.samples.SampleError.TheVariants.{ReadFault, InputLimit, NoSample, BadSample, Memory}
use Rattle.sample_lines.specs.Answers.{RefusesScript, IsCausedBy, GivesSamples, AreKept}
use Rattle.metrics_builtin.specs.declared.Space.{Space}
use Rattle.spb_top.specs.declared.making.Plan.{Plan}
use Rattle.spb_top.specs.Outside.{Outside}
use Rattle.spb_top.specs.Causes.{MayWork, CauseOf, StopsSampling, unsampled_by}
use Rattle.spb_top.specs.Written.{made_line}
use Rattle.spb_top.specs.Files.{AreKeptOf, IsNewStore, IsLineOf, MayLeave, pivot_count}
use Rattle.spb_top.specs.Plans.{IsChosen, asked_plan, new_profile}

-- ---- what is made

-- a store of the plan's profile is the store of the plan
new_is : (plan : Plan) (many : ℕ) (profile : Profile) (pivots chosen : List Object) → profile ≡ new_profile plan many → pivots ≡ chosen
    → empty_in_file profile.space profile.curve pivots profile.cap ≡ empty_in_file plan.space plan.curve chosen plan.cap
new_is plan many profile pivots chosen is are =
    ap (λ (p : Profile). empty_in_file p.space p.curve pivots p.cap) is ∙ ap (λ (objects : List Object). empty_in_file plan.space plan.curve objects plan.cap) are

-- ---- what is known of the samples

-- what holds of whatever is known holds if something is known
if_some : {A : Type 0} (P : A → Type 0) (known : Option A) → ((x : A) → known ≡ Some x → P x) → IfSome known P
if_some P None of = tt
if_some P (Some x) of = of x refl

-- the samples that were read are those of the input
pub are_kept : (space : Space) (input left : Option (List ℕ)) (kept : List Object) → AreKept space kept
    → ((script : List ℕ) → input ≡ Some script → GivesSamples space script kept × (length script ≤ 2 ^ 30) × (left ≡ Some [])) → AreKeptOf space input kept
unfolding if_some
are_kept space input left kept are gives = record { given = if_some _ input (λ script told. (gives script told).0); some = are.some; few = are.few }

-- a store with the pivots chosen from them is the new one
pub stands_new : (plan : Plan) (input : Option (List ℕ)) (kept samples pivots : List Object) (evals : ℕ) → AreKeptOf plan.space input kept → samples ≡ kept
    → IsChosen plan samples pivots evals → (image : List ℕ) → Stands image (empty_in_file plan.space plan.curve pivots plan.cap)
    → IsNewStore plan.curve plan.pivots plan.cap plan.space input image
stands_new plan input kept samples pivots evals are same chosen image stands =
    let chosen_kept = subst (λ objects. IsChosen plan objects pivots evals) same chosen in
    (kept, are, subst (λ (objects : List Object). Stands image (empty_in_file plan.space plan.curve objects plan.cap)) chosen_kept.pivots_are stands)

-- and the line is that of the pivots chosen from them
pub line_is : (plan : Plan) (o : Outside) (kept samples pivots : List Object) (evals : ℕ) → AreKeptOf plan.space o.traffic.input kept → samples ≡ kept
    → IsChosen plan samples pivots evals → (line : List ℕ) → line ≡ made_line (length pivots) evals → IsLineOf (asked_plan plan) o line
line_is plan o kept samples pivots evals are same chosen line is =
    let chosen_kept = subst (λ objects. IsChosen plan objects pivots evals) same chosen in
    (kept, are, is ∙ ap (λ count. made_line count evals) chosen_kept.count ∙ ap (λ many. made_line (pivot_count plan.pivots kept) many) chosen_kept.evals_are)

-- ---- a crash while it is made

module _ {D : Type 0} (moment : D → ℕ) (crash_states_since : D → ℕ → List ℕ → Type 0) (plan : Plan) where
  -- a crash leaves the store of the plan, or no store
  pub leaves_new : (old new : D) (many : ℕ) (profile : Profile) (pivots chosen : List Object) → profile ≡ new_profile plan many → pivots ≡ chosen
      → CrashesLeaveOnly moment crash_states_since old new (λ c. IsNoStore c ⊎ Stands c (empty_in_file profile.space profile.curve pivots profile.cap))
      → CrashesLeaveOnly moment crash_states_since old new (λ c. IsNoStore c ⊎ Stands c (empty_in_file plan.space plan.curve chosen plan.cap))
  unfolding new_is
  leaves_new old new many profile pivots chosen is are =
      subst (λ (s : State). CrashesLeaveOnly moment crash_states_since old new (λ c. IsNoStore c ⊎ Stands c s)) (new_is plan many profile pivots chosen is are)

  -- the size is asked for, and then the file is made
  pub asks_and_makes : (start asked new : D) (is_known knows_crashes : D → Bool) (size_of : D → ℕ) (image : D → List ℕ) (crash_states : D → List ℕ → Type 0)
      (o : Outside) (pivots : List Object)
      → IsQuiet is_known knows_crashes size_of image crash_states moment crash_states_since start asked
      → Includes (crash_states start) (crash_states_since start (moment start)) → IsDurable (image start) (crash_states start)
      → length (image start) ≡ 0
      → ((c : List ℕ) → Stands c (empty_in_file plan.space plan.curve pivots plan.cap) → IsNewStore plan.curve plan.pivots plan.cap plan.space o.traffic.input c)
      → CrashesLeaveOnly moment crash_states_since asked new (λ c. IsNoStore c ⊎ Stands c (empty_in_file plan.space plan.curve pivots plan.cap))
      → CrashesLeaveOnly moment crash_states_since start new (MayLeave (asked_plan plan) o)
  asks_and_makes start asked new is_known knows_crashes size_of image crash_states o pivots quiet only_now only none is_new making =
      let here : (c : List ℕ) → crash_states start c → MayLeave (asked_plan plan) o c =
      λ c left _. inl (inl (omega (arith, ap length (only c left), none))) in
      joined moment crash_states_since start asked new (MayLeave (asked_plan plan) o)
      (calmly is_known knows_crashes size_of image crash_states moment crash_states_since start start asked (MayLeave (asked_plan plan) o)
      (started moment crash_states_since start (MayLeave (asked_plan plan) o) (λ c left. here c (only_now c left))) quiet here)
      (weaker moment crash_states_since asked new _ (MayLeave (asked_plan plan) o)
      (λ c. ⊎_elim (λ no_store _. inl no_store) (λ stands _. inr (is_new c stands))) making)

-- ---- why it isn't made

-- without samples nothing more is known of the lines that were read
pub stops_sampling : (e : SampleError) (space : Space) (script : List ℕ) (left : Option (List ℕ)) → RefusesScript e space script left
    → StopsSampling (unsampled_by e) space script left
stops_sampling ReadFault space script left refused = refused
stops_sampling InputLimit space script left refused = refused
stops_sampling NoSample space script left refused = refused
stops_sampling (BadSample line) space script left refused = refused
stops_sampling Memory space script left refused = tt

-- and why there are none is why the store isn't made
pub unsampled_cause : (plan : Plan) (e : SampleError) (o : Outside) (left : Option (List ℕ)) → MayWork (asked_plan plan) o
    → IsCausedBy e o.traffic.source.before o.traffic.source.now
    → ((script : List ℕ) → o.traffic.input ≡ Some script → RefusesScript e plan.space script left) → CauseOf (asked_plan plan) (unsampled_by e) o
unfolding if_some
unsampled_cause plan ReadFault o left may caused refused = (refl, may, caused.1)
unsampled_cause plan InputLimit o left may caused refused = (refl, may, if_some _ o.traffic.input (λ script told. (refused script told).0))
unsampled_cause plan NoSample o left may caused refused = (may, if_some _ o.traffic.input (λ script told. (refused script told).0))
unsampled_cause plan (BadSample line) o left may caused refused = (may, if_some _ o.traffic.input (λ script told. (refused script told).0))
unsampled_cause plan Memory o left may caused refused = tt
