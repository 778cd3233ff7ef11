-- What a run prints and what it leaves of its file.
use Rattle.std.specs.Prelude.{◌≡◌, ◌⊎◌, ℕ, ◌≤◌, min, List, length, Option, Some, IfSome}
use Rattle.metric_laws.specs.Objects.{Object}
use Rattle.metrics_builtin.specs.declared.Space.{Space}
use Rattle.metrics_builtin.specs.Space.{dist}
use Rattle.spb_defs.specs.declared.CurveKind.{CurveKind}
use Rattle.spb_defs.specs.declared.MemorySetup.{MemorySetup}
use Rattle.spb_defs.specs.declared.Asked.{Asked}
use Rattle.spb_defs.specs.declared.Asked.TheVariants.{Mem, Make, Run, Check, Trial}
use Rattle.spb_defs.specs.declared.TheConstants.{SAMPLE_LIMIT}
use Rattle.spb_defs.specs.Choice.{chosen_samples, choice_evals}
use Rattle.spb_defs.specs.State.{State, empty_in_memory, empty_in_file}
use Rattle.spb_defs.specs.Changes.{last_state, changes}
use Rattle.store_check.specs.Stands.{Stands, IsNoStore}
use Rattle.sample_lines.specs.Answers.{GivesSamples}
use Rattle.trial_script.specs.Script.{trial_state, trial_script}
use Rattle.trial_script.specs.Totals.{trial_text}
use Rattle.spb_top.specs.Outside.{Outside}
use Rattle.spb_top.specs.Turns.{StandsForOne}
use Rattle.spb_top.specs.Causes.{IsKnownStore, IsWhole, IsKnown}
use Rattle.spb_top.specs.Written.{made_line, sound_line}

-- ---- the first state

-- the store in memory before the first line
abbrev pub first_state : MemorySetup → State
first_state setup = empty_in_memory setup.space setup.pivots

-- the state from which the lines are answered: the empty one of the words, or the one that the file's image stands for
abbrev pub AnswersFrom : Option Asked → Option (List ℕ) → State → Type 0
AnswersFrom (Some (Mem setup)) image s = s ≡ first_state setup
AnswersFrom (Some Run) image s = IsKnownStore image s
AnswersFrom _ image s = ⊥

-- ---- a new store

-- the samples that are kept for a new store: those of the input, if it is known, and at least one
pub record AreKeptOf (space : Space) (input : Option (List ℕ)) (kept : List Object) : Type 0 where
  pub given : IfSome input (λ script. GivesSamples space script kept)
  pub some : 1 ≤ length kept
  pub few : length kept ≤ SAMPLE_LIMIT

-- how many pivots are chosen from the samples
abbrev pub pivot_count : ℕ → List Object → ℕ
pivot_count wanted kept = min wanted (length kept)

-- the new store: it has no members, and its pivots are chosen from the samples
abbrev pub new_store : CurveKind → ℕ → ℕ → Space → List Object → State
new_store curve wanted cap space kept = empty_in_file space curve (chosen_samples (dist space) kept (pivot_count wanted kept)) cap

-- the image stands for the new store from the samples of the input
abbrev pub IsNewStore : CurveKind → ℕ → ℕ → Space → Option (List ℕ) → List ℕ → Type 0
IsNewStore curve wanted cap space input image = (kept : List Object) × AreKeptOf space input kept × Stands image (new_store curve wanted cap space kept)

-- ---- when the work is done

-- the line that is printed
abbrev pub IsLineOf : Asked → Outside → List ℕ → Type 0
IsLineOf (Make curve wanted cap space) o line =
    (kept : List Object) × AreKeptOf space o.traffic.input kept × (line ≡ made_line (pivot_count wanted kept) (choice_evals (length kept) (pivot_count wanted kept)))
IsLineOf Check o line = (objects : ℕ) × (line ≡ sound_line objects) × IfSome o.image (λ image. (s : State) × Stands image s × (objects ≡ length s.members))
IsLineOf (Trial seed count) o line = IfSome o.image (λ image. line ≡ trial_text seed count)
IsLineOf _ o line = ⊥

-- what the file stands for: the new store; the state after the lines of the input; or the state as it was
abbrev pub EndsAs : Asked → Outside → List ℕ → Type 0
EndsAs (Mem setup) o image = Unit {0}
EndsAs (Make curve wanted cap space) o image = IsNewStore curve wanted cap space o.traffic.input image
EndsAs Run o image = (first : State) → IsKnownStore o.image first → (script : List ℕ) → o.traffic.input ≡ Some script → Stands image (last_state first script)
EndsAs Check o image = (s : State) → IsKnownStore o.image s → Stands image s
EndsAs (Trial seed count) o image = Stands image (last_state (trial_state seed) (trial_script seed count))

-- ---- after a crash

-- what is known before, so that something is said of a crash: the image of a store, and the input if its lines are answered
abbrev pub IsKnownBefore : Asked → Outside → Type 0
IsKnownBefore (Mem setup) o = Unit {0}
IsKnownBefore (Make curve wanted cap space) o = Unit {0}
IsKnownBefore Run o = IsWhole o.image × IsKnown o.traffic.input
IsKnownBefore Check o = IsWhole o.image
IsKnownBefore (Trial seed count) o = Unit {0}

-- what a crash at any moment may leave: what stands for a state of the changes; for the state as it was; or for no store
-- or the new one, if the disk was empty
abbrev pub MayLeave : Asked → Outside → List ℕ → Type 0
MayLeave (Mem setup) o c = Unit {0}
MayLeave (Make curve wanted cap space) o c = o.size ≡ 0 → IsNoStore c ⊎ IsNewStore curve wanted cap space o.traffic.input c
MayLeave Run o c = (first : State) → IsKnownStore o.image first → (script : List ℕ) → o.traffic.input ≡ Some script → StandsForOne (changes first script) c
MayLeave Check o c = (s : State) → IsKnownStore o.image s → Stands c s
MayLeave (Trial seed count) o c = o.size ≡ 0 → IsNoStore c ⊎ StandsForOne (changes (trial_state seed) (trial_script seed count)) c
