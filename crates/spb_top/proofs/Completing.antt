-- If nothing is in the way of the work and nothing failed, it was done, or memory ran out.
use Rattle.std.proofs.Common.{◌≡◌, ◌∙◌, ap, sym, ℕ, List, [], ◌∷◌, ◌++◌, map, length, Option, Some, None, arith}
use Rattle.std.specs.Prelude.{IfSome, ◌^◌, ◌<◌}
use Rattle.std.proofs.lemmas.Option.{none-some}
use Rattle.std.proofs.lemmas.Bool.{false≢true}
use Rattle.spb_edge.specs.Lines.{lines_of}
use Rattle.spb_edge.specs.LineLaws.{lines_of-nil}
use Rattle.metrics_builtin.specs.declared.Space.{Space}
use Rattle.page_laws.specs.declared.rule.Rule.{Rule}
use Rattle.spb_defs.specs.declared.TheConstants.{LINE_LIMIT}
use Rattle.spb_defs.specs.declared.Asked.{Asked}
use Rattle.spb_defs.specs.declared.Asked.TheVariants.{Mem, Make, Run, Check, Trial}
use Rattle.spb_defs.specs.State.{State}
use Rattle.store_check.specs.Stands.{Stands, IsNoStore}
use Rattle.store_check.specs.Damage.{Breaks}
use Rattle.sample_lines.specs.SampleLines.{IsFirstBad, sample_of}
use Rattle.spb_top.specs.declared.status.Status.{Status}
use Rattle.spb_top.specs.declared.status.Status.TheVariants.{Done, Usage, NoMemory, ReadFault, WriteFault, DiskFault, NotStore, Damaged, InputLimit, TooWide, NoSample, BadSample, NotEmpty}
use Rattle.spb_top.specs.Outside.{Outside}
use Rattle.spb_top.specs.Causes.{CauseOf, CanWork, Completes, IsRefused, IsWhole, IsKnown, IsWithinLimit, AreSamples}

-- ---- lines

-- samples come from each line, so none of the lines is no sample
none_is_bad : {A B : Type 0} (f : A → Option B) (before : List A) (bad : A) (behind : List A) (objects : List B)
    → map f (before ++ bad ∷ behind) ≡ map Some objects → f bad ≡ None → ⊥
none_is_bad f [] bad behind [] e none = absurd (cc)
none_is_bad f [] bad behind (x ∷ objects) e none = absurd (cc)
none_is_bad f (l ∷ before) bad behind [] e none = absurd (cc)
none_is_bad f (l ∷ before) bad behind (x ∷ objects) e none = none_is_bad f before bad behind objects (cc) none

not_bad : (space : Space) (input : Option (List ℕ)) (line : ℕ) → AreSamples space input
    → IfSome input (λ bytes. IsFirstBad space (lines_of LINE_LIMIT bytes) line) → ⊥
not_bad space None line samples bad = samples
not_bad space (Some bytes) line (within, (kept, gives)) bad =
    none_is_bad (sample_of space) bad.before bad.bad bad.behind gives.objects (ap (map (sample_of space)) (sym bad.split) ∙ gives.samples) bad.none

not_none : (space : Space) (input : Option (List ℕ)) → AreSamples space input → IfSome input (λ bytes. bytes ≡ []) → ⊥
not_none space None samples none = samples
not_none space (Some bytes) (within, (kept, gives)) none =
    let lines : lines_of LINE_LIMIT bytes ≡ [] = ap (lines_of LINE_LIMIT) none ∙ lines_of-nil LINE_LIMIT in
    let same : map (sample_of space) [] ≡ map Some gives.objects = ap (map (sample_of space)) (sym lines) ∙ gives.samples in
    no_objects gives.objects same gives.some
  where
    no_objects : (objects : List (List ℕ)) → map (sample_of space) [] ≡ map Some objects → 0 < length objects → ⊥
    no_objects [] same some = absurd (omega (arith, some))
    no_objects (x ∷ objects) same some = absurd (cc)

pub not_past : (input : Option (List ℕ)) → IsWithinLimit input → IfSome input (λ bytes. 2 ^ 30 < length bytes) → ⊥
not_past None within past = within
not_past (Some bytes) within past = absurd (omega (arith, within, past))

samples_within : (space : Space) (input : Option (List ℕ)) → AreSamples space input → IsWithinLimit input
samples_within space None samples = samples
samples_within space (Some bytes) (within, (kept, gives)) = within

-- ---- images

not_refused : (image : Option (List ℕ)) (IsBad : List ℕ → Type 0) → ((bytes : List ℕ) (s : State) → IsBad bytes → Stands bytes s → ⊥) → IsWhole image
    → IfSome image IsBad → ⊥
not_refused None IsBad refutes whole bad = whole
not_refused (Some bytes) IsBad refutes (s, stands) bad = refutes bytes s bad stands

not_unknown : (image : Option (List ℕ)) → IsKnown image → image ≡ None → ⊥
not_unknown None known none = known
not_unknown (Some bytes) known none = none-some bytes (sym none)

refused : (asked : Asked) (o : Outside) (IsBad : List ℕ → Type 0) → ((bytes : List ℕ) (s : State) → IsBad bytes → Stands bytes s → ⊥) → CanWork asked o
    → IsRefused asked IsBad o → ⊥
refused (Mem setup) o IsBad refutes can bad = bad
refused (Make curve pivots cap space) o IsBad refutes can bad = bad
refused Run o IsBad refutes can bad = not_refused o.image IsBad refutes can.0 bad
refused Check o IsBad refutes can bad = not_refused o.image IsBad refutes can bad
refused (Trial seed count) o IsBad refutes can bad = not_unknown o.image can.1 bad.1

-- ---- the statuses

read_all : (asked : Asked) (o : Outside) → CanWork asked o → CauseOf asked InputLimit o → ⊥
read_all (Mem setup) o can (reads, may, past) = not_past o.traffic.input can past
read_all (Make curve pivots cap space) o can (reads, may, past) = not_past o.traffic.input (samples_within space o.traffic.input can.2) past
read_all Run o can (reads, may, past) = not_past o.traffic.input can.1 past
read_all Check o can (reads, may, past) = absurd (false≢true reads)
read_all (Trial seed count) o can (reads, may, past) = absurd (false≢true reads)

narrow : (asked : Asked) (o : Outside) → CanWork asked o → CauseOf asked TooWide o → ⊥
narrow (Mem setup) o can wide = wide tt
narrow (Make curve pivots cap space) o can wide = wide can.0
narrow Run o can wide = wide tt
narrow Check o can wide = wide tt
narrow (Trial seed count) o can wide = wide tt

sampled : (asked : Asked) (o : Outside) → CanWork asked o → CauseOf asked NoSample o → ⊥
sampled (Mem setup) o can (may, none) = none
sampled (Make curve pivots cap space) o can (may, none) = not_none space o.traffic.input can.2 none
sampled Run o can (may, none) = none
sampled Check o can (may, none) = none
sampled (Trial seed count) o can (may, none) = none

good : (asked : Asked) (line : ℕ) (o : Outside) → CanWork asked o → CauseOf asked (BadSample line) o → ⊥
good (Mem setup) line o can (may, bad) = bad
good (Make curve pivots cap space) line o can (may, bad) = not_bad space o.traffic.input line can.2 bad
good Run line o can (may, bad) = bad
good Check line o can (may, bad) = bad
good (Trial seed count) line o can (may, bad) = bad

empty : (asked : Asked) (o : Outside) → CanWork asked o → CauseOf asked NotEmpty o → ⊥
empty (Mem setup) o can (makes, fits, filled) = absurd (false≢true makes)
empty (Make curve pivots cap space) o can (makes, fits, filled) = absurd (omega (arith, can.1, filled))
empty Run o can (makes, fits, filled) = absurd (false≢true makes)
empty Check o can (makes, fits, filled) = absurd (false≢true makes)
empty (Trial seed count) o can (makes, fits, filled) = absurd (omega (arith, can.0, filled))

module _ (no_store : (image : List ℕ) (s : State) → IsNoStore image → Stands image s → ⊥)
    (damaged : (image : List ℕ) (page : ℕ) (rule : Rule) (s : State) → Breaks image page rule → Stands image s → ⊥) where
  pub completed : (asked : Asked) (status : Status) (o : Outside) → CauseOf asked status o → Completes (Some asked) status o
  completed asked Done o cause = λ can none. tt
  completed asked Usage o cause = λ can none. cause
  completed asked NoMemory o cause = λ can none. tt
  completed asked ReadFault o cause = λ can none. none.source cause.0 cause.2
  completed asked WriteFault o cause = λ can none. none.sink cause.2
  completed asked DiskFault o cause = λ can none. none.disk cause.0 cause.2
  completed asked NotStore o cause = λ can none. refused asked o IsNoStore no_store can cause
  completed asked (Damaged page rule) o cause = λ can none.
      refused asked o (λ image. Breaks image page rule) (λ image s. damaged image page rule s) can cause
  completed asked InputLimit o cause = λ can none. read_all asked o can cause
  completed asked TooWide o cause = λ can none. narrow asked o can cause
  completed asked NoSample o cause = λ can none. sampled asked o can cause
  completed asked (BadSample line) o cause = λ can none. good asked line o can cause
  completed asked NotEmpty o cause = λ can none. empty asked o can cause
