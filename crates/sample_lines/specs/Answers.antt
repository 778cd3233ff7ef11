-- What the reading of samples answers, and what it leaves of its input.
use Rattle.std.specs.Prelude.{◌≡◌, ◌⊎◌, ℕ, ◌^◌, ◌<◌, ◌≤◌, List, [], length, take, All, Option, Some, None, Result, Ok, Err, Vec}
use Rattle.spb_edge.specs.declared.reader.EdgeError.{EdgeError}
use Rattle.spb_edge.specs.declared.reader.EdgeError.TheVariants as edge
use Rattle.spb_edge.specs.Fault.{HasRisen}
use Rattle.spb_edge.specs.Known.{with_prefix}
use Rattle.spb_edge.specs.Lines.{lines_of, ended_lines}
use Rattle.metrics_builtin.specs.declared.Space.{Space}
use Rattle.metrics_builtin.specs.Space.{IsValid}
use Rattle.spb_defs.specs.declared.TheConstants.{LINE_LIMIT, SAMPLE_LIMIT}
use Rattle.sample_lines.specs.declared.samples.SampleError.{SampleError}
use Rattle.sample_lines.specs.declared.samples.SampleError.TheVariants.{ReadFault, InputLimit, NoSample, BadSample, Memory}
use Rattle.sample_lines.specs.SampleLines.{AreSampleLines, AreAllSamples, IsFirstBad, first_kept}

-- the lines of the script are samples, at least one, and the first of them are kept
pub record GivesSamples (space : Space) (script : List ℕ) (kept : List (List ℕ)) : Type 0 where
  pub objects : List (List ℕ)
  pub samples : AreSampleLines space (lines_of LINE_LIMIT script) objects
  pub some : 0 < length objects
  pub kept_is : kept ≡ first_kept objects

-- some front of the script was taken, and the rest is left; it stays known
abbrev pub TakesFront : List ℕ → Option (List ℕ) → Type 0
TakesFront script left = (took : List ℕ) × (Some script ≡ with_prefix took left)

-- why a script gives no samples, and what is left of it. Of a script past the limit the lines count that an LF ends
-- within it, and on a fault those that an LF ends among the bytes taken. Memory may run out at any time.
abbrev pub RefusesScript : SampleError → Space → List ℕ → Option (List ℕ) → Type 0
RefusesScript NoSample space script left = (script ≡ []) × (left ≡ Some [])
RefusesScript (BadSample line) space script left =
    IsFirstBad space (lines_of LINE_LIMIT script) line
    × ((length script ≤ 2 ^ 30) ⊎ IsFirstBad space (ended_lines LINE_LIMIT (take (2 ^ 30) script)) line)
RefusesScript InputLimit space script left = (2 ^ 30 < length script) × AreAllSamples space (ended_lines LINE_LIMIT (take (2 ^ 30) script))
RefusesScript ReadFault space script left = (took : List ℕ) × (Some script ≡ with_prefix took left) × AreAllSamples space (ended_lines LINE_LIMIT took)
RefusesScript Memory space script left = Unit {0}

-- what a script is answered, and what is left of it
abbrev pub AnswersScript : {G : Type 0} → Result (Vec (List ℕ) G) SampleError → Space → List ℕ → Option (List ℕ) → Type 0
AnswersScript (Ok kept) space script left = GivesSamples space script kept.items × (length script ≤ 2 ^ 30) × (left ≡ Some [])
AnswersScript (Err e) space script left = RefusesScript e space script left

-- the faults of the source before and now: the count never falls, and a read fault comes only if it rose
abbrev pub IsCausedBy : SampleError → ℕ → ℕ → Type 0
IsCausedBy NoSample before now = before ≤ now
IsCausedBy (BadSample line) before now = before ≤ now
IsCausedBy InputLimit before now = before ≤ now
IsCausedBy ReadFault before now = (before ≤ now) × HasRisen before now
IsCausedBy Memory before now = before ≤ now

abbrev pub HasSampleCause : {A : Type 0} → Result A SampleError → ℕ → ℕ → Type 0
HasSampleCause (Ok kept) before now = before ≤ now
HasSampleCause (Err e) before now = IsCausedBy e before now

-- objects of the space, at least one and at most SAMPLE_LIMIT
pub record AreKept (space : Space) (kept : List (List ℕ)) : Type 0 where
  pub valid : All (IsValid space) kept
  pub some : 1 ≤ length kept
  pub few : length kept ≤ SAMPLE_LIMIT

-- neither the source nor the limit stopped the reading
abbrev pub IsDecided : {A : Type 0} → Result A SampleError → Type 0
IsDecided (Ok kept) = Unit {0}
IsDecided (Err NoSample) = Unit {0}
IsDecided (Err (BadSample line)) = Unit {0}
IsDecided (Err InputLimit) = ⊥
IsDecided (Err ReadFault) = ⊥
IsDecided (Err Memory) = Unit {0}

-- the input was known and within the limit, and the source counted no fault: then the lines decide, or memory ran out
abbrev pub Completes : {A : Type 0} → Result A SampleError → Option (List ℕ) → ℕ → ℕ → Type 0
Completes result input before now =
    (script : List ℕ) → input ≡ Some script → length script ≤ 2 ^ 30 → (HasRisen before now → ⊥) → IsDecided result

-- ---- one line

-- the object of the line with this number, or that it is no sample, unless memory ran out
abbrev pub ReadsSample : Result (List ℕ) SampleError → Option (List ℕ) → ℕ → Type 0
ReadsSample (Ok object) sample number = sample ≡ Some object
ReadsSample (Err NoSample) sample number = ⊥
ReadsSample (Err (BadSample line)) sample number = (sample ≡ None) × (line ≡ number)
ReadsSample (Err InputLimit) sample number = ⊥
ReadsSample (Err ReadFault) sample number = ⊥
ReadsSample (Err Memory) sample number = Unit {0}

-- these samples, if there are any
abbrev pub EndsWith : {G : Type 0} → Result (Vec (List ℕ) G) SampleError → List (List ℕ) → Type 0
EndsWith (Ok samples) kept = (samples.items ≡ kept) × (0 < length kept)
EndsWith (Err NoSample) kept = kept ≡ []
EndsWith (Err (BadSample line)) kept = ⊥
EndsWith (Err InputLimit) kept = ⊥
EndsWith (Err ReadFault) kept = ⊥
EndsWith (Err Memory) kept = ⊥

-- why there are no samples if no line came
abbrev pub stopped_by : EdgeError → SampleError
stopped_by edge.ReadFault = ReadFault
stopped_by edge.InputLimit = InputLimit
stopped_by edge.Memory = Memory
