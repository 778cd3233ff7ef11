-- Why a run ended as it did.
use Rattle.std.specs.Prelude.{◌≡◌, ◌⊎◌, ℕ, ◌*◌, ◌^◌, ◌<◌, ◌≤◌, Bool, true, false, IsTrue, List, [], length, Option, Some, None, IfSome}
use Rattle.spb_edge.specs.Fault.{HasRisen}
use Rattle.spb_edge.specs.Lines.{lines_of}
use Rattle.spb_edge.specs.declared.reader.EdgeError.{EdgeError}
use Rattle.spb_edge.specs.declared.reader.EdgeError.TheVariants as edge
use Rattle.metrics_builtin.specs.declared.Space.{Space}
use Rattle.metrics_builtin.specs.Space.{bits}
use Rattle.spb_defs.specs.declared.TheConstants.{LINE_LIMIT}
use Rattle.spb_defs.specs.declared.Asked.{Asked}
use Rattle.spb_defs.specs.declared.Asked.TheVariants.{Mem, Make, Run, Check, Trial}
use Rattle.spb_defs.specs.State.{State}
use Rattle.store_check.specs.Stands.{Stands, IsNoStore}
use Rattle.store_check.specs.Damage.{Breaks}
use Rattle.sample_lines.specs.SampleLines.{IsFirstBad}
use Rattle.sample_lines.specs.declared.samples.SampleError.{SampleError}
use Rattle.sample_lines.specs.declared.samples.SampleError.TheVariants as sample
use Rattle.store_core.specs.declared.errors.OpenError.{OpenError}
use Rattle.store_core.specs.declared.errors.OpenError.TheVariants as refusal
use Rattle.store_format.specs.declared.errors.FormatError.{FormatError}
use Rattle.store_format.specs.declared.errors.FormatError.TheVariants as format
use Rattle.sample_lines.specs.Answers.{GivesSamples, RefusesScript}
use Rattle.spb_top.specs.declared.status.Status.{Status}
use Rattle.spb_top.specs.declared.status.Status.TheVariants.{Done, Usage, NoMemory, ReadFault, WriteFault, DiskFault, NotStore, Damaged, InputLimit, TooWide, NoSample, BadSample, NotEmpty}
use Rattle.spb_top.specs.Outside.{Traffic, Outside}

-- ---- the answering of lines

-- how a run ends if no line came
abbrev pub stopped_by : EdgeError → Status
stopped_by edge.ReadFault = ReadFault
stopped_by edge.InputLimit = InputLimit
stopped_by edge.Memory = NoMemory

-- why the answering of lines ended, in a store of any kind
abbrev pub HasServingCause : Status → Traffic → Type 0
HasServingCause Done t = IfSome t.input (λ bytes. length bytes ≤ 2 ^ 30)
HasServingCause NoMemory t = Unit {0}
HasServingCause ReadFault t = HasRisen t.source.before t.source.now
HasServingCause WriteFault t = HasRisen t.sink.before t.sink.now
HasServingCause DiskFault t = HasRisen t.disk.before t.disk.now
HasServingCause (Damaged page rule) t = Unit {0}
HasServingCause InputLimit t = IfSome t.input (λ bytes. 2 ^ 30 < length bytes)
HasServingCause _ t = ⊥

-- the same of a store in memory, which has no disk
abbrev pub HasMemoryCause : Status → Traffic → Type 0
HasMemoryCause DiskFault t = ⊥
HasMemoryCause (Damaged page rule) t = ⊥
HasMemoryCause status t = HasServingCause status t

-- ---- what ends a run before a line is answered

-- why the store isn't opened
abbrev pub refused_by : OpenError → Status
refused_by refusal.NotStore = NotStore
refused_by (refusal.Damaged page rule) = Damaged page rule
refused_by refusal.DiskFault = DiskFault
refused_by refusal.Memory = NoMemory

-- why there are no samples for a new store
abbrev pub unsampled_by : SampleError → Status
unsampled_by sample.ReadFault = ReadFault
unsampled_by sample.InputLimit = InputLimit
unsampled_by sample.NoSample = NoSample
unsampled_by (sample.BadSample line) = BadSample line
unsampled_by sample.Memory = NoMemory

-- why the new store isn't made
abbrev pub unmade_by : FormatError → Status
unmade_by format.NotEmpty = NotEmpty
unmade_by format.DiskFault = DiskFault
unmade_by format.Memory = NoMemory

-- ---- what comes before the work

-- the image stands for the state, and is known
abbrev pub IsKnownStore : Option (List ℕ) → State → Type 0
IsKnownStore None s = ⊥
IsKnownStore (Some image) s = Stands image s

-- the image is that of a store, if it is known
abbrev pub HoldsStore : Option (List ℕ) → Type 0
HoldsStore image = IfSome image (λ bytes. (s : State) × Stands bytes s)

-- the keys of a store that is made have at most 64 bits
abbrev pub FitsKey : Asked → Type 0
FitsKey (Make curve pivots cap space) = pivots * bits space ≤ 64
FitsKey _ = Unit {0}

-- the tests before the work were passed: a store is made on an empty disk, and one that is there is a store
abbrev pub MayWork : Asked → Outside → Type 0
MayWork (Mem setup) o = Unit {0}
MayWork (Make curve pivots cap space) o = (pivots * bits space ≤ 64) × (o.size ≡ 0)
MayWork Run o = HoldsStore o.image
MayWork Check o = HoldsStore o.image
MayWork (Trial seed count) o = o.size ≡ 0

-- whether the input is read
abbrev pub reads_input : Asked → Bool
reads_input (Mem setup) = true
reads_input (Make curve pivots cap space) = true
reads_input Run = true
reads_input Check = false
reads_input (Trial seed count) = false

-- whether its lines are answered one by one
abbrev pub answers_lines : Asked → Bool
answers_lines (Mem setup) = true
answers_lines Run = true
answers_lines _ = false

-- whether calls are made on the disk
abbrev pub uses_disk : Asked → Bool
uses_disk (Mem setup) = false
uses_disk _ = true

-- whether a store is made
abbrev pub makes_store : Asked → Bool
makes_store (Make curve pivots cap space) = true
makes_store (Trial seed count) = true
makes_store _ = false

-- the input was read to its end: it is within the limit, and the lines for a new store are samples, at least one
abbrev pub HasReadAll : Asked → Outside → Type 0
HasReadAll (Mem setup) o = IfSome o.traffic.input (λ bytes. length bytes ≤ 2 ^ 30)
HasReadAll (Make curve pivots cap space) o =
    IfSome o.traffic.input (λ bytes. (length bytes ≤ 2 ^ 30) × ((kept : List (List ℕ)) × GivesSamples space bytes kept))
HasReadAll Run o = IfSome o.traffic.input (λ bytes. length bytes ≤ 2 ^ 30)
HasReadAll Check o = Unit {0}
HasReadAll (Trial seed count) o = Unit {0}

-- what is written of a new store comes after all of its samples
abbrev pub MayWrite : Asked → Outside → Type 0
MayWrite (Make curve pivots cap space) o = HasReadAll (Make curve pivots cap space) o
MayWrite _ o = Unit {0}

-- the file that is opened is the disk's as it was, if that is known; that of a trial is its own, and known images aren't
-- refused
abbrev pub IsRefused : Asked → (List ℕ → Type 0) → Outside → Type 0
IsRefused (Mem setup) IsBad o = ⊥
IsRefused (Make curve pivots cap space) IsBad o = ⊥
IsRefused Run IsBad o = IfSome o.image IsBad
IsRefused Check IsBad o = IfSome o.image IsBad
IsRefused (Trial seed count) IsBad o = (o.size ≡ 0) × (o.image ≡ None)

-- the line of this number is the first that is no sample of the new store
abbrev pub HasBadSample : Asked → ℕ → Outside → Type 0
HasBadSample (Make curve pivots cap space) line o = IfSome o.traffic.input (λ bytes. IsFirstBad space (lines_of LINE_LIMIT bytes) line)
HasBadSample _ line o = ⊥

-- no line gives a sample for the new store
abbrev pub HasNoSample : Asked → Outside → Type 0
HasNoSample (Make curve pivots cap space) o = IfSome o.traffic.input (λ bytes. bytes ≡ [])
HasNoSample _ o = ⊥

-- ---- causes

-- why a run of these words ended so, and that the tests that come before were passed. So a status whose cause is there
-- is answered, unless memory runs out or something outside fails first.
abbrev pub CauseOf : Asked → Status → Outside → Type 0
CauseOf asked Done o = MayWork asked o × HasReadAll asked o
CauseOf asked Usage o = ⊥
CauseOf asked NoMemory o = Unit {0}
CauseOf asked ReadFault o = IsTrue (reads_input asked) × MayWork asked o × HasRisen o.traffic.source.before o.traffic.source.now
CauseOf asked WriteFault o = MayWork asked o × MayWrite asked o × HasRisen o.traffic.sink.before o.traffic.sink.now
CauseOf asked DiskFault o = IsTrue (uses_disk asked) × FitsKey asked × HasRisen o.traffic.disk.before o.traffic.disk.now
CauseOf asked NotStore o = IsRefused asked IsNoStore o
CauseOf asked (Damaged page rule) o = IsRefused asked (λ image. Breaks image page rule) o
CauseOf asked InputLimit o = IsTrue (reads_input asked) × MayWork asked o × IfSome o.traffic.input (λ bytes. 2 ^ 30 < length bytes)
CauseOf asked TooWide o = FitsKey asked → ⊥
CauseOf asked NoSample o = MayWork asked o × HasNoSample asked o
CauseOf asked (BadSample line) o = MayWork asked o × HasBadSample asked line o
CauseOf asked NotEmpty o = IsTrue (makes_store asked) × FitsKey asked × (0 < o.size)

-- the run ends as Usage exactly if the words aren't in the grammar, unless memory runs out in reading them
abbrev pub Asks : Option Asked → Status → Type 0
Asks asked status = (status ≡ Usage → asked ≡ None) × (asked ≡ None → (status ≡ Usage) ⊎ (status ≡ NoMemory))

-- words that aren't in the grammar end a run as Usage; memory may run out in reading them
abbrev pub IsUsage : Status → Type 0
IsUsage Usage = Unit {0}
IsUsage NoMemory = Unit {0}
IsUsage _ = ⊥

abbrev pub HasCause : Option Asked → Status → Outside → Type 0
HasCause None status o = IsUsage status
HasCause (Some asked) status o = CauseOf asked status o

-- what is known of the lines that were read for a new store if something stopped the reading: they were samples
abbrev pub StopsSampling : Status → Space → List ℕ → Option (List ℕ) → Type 0
StopsSampling ReadFault space script left = RefusesScript sample.ReadFault space script left
StopsSampling InputLimit space script left = RefusesScript sample.InputLimit space script left
StopsSampling NoSample space script left = RefusesScript sample.NoSample space script left
StopsSampling (BadSample line) space script left = RefusesScript (sample.BadSample line) space script left
StopsSampling _ space script left = Unit {0}

-- ---- completeness

-- the work was done, or memory ran out
abbrev pub IsDoneOrNoMemory : Status → Type 0
IsDoneOrNoMemory Done = Unit {0}
IsDoneOrNoMemory NoMemory = Unit {0}
IsDoneOrNoMemory _ = ⊥

-- the input is known and within the limit
abbrev pub IsWithinLimit : Option (List ℕ) → Type 0
IsWithinLimit None = ⊥
IsWithinLimit (Some bytes) = length bytes ≤ 2 ^ 30

-- the image is known, and that of a store
abbrev pub IsWhole : Option (List ℕ) → Type 0
IsWhole None = ⊥
IsWhole (Some image) = (s : State) × Stands image s

-- the input is known and within the limit, and its lines are samples of the space, at least one
abbrev pub AreSamples : Space → Option (List ℕ) → Type 0
AreSamples space None = ⊥
AreSamples space (Some bytes) = (length bytes ≤ 2 ^ 30) × ((kept : List (List ℕ)) × GivesSamples space bytes kept)

-- something is known
abbrev pub IsKnown : Option (List ℕ) → Type 0
IsKnown None = ⊥
IsKnown (Some bytes) = Unit {0}

-- nothing is in the way of the work
abbrev pub CanWork : Asked → Outside → Type 0
CanWork (Mem setup) o = IsWithinLimit o.traffic.input
CanWork (Make curve pivots cap space) o = (pivots * bits space ≤ 64) × (o.size ≡ 0) × AreSamples space o.traffic.input
CanWork Run o = IsWhole o.image × IsWithinLimit o.traffic.input
CanWork Check o = IsWhole o.image
CanWork (Trial seed count) o = (o.size ≡ 0) × IsKnown o.image

-- no count of faults rose of what the work uses
pub record NoneRose (asked : Asked) (traffic : Traffic) : Type 0 where
  pub source : IsTrue (reads_input asked) → HasRisen traffic.source.before traffic.source.now → ⊥
  pub sink : HasRisen traffic.sink.before traffic.sink.now → ⊥
  pub disk : IsTrue (uses_disk asked) → HasRisen traffic.disk.before traffic.disk.now → ⊥

-- nothing is in the way of the work and nothing failed: then it was done, or memory ran out
abbrev pub Completes : Option Asked → Status → Outside → Type 0
Completes None status o = Unit {0}
Completes (Some asked) status o = CanWork asked o → NoneRose asked o.traffic → IsDoneOrNoMemory status
