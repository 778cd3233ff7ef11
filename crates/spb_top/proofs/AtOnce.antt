-- What the end of a run says if it comes before a line is answered.
use Rattle.std.proofs.Common.{◌≡◌, ◌∙◌, ap, sym, subst, refl, ℕ, zero, suc, List, [], ◌++◌, length, take, Option, Some, None, length-append, arith}
use Rattle.std.proofs.lemmas.List.{nil_from_length}
use Rattle.spb_edge.specs.declared.reader.Line.{Line}
use Rattle.spb_defs.specs.State.{State}
use Rattle.spb_defs.specs.declared.Asked.{Asked}
use Rattle.spb_defs.specs.Play.{play_lines}
use Rattle.spb_defs.specs.Changes.{state_after_lines}
use Rattle.store_check.specs.Stands.{Stands}
use Rattle.spb_defs.specs.declared.MemorySetup.{MemorySetup}
use Rattle.spb_defs.specs.declared.Asked.TheVariants.{Mem}
use Rattle.spb_top.specs.declared.status.Status.{Status}
use Rattle.spb_top.specs.declared.status.Status.TheVariants.{Done, Usage, NoMemory, ReadFault, WriteFault, DiskFault, NotStore, Damaged, InputLimit, TooWide, NoSample, BadSample, NotEmpty}
use Rattle.spb_top.specs.Outside.{Outside}
use Rattle.spb_top.specs.Causes.{CanWork, Completes, NoneRose, HasMemoryCause, IsKnown}
use Rattle.spb_top.proofs.Completing.{not_past as past}
use Rattle.spb_top.specs.Turns.{AnsweredLines, StandsForOne, states_after}

-- what is known twice of a sink is the same, so nothing was written
none_written : (before written : List ℕ) (taken : Option (List ℕ)) → taken ≡ Some before → taken ≡ Some (before ++ written) → written ≡ []
none_written before written taken was now =
    let same : before ≡ before ++ written = some_is (sym was ∙ now) in
    let long = ap length same in nil_from_length written (omega (arith, long, length-append before written))
  where
    some_is : {A : Type 0} {x y : A} → Some x ≡ Some y → x ≡ y
    some_is e = cc

none_answered : (first : State) (lines : List Line) (many : ℕ) → AnsweredLines first lines [] many → many ≡ 0
none_answered first lines zero answered = refl
none_answered first lines (suc many) answered = absurd (answered.least 0 (omega arith) (play_lines first (take 0 lines), refl))

-- an image that stands for the state before the first line stands for one of those that may be left
pub acknowledged_at_once : (first : State) (lines : List Line) (before written : List ℕ) (taken : Option (List ℕ)) (many : ℕ) (image : List ℕ)
    → taken ≡ Some before → taken ≡ Some (before ++ written) → AnsweredLines first lines written many → Stands image first
    → StandsForOne (states_after first lines many) image
acknowledged_at_once first lines before written taken many image was now answered stands =
    let none = none_answered first lines many (subst (λ w. AnsweredLines first lines w many) (none_written before written taken was now) answered) in
    (first, (0, omega arith, ap (λ n. state_after_lines first (take n lines)) none), stands)

-- ---- the words

-- what is known has its bytes
pub known_bytes : (content : Option (List ℕ)) → IsKnown content → (bytes : List ℕ) × (content ≡ Some bytes)
known_bytes (Some bytes) known = (bytes, refl)
known_bytes None known = absurd known

-- words ask for one thing
pub same_words : {asked : Option Asked} (a b : Asked) → asked ≡ Some a → asked ≡ Some b → a ≡ b
same_words a b first second = cc

-- what completes the work of these words
pub completes_as : (asked : Option Asked) (a : Asked) (status : Status) (o : Outside) → asked ≡ Some a → Completes (Some a) status o → Completes asked status o
completes_as asked a status o is completes = subst (λ (asked : Option Asked). Completes asked status o) (sym is) completes

-- the same of work that reads no input
pub completes_unread : (asked : Option Asked) (a : Asked) (status : Status) (o unread : Outside) → asked ≡ Some a → (CanWork a o → CanWork a unread)
    → (NoneRose a o.traffic → NoneRose a unread.traffic) → Completes (Some a) status unread → Completes asked status o
completes_unread asked a status o unread is may none completes =
    completes_as asked a status o is (λ can rose. completes (may can) (none rose))

-- the same of a store in memory, which has no disk
pub completes_in_memory : (asked : Option Asked) (setup : MemorySetup) (status : Status) (o : Outside)
    → HasMemoryCause status (record o.traffic { disk = record { before = 0; now = 0 } }) → asked ≡ Some (Mem setup) → Completes asked status o
completes_in_memory asked setup status o cause is = completes_as asked (Mem setup) status o is (by status cause)
  where
    by : (status : Status) → HasMemoryCause status (record o.traffic { disk = record { before = 0; now = 0 } }) → Completes (Some (Mem setup)) status o
    by Done cause can none = tt
    by Usage cause can none = cause
    by NoMemory cause can none = tt
    by ReadFault cause can none = none.source refl cause
    by WriteFault cause can none = none.sink cause
    by DiskFault cause can none = cause
    by NotStore cause can none = cause
    by (Damaged page rule) cause can none = cause
    by InputLimit cause can none = past o.traffic.input can cause
    by TooWide cause can none = cause
    by NoSample cause can none = cause
    by (BadSample line) cause can none = cause
    by NotEmpty cause can none = cause
