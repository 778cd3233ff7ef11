-- What is done over an opening, said of the file as it was before.
use Rattle.std.proofs.Common.{ℕ, ◌≤◌, IsTrue, List, Ok, Err, sym, ◌∙◌, subst, arith}
use Rattle.spb_edge.specs.declared.disk.Disk as disk
use Rattle.spb_edge.specs.Calls.{StaysKnown}
use Rattle.spb_edge.specs.Crash.{IsDurable, CrashesLeaveOnly}
use Rattle.spb_edge.specs.Quiet.{IsQuiet, calmly}
use Rattle.store_check.specs.Stands.{Stands}
use Rattle.store_core.specs.declared.errors.OpenError.{OpenError}
use Rattle.store_core.specs.declared.errors.OpenError.TheVariants as refusal
use Rattle.store_core.specs.declared.opening.Opening.{Opening}
use Rattle.store_core.specs.Opening.{IsStarted}
use Rattle.store_core.specs.Parts.{disk_in, profile_of, pivots_of}
use Rattle.store_core.proofs.BreaksAlike.{breaks_alike}
use Rattle.store_core.proofs.StartedImages.{is_opened}
use Rattle.spb_top.specs.Opened.{IsRead, IsSettled, IsTurnedAway, IsCounted}
use Rattle.spb_top.specs.Counted.{IsFound, CountsObjects}
use Rattle.spb_top.proofs.Faults.{risen_later}

module _ {D : Type 0} (E : disk.Ghosts D) where
  abbrev pub Quiet : D → D → Type 0
  Quiet = IsQuiet E.is_known E.knows_crashes E.size_of E.image E.crash_states E.moment E.crash_states_since

  abbrev pub Leaves : D → D → (List ℕ → Type 0) → Type 0
  Leaves = CrashesLeaveOnly E.moment E.crash_states_since

  -- a crash now is a crash since each moment so far
  abbrev pub CountsNow : D → Type 0
  CountsNow d = (t : ℕ) (c : List ℕ) → t ≤ E.moment d → E.crash_states d c → E.crash_states_since d t c

  -- a run, and then a quiet stretch
  pub quietly_on : (old mid new : D) (P : List ℕ → Type 0) → CountsNow mid → Leaves old mid P → Quiet mid new → Leaves old new P
  quietly_on old mid new P counts run quiet =
      calmly E.is_known E.knows_crashes E.size_of E.image E.crash_states E.moment E.crash_states_since old mid new P run quiet
      (λ c now. run.each c (counts (E.moment old) c run.later now))

  -- the file was opened as far as its profile and its pivots, and nothing is pending
  pub record IsBegun (old : D) (opening : Opening D) : Type 0 where
    pub started : IsTrue (E.is_known old) → IsStarted (E.image old) (E.image (disk_in opening)) (profile_of opening) (pivots_of opening)
    pub told : StaysKnown E.is_known E.knows_crashes old (disk_in opening)
    pub durable : IsTrue (E.is_known old) → IsTrue (E.knows_crashes old) → IsDurable (E.image (disk_in opening)) (E.crash_states (disk_in opening))
    pub faults : E.faults old ≤ E.faults (disk_in opening)

  module _ (old : D) (opening : Opening D) (begun : IsBegun old opening) where
    -- what was read is the image's as it is now, and nothing is pending
    pub is_read : IsRead E opening
    is_read known =
        is_opened (E.image old) (E.image (disk_in opening)) (profile_of opening) (pivots_of opening) (begun.started (subst IsTrue begun.told.0 known))

    pub is_settled : IsSettled E opening
    is_settled known tells = begun.durable (subst IsTrue begun.told.0 known) (subst IsTrue begun.told.1 tells)

    pub known_too : IsTrue (E.is_known old) → IsTrue (E.is_known (disk_in opening))
    known_too known = subst IsTrue (sym begun.told.0) known

    -- the objects were counted
    pub is_found : (objects : ℕ) (new : D) → Quiet (disk_in opening) new → IsCounted E opening objects new → IsTrue (E.is_known old)
        → IsFound E old new objects
    is_found objects new quiet counted known =
        let now = known_too known in
        let (s, is, many) = counted.stands now in
        let same = quiet.image_is now in
        record {
          state = s;
          stood = ((begun.started known).alike s).1 is;
          stands = subst (λ image. Stands image s) (sym same) is;
          objects_are = many;
          durable = λ tells c left. begun.durable known tells c (quiet.no_more c left) ∙ sym same;
        }

    pub counts_all : (objects : ℕ) (new : D) → Quiet (disk_in opening) new → IsCounted E opening objects new → CountsObjects E old new (Ok objects)
    counts_all objects new quiet counted =
        (is_found objects new quiet counted, let first = begun.faults in let second = counted.faults in omega (arith, first, second))

    -- the store was refused
    pub counts_none : (e : OpenError) (new : D) → IsTurnedAway E opening e new → CountsObjects E old new (Err e)
    counts_none refusal.NotStore new away = absurd away.kinds
    counts_none (refusal.Damaged page rule) new away = (
      λ known. breaks_alike (E.image old) (E.image (disk_in opening)) (profile_of opening) (pivots_of opening) (begun.started known) page rule away.kinds
          (away.refuses (known_too known)).1,
      let first = begun.faults in let second = away.fault in omega (arith, first, second),
    )
    counts_none refusal.DiskFault new away = (
      let first = begun.faults in let second = away.fault.0 in omega (arith, first, second),
      risen_later (E.faults old) (E.faults (disk_in opening)) (E.faults new) begun.faults away.fault.1,
    )
    counts_none refusal.Memory new away = let first = begun.faults in let second = away.fault in omega (arith, first, second)
