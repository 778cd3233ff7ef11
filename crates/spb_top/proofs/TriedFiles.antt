-- A trial on a store that was opened, said of the file as it was before.
use Rattle.std.proofs.Common.{◌≡◌, ℕ, ◌≤◌, Bool, true, false, IsTrue, List, Result, Ok, Err, OnOk, refl, sym, ap, subst, ◌∙◌, arith}
use Rattle.std.proofs.lemmas.Result.{on_ok_weaker}
use Rattle.spb_edge.specs.declared.disk.Disk as disk
use Rattle.spb_edge.specs.declared.reader.Line.{Line}
use Rattle.spb_edge.specs.Crash.{Includes, IsDurable}
use Rattle.spb_edge.specs.Moments.{weaker, joined}
use Rattle.spb_defs.specs.State.{State}
use Rattle.spb_defs.specs.Changes.{state_after_lines}
use Rattle.store_check.specs.Stands.{Stands}
use Rattle.open_store.proofs.States.{stored_stands}
use Rattle.session.specs.FileSession.{FileView}
use Rattle.page_laws.specs.declared.rule.Rule.{Rule}
use Rattle.store_check.proofs.Damaging.{refuted, no_store}
use Rattle.store_core.specs.declared.errors.OpenError.{OpenError}
use Rattle.store_core.specs.declared.errors.OpenError.TheVariants as refusal
use Rattle.store_core.specs.declared.opening.Opening.{Opening}
use Rattle.store_core.specs.Errors.{CountsRefusal}
use Rattle.store_core.specs.Finish.{RefusesOpened}
use Rattle.store_core.specs.Opening.{Refuses}
use Rattle.store_core.specs.Parts.{disk_in}
use Rattle.trial_script.specs.declared.totals.Totals.{Totals}
use Rattle.spb_top.specs.declared.status.Status.{Status}
use Rattle.spb_top.specs.declared.status.Status.TheVariants.{Done, Usage, NoMemory, ReadFault, WriteFault, DiskFault, NotStore, Damaged, InputLimit, TooWide, NoSample, BadSample, NotEmpty}
use Rattle.spb_top.specs.Causes.{refused_by}
use Rattle.spb_top.specs.FileTurns.{HoldsFile, LeavesFile}
use Rattle.spb_top.specs.Opened.{IsSettled, IsTurnedAway, StandsFor}
use Rattle.spb_top.specs.Trials.{IsTried, HasTotals, StopsTrial}
use Rattle.spb_top.specs.Turns.{IsUndamagedStop, StandsForOne, StopsTurn, states_through}
use Rattle.spb_top.proofs.Answered.{first_through}
use Rattle.spb_top.proofs.Faults.{risen_later}
use Rattle.spb_top.proofs.OpenedFiles.{Leaves, IsBegun, known_too}
use Rattle.spb_top.proofs.ServedStores.{IsMade, holds, leaves}

-- why a run of turns ended, with a count of faults that didn't fall before
stops_later : {A : Type 0} (result : Result A Status) (before between now : ℕ) → before ≤ between → StopsTurn result between now → StopsTurn result before now
stops_later (Ok x) before between now no_less stops = omega (arith, no_less, stops)
stops_later (Err NoMemory) before between now no_less stops = omega (arith, no_less, stops)
stops_later (Err DiskFault) before between now no_less stops =
    (omega (arith, no_less, stops.0), risen_later before between now no_less stops.1)
stops_later (Err (Damaged page rule)) before between now no_less stops = omega (arith, no_less, stops)
stops_later (Err Done) before between now no_less stops = absurd stops
stops_later (Err Usage) before between now no_less stops = absurd stops
stops_later (Err ReadFault) before between now no_less stops = absurd stops
stops_later (Err WriteFault) before between now no_less stops = absurd stops
stops_later (Err NotStore) before between now no_less stops = absurd stops
stops_later (Err InputLimit) before between now no_less stops = absurd stops
stops_later (Err TooWide) before between now no_less stops = absurd stops
stops_later (Err NoSample) before between now no_less stops = absurd stops
stops_later (Err (BadSample line)) before between now no_less stops = absurd stops
stops_later (Err NotEmpty) before between now no_less stops = absurd stops

module _ {D M : Type 0} (E : disk.Ghosts D) where
  abbrev Holds : FileView D M → State → Type 0
  Holds = HoldsFile E.is_known E.knows_crashes E.image E.crash_states

  -- what is known of the session's disk
  abbrev knows_of : FileView D M → Bool × Bool
  knows_of session = (E.is_known session.store.pages.disk, E.knows_crashes session.store.pages.disk)

  -- the session before the lines and after them
  pub is_tried : (opening : Opening D) (session session' : FileView D M) (lines : List Line) (result : Result Totals Status)
      → IsMade E opening session.store → Includes (E.crash_states (disk_in opening)) (E.crash_states_since (disk_in opening) (E.moment (disk_in opening)))
      → IsSettled E opening → E.faults (disk_in opening) ≤ E.faults session.store.pages.disk → knows_of session' ≡ knows_of session
      → ((first : State) → Holds session first → HasTotals first lines result)
      → ((first : State) → Holds session first → OnOk result (Holds session' (state_after_lines first lines)))
      → ((first : State) → Holds session first → LeavesFile E.is_known E.knows_crashes E.moment E.crash_states_since session session' (states_through first lines))
      → ((first : State) → Holds session first → IsUndamagedStop result)
      → StopsTurn result (E.faults session.store.pages.disk) (E.faults session'.store.pages.disk)
      → IsTried E opening lines result session'.store.pages.disk
  is_tried opening session session' lines result made only_now settled faults knows totals done left undamaged stops =
      let held : (first : State) → StandsFor E opening first → Holds session first = holds E opening session made settled in
      let tells : E.knows_crashes session'.store.pages.disk ≡ E.knows_crashes (disk_in opening) =
      ap (λ (known : Bool × Bool). known.1) knows ∙ made.quiet.tells_crashes_too in
      record {
        totals = λ first stands. totals first (held first stands);
        any_moment = λ first stands known. leaves E opening session made only_now settled first stands known lines session' (left first (held first stands));
        done = λ first stands. on_ok_weaker result
            (λ (now : Holds session' (state_after_lines first lines)). stored_stands (E.image session'.store.pages.disk) (state_after_lines first lines) now.stands.stored)
            (done first (held first stands));
        durable = λ first stands known. on_ok_weaker result
            (λ (now : Holds session' (state_after_lines first lines)). now.durable (subst IsTrue (sym tells) known)) (done first (held first stands));
        undamaged = λ first stands. undamaged first (held first stands);
        stops = stops_later result (E.faults (disk_in opening)) (E.faults session.store.pages.disk) (E.faults session'.store.pages.disk) faults stops;
        told = (ap (λ (known : Bool × Bool). known.0) knows ∙ made.quiet.tells, tells);
      }

-- ---- over the file as it was before the opening

-- why an opening was refused, with a count of faults that didn't fall before
pub counts_later : (e : OpenError) (before between now : ℕ) → before ≤ between → CountsRefusal e between now → CountsRefusal e before now
counts_later refusal.NotStore before between now no_less counts = omega (arith, no_less, counts)
counts_later (refusal.Damaged page rule) before between now no_less counts = omega (arith, no_less, counts)
counts_later refusal.DiskFault before between now no_less counts = (omega (arith, no_less, counts.0), risen_later before between now no_less counts.1)
counts_later refusal.Memory before between now no_less counts = omega (arith, no_less, counts)

-- a refusal of what stands for a state comes from memory or from the disk
pub refused_stops : (e : OpenError) (known : Bool) (before now : ℕ) → (e ≡ refusal.NotStore → known ≡ false)
    → ((page : ℕ) (rule : Rule) → e ≡ refusal.Damaged page rule → known ≡ false) → CountsRefusal e before now
    → StopsTrial {A = Totals} known (Err (refused_by e)) before now
refused_stops refusal.NotStore known before now no_store damaged counts = (counts, no_store refl)
refused_stops (refusal.Damaged page rule) known before now no_store damaged counts = (counts, damaged page rule refl)
refused_stops refusal.DiskFault known before now no_store damaged counts = counts
refused_stops refusal.Memory known before now no_store damaged counts = counts

-- what can't be known isn't
unknown : (known : Bool) → (IsTrue known → ⊥) → known ≡ false
unknown false never = refl
unknown true never = absurd (never refl)

-- turns over what stands for a state find no damage
turns_stop : (known : Bool) (result : Result Totals Status) (before now : ℕ) → (IsTrue known → IsUndamagedStop result) → StopsTurn result before now
    → StopsTrial known result before now
turns_stop known (Ok totals) before now sound stops = stops
turns_stop known (Err NoMemory) before now sound stops = stops
turns_stop known (Err DiskFault) before now sound stops = stops
turns_stop known (Err (Damaged page rule)) before now sound stops = (stops, unknown known sound)
turns_stop known (Err Done) before now sound stops = absurd stops
turns_stop known (Err Usage) before now sound stops = absurd stops
turns_stop known (Err ReadFault) before now sound stops = absurd stops
turns_stop known (Err WriteFault) before now sound stops = absurd stops
turns_stop known (Err NotStore) before now sound stops = absurd stops
turns_stop known (Err InputLimit) before now sound stops = absurd stops
turns_stop known (Err TooWide) before now sound stops = absurd stops
turns_stop known (Err NoSample) before now sound stops = absurd stops
turns_stop known (Err (BadSample line)) before now sound stops = absurd stops
turns_stop known (Err NotEmpty) before now sound stops = absurd stops

module _ {D : Type 0} (E : disk.Ghosts D) (old : D) (first : State) where
  -- what stands for the state stands for one of those that the lines lead through
  pub stays : (new : D) (lines : List Line) → Leaves E old new (λ c. Stands c first) → Leaves E old new (StandsForOne (states_through first lines))
  stays new lines = weaker E.moment E.crash_states_since old new (λ c. Stands c first) (StandsForOne (states_through first lines))
      (λ c is. (first, first_through first lines, is))

  -- the first half of an opening refuses only what stands for no state
  pub start_stops : (e : OpenError) (new : D) → (IsTrue (E.is_known old) → Refuses e (E.image old)) → CountsRefusal e (E.faults old) (E.faults new)
      → (IsTrue (E.is_known old) → Stands (E.image old) first) → StopsTrial {A = Totals} (E.is_known old) (Err (refused_by e)) (E.faults old) (E.faults new)
  start_stops e new refuses counts stands = refused_stops e (E.is_known old) (E.faults old) (E.faults new)
      (λ same. unknown (E.is_known old) (λ known.
      no_store (E.image old) first (subst (λ r. Refuses r (E.image old)) same (refuses known)) (stands known)))
      (λ page rule same. unknown (E.is_known old) (λ known.
      refuted (E.image old) page rule first (subst (λ r. Refuses r (E.image old)) same (refuses known)).1 (stands known)))
      counts

  module _ (opening : Opening D) (begun : IsBegun E old opening) where
    stands_too : IsTrue (E.is_known old) → Stands (E.image old) first → StandsFor E opening first
    stands_too known stands = (known_too E old opening begun known, ((begun.started known).alike first).0 stands)

    tells_too : IsTrue (E.knows_crashes old) → IsTrue (E.knows_crashes (disk_in opening))
    tells_too tells = subst IsTrue (sym begun.told.1) tells

    -- and so does the second half
    pub finish_stops : (e : OpenError) (new : D) → IsTurnedAway E opening e new → (IsTrue (E.is_known old) → Stands (E.image old) first)
        → StopsTrial {A = Totals} (E.is_known old) (Err (refused_by e)) (E.faults old) (E.faults new)
    finish_stops e new away stands =
        let refuses : IsTrue (E.is_known old) → RefusesOpened e (E.image (disk_in opening)) = λ known. away.refuses (known_too E old opening begun known) in
        refused_stops e (E.is_known old) (E.faults old) (E.faults new)
        (λ same. unknown (E.is_known old) (λ known. subst (λ r. RefusesOpened r (E.image (disk_in opening))) same (refuses known)))
        (λ page rule same. unknown (E.is_known old) (λ known.
        refuted (E.image (disk_in opening)) page rule first (subst (λ r. RefusesOpened r (E.image (disk_in opening))) same (refuses known)).1
        (stands_too known (stands known)).1))
        (counts_later e (E.faults old) (E.faults (disk_in opening)) (E.faults new) begun.faults away.fault)

    module _ (new : D) (lines : List Line) (result : Result Totals Status) (tried : IsTried E opening lines result new) where
      pub file_totals : IsTrue (E.is_known old) → Stands (E.image old) first → HasTotals first lines result
      file_totals known stands = tried.totals first (stands_too known stands)

      pub file_leaves : IsTrue (E.is_known old) → IsTrue (E.knows_crashes old) → Stands (E.image old) first
          → Leaves E old (disk_in opening) (λ c. Stands c first) → Leaves E old new (StandsForOne (states_through first lines))
      file_leaves known tells stands run =
          joined E.moment E.crash_states_since old (disk_in opening) new (StandsForOne (states_through first lines)) (stays (disk_in opening) lines run)
          (tried.any_moment first (stands_too known stands) (tells_too tells))

      pub file_done : IsTrue (E.is_known old) → Stands (E.image old) first → OnOk result (Stands (E.image new) (state_after_lines first lines))
      file_done known stands = tried.done first (stands_too known stands)

      pub file_durable : IsTrue (E.is_known old) → IsTrue (E.knows_crashes old) → Stands (E.image old) first
          → OnOk result (IsDurable (E.image new) (E.crash_states new))
      file_durable known tells stands = tried.durable first (stands_too known stands) (tells_too tells)

      pub file_stops : (IsTrue (E.is_known old) → Stands (E.image old) first) → StopsTrial (E.is_known old) result (E.faults old) (E.faults new)
      file_stops stands =
          turns_stop (E.is_known old) result (E.faults old) (E.faults new) (λ known. tried.undamaged first (stands_too known (stands known)))
          (stops_later result (E.faults old) (E.faults (disk_in opening)) (E.faults new) begun.faults tried.stops)
