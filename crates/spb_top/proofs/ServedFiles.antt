-- A file on which the lines of an input were answered, said of it as it was before.
use Rattle.std.proofs.Common.{◌≡◌, ℕ, zero, suc, IsTrue, List, [], ◌∷◌, ◌++◌, Option, Some, None, Err, refl, sym, subst, ◌∙◌, arith}
use Rattle.std.specs.Prelude.{IfSome}
use Rattle.std.specs.List.{Contains}
use Rattle.std.proofs.lemmas.Option.{same_Some}
use Rattle.spb_edge.specs.declared.source.Source as source
use Rattle.spb_edge.specs.declared.sink.Sink as sink
use Rattle.spb_edge.specs.declared.disk.Disk as disk
use Rattle.spb_edge.specs.declared.reader.Line.{Line}
use Rattle.spb_edge.specs.Crash.{IsDurable}
use Rattle.spb_edge.specs.Known.{with_prefix-nil, with_suffix-nil}
use Rattle.spb_edge.specs.Lines.{lines_of}
use Rattle.spb_edge.specs.Moments.{weaker, joined}
use Rattle.spb_defs.specs.declared.TheConstants.{LINE_LIMIT}
use Rattle.spb_defs.specs.declared.Asked.TheVariants.{Run}
use Rattle.spb_defs.specs.State.{State}
use Rattle.spb_defs.specs.Step.{next_state}
use Rattle.spb_defs.specs.Changes.{IsReached, changes, last_state}
use Rattle.spb_defs.proofs.Reached.{reached_changes}
use Rattle.store_check.specs.Stands.{Stands, IsNoStore}
use Rattle.store_check.specs.Damage.{Breaks}
use Rattle.store_check.proofs.Standing.{one}
use Rattle.store_core.specs.declared.errors.OpenError.{OpenError}
use Rattle.store_core.specs.declared.errors.OpenError.TheVariants as refusal
use Rattle.store_core.specs.declared.opening.Opening.{Opening}
use Rattle.store_core.specs.Parts.{disk_in}
use Rattle.spb_top.specs.declared.status.Status.{Status}
use Rattle.spb_top.specs.declared.status.Status.TheVariants.{Done, Usage, NoMemory, ReadFault, WriteFault, DiskFault, NotStore, Damaged, InputLimit, TooWide, NoSample, BadSample, NotEmpty}
use Rattle.spb_top.specs.Counted.{CountsObjects}
use Rattle.spb_top.specs.Outside.{known_image, outside_of}
use Rattle.spb_top.specs.Written.{WritesReplies, LeavesInput}
use Rattle.spb_top.specs.Causes.{IsKnown, IsKnownStore, HoldsStore, CauseOf, refused_by}
use Rattle.spb_top.specs.Files.{IsKnownBefore, MayLeave}
use Rattle.spb_top.specs.Turns.{AnsweredLines, IsUndamaged, StandsForOne, states_after, states_through}
use Rattle.spb_top.specs.Opened.{IsServed, StandsFor}
use Rattle.spb_top.proofs.Faults.{risen_later}
use Rattle.spb_top.proofs.KnownImages.{if_known, known_store, known_whole}
use Rattle.spb_top.proofs.OpenedFiles.{Leaves, IsBegun, known_too}

-- ---- states

reached_through : (s : State) (lines : List Line) (t : State) → Contains (states_through s lines) t → IsReached s lines t
reached_through s [] t (zero, inside, is) = record { many = 0; within = omega arith; is = sym is }
reached_through s [] t (suc k, inside, is) = absurd (omega (arith, inside))
reached_through s (line ∷ lines) t (zero, inside, is) = record { many = 0; within = omega arith; is = sym is }
reached_through s (line ∷ lines) t (suc k, inside, is) =
    let rest = reached_through (next_state s line) lines t (k, omega (arith, inside), is) in
    let within = rest.within in record { many = suc rest.many; within = omega (arith, within); is = rest.is }

-- the samples of what an image stands for are closed, so the lines lead through the states of the changes
pub through_changes : (image : List ℕ) (s : State) → Stands image s → (script c : List ℕ) → StandsForOne (states_through s (lines_of LINE_LIMIT script)) c
    → StandsForOne (changes s script) c
through_changes image s stood script c (t, has, stands) =
    (t, reached_changes s script t stood.keeps.profiled.samples (reached_through s (lines_of LINE_LIMIT script) t has), stands)

-- ---- nothing is written

pub refused_text : (e : OpenError) (first : State) (script : List ℕ) (left taken : Option (List ℕ)) → WritesReplies (refused_by e) first script left taken taken
refused_text refusal.NotStore first script left taken = refl
refused_text (refusal.Damaged page rule) first script left taken = (0, sym (with_suffix-nil taken))
refused_text refusal.DiskFault first script left taken = (0, sym (with_suffix-nil taken))
refused_text refusal.Memory first script left taken = (0, sym (with_suffix-nil taken))

pub refused_input : (e : OpenError) (script : List ℕ) (left : Option (List ℕ)) → left ≡ Some script → LeavesInput (refused_by e) script left
refused_input e script left is = record { took = []; front = sym is ∙ sym (with_prefix-nil left); whole = λ done. absurd (undone e done) }
  where
    undone : (e : OpenError) → refused_by e ≡ Done → ⊥
    undone refusal.NotStore done = cc
    undone (refusal.Damaged page rule) done = cc
    undone refusal.DiskFault done = cc
    undone refusal.Memory done = cc

module _ {S K D : Type 0} (G : source.Ghosts S) (H : sink.Ghosts K) (E : disk.Ghosts D) (old : D) where
  -- ---- the store is refused

  pub refused_cause : (input input' : S) (output output' : K) (new : D) (e : OpenError) → CountsObjects E old new (Err e)
      → CauseOf Run (refused_by e) (outside_of G H E input input' output output' old new)
  refused_cause input input' output output' new refusal.NotStore counts = if_known E.is_known E.image old IsNoStore counts.0
  refused_cause input input' output output' new (refusal.Damaged page rule) counts = if_known E.is_known E.image old (λ image. Breaks image page rule) counts.0
  refused_cause input input' output output' new refusal.DiskFault counts = (refl, tt, counts.1)
  refused_cause input input' output output' new refusal.Memory counts = tt

  -- ---- crashes

  known_input : (input : Option (List ℕ)) → IsKnown input → (script : List ℕ) × (input ≡ Some script)
  known_input None known = absurd known
  known_input (Some script) known = (script, refl)

  -- what a crash leaves stands for a state of the changes of the one known script, from the one state of the image
  may_leave : (input input' : S) (output output' : K) (new : D) (first : State) → Stands (E.image old) first → (script : List ℕ) → G.left input ≡ Some script
      → (c : List ℕ) → StandsForOne (changes first script) c → MayLeave Run (outside_of G H E input input' output output' old new) c
  may_leave input input' output output' new first stands script left c has = λ s is text left'.
      subst (λ t. StandsForOne (changes t text) c) (one (E.image old) first s stands (known_store E.is_known E.image old s is).1)
      (subst (λ t. StandsForOne (changes first t) c) (same_Some script text (sym left ∙ left')) has)

  -- a run whose crashes leave the state as it was
  pub stays : (input input' : S) (output output' : K) (new : D) → ((s : State) → Stands (E.image old) s → Leaves E old new (λ c. Stands c s))
      → IsKnownBefore Run (outside_of G H E input input' output output' old new)
      → Leaves E old new (MayLeave Run (outside_of G H E input input' output output' old new))
  stays input input' output output' new run before =
      let (known, (first, stands)) = known_whole E.is_known E.image old before.0 in
      let (script, left) = known_input (G.left input) before.1 in
      weaker E.moment E.crash_states_since old new (λ c. Stands c first) (MayLeave Run (outside_of G H E input input' output output' old new))
      (λ c has. may_leave input input' output output' new first stands script left c (first, (0, omega arith, refl), has)) (run first stands)

  -- ---- the lines are answered

  module _ (opening : Opening D) (begun : IsBegun E old opening) (status : Status) (input input' : S) (output output' : K) (new : D)
      (served : IsServed G H E opening status input input' output output' new) where
    stands_too : (first : State) → IsTrue (E.is_known old) → Stands (E.image old) first → StandsFor E opening first
    stands_too first known stands = (known_too E old opening begun known, ((begun.started known).alike first).0 stands)

    pub text : (first : State) → IsKnownStore (known_image E.is_known E.image old) first → (script : List ℕ) → G.left input ≡ Some script
        → WritesReplies status first script (G.left input') (H.taken output) (H.taken output')
    text first is =
        let (known, stands) = known_store E.is_known E.image old first is in served.text first (stands_too first known stands)

    tells_too : IsTrue (E.knows_crashes old) → IsTrue (E.knows_crashes (disk_in opening))
    tells_too tells = subst IsTrue (sym begun.told.1) tells

    pub leaves : ((s : State) → Stands (E.image old) s → Leaves E old (disk_in opening) (λ c. Stands c s)) → IsTrue (E.knows_crashes old)
        → IsKnownBefore Run (outside_of G H E input input' output output' old new)
        → Leaves E old new (MayLeave Run (outside_of G H E input input' output output' old new))
    leaves run tells before =
        let (known, (first, stands)) = known_whole E.is_known E.image old before.0 in
        let (script, left) = known_input (G.left input) before.1 in
        let P = MayLeave Run (outside_of G H E input input' output output' old new) in
        joined E.moment E.crash_states_since old (disk_in opening) new P
        (stays input input' output output' (disk_in opening) run before)
        (weaker E.moment E.crash_states_since (disk_in opening) new (StandsForOne (states_through first (lines_of LINE_LIMIT script))) P
        (λ c has. may_leave input input' output output' new first stands script left c (through_changes (E.image old) first stands script c has))
        (served.any_moment first (stands_too first known stands) (tells_too tells) script left))

    pub acknowledged : IsTrue (E.is_known old) → IsTrue (E.knows_crashes old)
        → (first : State) → Stands (E.image old) first → (script : List ℕ) → G.left input ≡ Some script
        → (before written : List ℕ) → H.taken output ≡ Some before → H.taken output' ≡ Some (before ++ written)
        → (many : ℕ) → AnsweredLines first (lines_of LINE_LIMIT script) written many
        → (c : List ℕ) → E.crash_states new c → StandsForOne (states_after first (lines_of LINE_LIMIT script) many) c
    acknowledged known tells first stands = served.acknowledged first (stands_too first known stands) (tells_too tells)

    pub ends : status ≡ Done → (first : State) → IsKnownStore (known_image E.is_known E.image old) first → (script : List ℕ) → G.left input ≡ Some script
        → Stands (E.image new) (last_state first script)
    ends done first is script left =
        let (known, stands) = known_store E.is_known E.image old first is in (served.done first (stands_too first known stands) script left done).0

    pub durable : IsTrue (E.is_known old) → IsTrue (E.knows_crashes old) → (script : List ℕ) → G.left input ≡ Some script → status ≡ Done
        → IsDurable (E.image new) (E.crash_states new)
    durable known tells script left done =
        let now = known_too E old opening begun known in
        let (first, stands) = served.stands now in
        served.durable first (now, stands) (tells_too tells) script left done

    -- the image stood for a state, if it is known
    was_store : HoldsStore (known_image E.is_known E.image old)
    was_store = if_known E.is_known E.image old (λ image. (s : State) × Stands image s) (λ known.
        let (first, stands) = served.stands (known_too E old opening begun known) in
        (first, ((begun.started known).alike first).1 stands))

    was_undamaged : (P : List ℕ → Type 0) → (IsUndamaged status → ⊥) → IfSome (known_image E.is_known E.image old) P
    was_undamaged P damaged = if_known E.is_known E.image old P (λ known.
        let now = known_too E old opening begun known in
        let (first, stands) = served.stands now in absurd (damaged (served.undamaged first (now, stands))))

  -- why the answering ended
  pub served_cause : (opening : Opening D) → IsBegun E old opening → (input input' : S) (output output' : K) (new : D) (status : Status)
      → IsServed G H E opening status input input' output output' new → CauseOf Run status (outside_of G H E input input' output output' old new)
  served_cause opening begun input input' output output' new Done served =
      (was_store opening begun Done input input' output output' new served, served.cause)
  served_cause opening begun input input' output output' new Usage served = absurd served.cause
  served_cause opening begun input input' output output' new NoMemory served = tt
  served_cause opening begun input input' output output' new ReadFault served =
      (refl, was_store opening begun ReadFault input input' output output' new served, served.cause)
  served_cause opening begun input input' output output' new WriteFault served =
      (was_store opening begun WriteFault input input' output output' new served, tt, served.cause)
  served_cause opening begun input input' output output' new DiskFault served =
      (refl, tt, risen_later (E.faults old) (E.faults (disk_in opening)) (E.faults new) begun.faults served.cause)
  served_cause opening begun input input' output output' new NotStore served = absurd served.cause
  served_cause opening begun input input' output output' new (Damaged page rule) served =
      was_undamaged opening begun (Damaged page rule) input input' output output' new served (λ image. Breaks image page rule) (λ undamaged. undamaged)
  served_cause opening begun input input' output output' new InputLimit served =
      (refl, was_store opening begun InputLimit input input' output output' new served, served.cause)
  served_cause opening begun input input' output output' new TooWide served = absurd served.cause
  served_cause opening begun input input' output output' new NoSample served = absurd served.cause
  served_cause opening begun input input' output output' new (BadSample line) served = absurd served.cause
  served_cause opening begun input input' output output' new NotEmpty served = absurd served.cause
