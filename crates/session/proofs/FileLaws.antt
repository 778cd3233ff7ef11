-- What the answers of a store in a file make of a session's state.
use Rattle.std.proofs.Common.{◌≡◌, inl, ℕ, Bool, true, false, List, Option, None, Some, Err, refl, sym, ap, subst, ◌∙◌, arith}
use Rattle.std.specs.Prelude.{◌==◌, is_some, if◌then◌else◌, IsSome, IfOk, OnOk}
use Rattle.std.proofs.lemmas.Option.{same_Some}
use Rattle.spb_edge.specs.Crash.{Includes, IsDurable, CrashesLeaveOnly}
use Rattle.spb_edge.specs.Quiet.{IsQuiet, quiet_same}
use Rattle.metric_laws.specs.Objects.{Object}
use Rattle.metrics_builtin.specs.Space.{dist}
use Rattle.spb_defs.specs.declared.Command.{Command}
use Rattle.spb_defs.specs.declared.Command.TheVariants as command
use Rattle.spb_defs.specs.declared.Reply.TheVariants as said
use Rattle.spb_defs.specs.declared.Reply.TheVariants.{Done, Exists, Absent, Full, Curve, Late, Count}
use Rattle.spb_defs.specs.Scans.{considered_pairs, join_answer}
use Rattle.spb_defs.specs.State.{State, with_samples_closed, pivots_after_sampling, allows_joins, object_at, is_full, member_count, entries_in}
use Rattle.spb_defs.specs.Step.{sample_reply, with_sample, get_reply, join_reply, acting_state, reply_of, changed_state}
use Rattle.redo_journal.specs.Pages.{page}
use Rattle.redo_journal.specs.Redo.{RecoversTo}
use Rattle.store_check.specs.declared.profile.Profile.{Profile}
use Rattle.store_check.specs.Layout.{file_pages}
use Rattle.store_check.specs.Stands.{Stands}
use Rattle.open_store.specs.declared.errors.First.{First}
use Rattle.open_store.specs.declared.errors.ChangeError.{ChangeError}
use Rattle.open_store.specs.declared.errors.ChangeError.TheVariants as change
use Rattle.open_store.specs.Store.{StoreView, IsInState, with_member, without_member}
use Rattle.open_store.specs.Answers.{Spends, StaysIfRefused, AnswersAdd, AnswersKey, StandsForEither}
use Rattle.open_store.proofs.SlotRuns.{stands_for_itself, still}
use Rattle.session.specs.FileSession.{error_reply}

-- ---- the state of a store in a file

module _ {D M : Type 0} (is_known : D → Bool) (image : D → List ℕ) (v : StoreView D M) (s : State) (in_state : IsInState is_known image v s) where
  profile_of : in_state.stored.keeps.profiled.profile ≡ v.profile
  profile_of = same_Some in_state.stored.keeps.profiled.profile v.profile (sym in_state.stored.keeps.profiled.reads ∙ in_state.profile_is)

  pub space_of : s.space ≡ v.profile.space
  space_of = in_state.stored.keeps.profiled.space ∙ ap (λ (p : Profile). p.space) profile_of

  pub curve_of : s.curve ≡ Some v.profile.curve
  curve_of = in_state.stored.keeps.profiled.curve ∙ ap (λ (p : Profile). Some p.curve) profile_of

  pub samples_of : s.samples ≡ None
  samples_of = in_state.stored.keeps.profiled.samples

  pub stands : Stands (image v.pages.disk) s
  stands = record {
    home = page (image v.pages.disk);
    has = subst (λ marks. RecoversTo (file_pages s.cap) (image v.pages.disk) marks (page (image v.pages.disk))) in_state.stored.marks_are
        (stands_for_itself (file_pages s.cap) (image v.pages.disk) (omega arith) in_state.stored.size in_state.stored.closed);
    keeps = in_state.stored.keeps;
  }

-- a store in a file keeps no samples, so a command acts on its state
closed_same : (s : State) → s.samples ≡ None → with_samples_closed s ≡ s
closed_same s is =
    ap (λ (kept : Option (List Object)). record s { pivots = pivots_after_sampling s kept; samples = None }) is
    ∙ ap (λ (kept : Option (List Object)). record s { samples = kept }) (sym is)

pub acting_same : (s : State) (asked : Command) → s.samples ≡ None → acting_state s asked ≡ s
acting_same s (command.Sample object) is = refl
acting_same s (command.Add c id object) is = closed_same s is
acting_same s (command.Discard c id) is = closed_same s is
acting_same s (command.Get c id) is = closed_same s is
acting_same s (command.Count c) is = closed_same s is
acting_same s (command.Range c r object) is = closed_same s is
acting_same s (command.Near c k object) is = closed_same s is
acting_same s (command.Join c d r) is = closed_same s is

-- ---- what a crash leaves

module _ {D M : Type 0} (is_known knows_crashes : D → Bool) (size_of : D → ℕ) (image : D → List ℕ) (crash_states : D → List ℕ → Type 0) (moment : D → ℕ)
    (crash_states_since : D → ℕ → List ℕ → Type 0) (only_now : (d : D) → Includes (crash_states d) (crash_states_since d (moment d))) where
  -- over a quiet stretch, what stands for the state
  pub left_quiet : (v : StoreView D M) (s t : State) (new : D) → IsInState is_known image v s
      → IsDurable (image v.pages.disk) (crash_states v.pages.disk)
      → IsQuiet is_known knows_crashes size_of image crash_states moment crash_states_since v.pages.disk new
      → CrashesLeaveOnly moment crash_states_since v.pages.disk new (StandsForEither s t)
  left_quiet v s t new in_state durable quiet =
      still is_known knows_crashes size_of image crash_states moment crash_states_since only_now v.pages.disk new (StandsForEither s t) quiet
      (λ c now. inl (subst (λ (i : List ℕ). Stands i s) (sym (durable c now)) (stands is_known image v s in_state)))

  -- the same if no call is made
  pub left_same : (v : StoreView D M) (s t : State) → IsInState is_known image v s → IsDurable (image v.pages.disk) (crash_states v.pages.disk)
      → CrashesLeaveOnly moment crash_states_since v.pages.disk v.pages.disk (StandsForEither s t)
  left_same v s t in_state durable =
      left_quiet v s t v.pages.disk in_state durable
      (quiet_same is_known knows_crashes size_of image crash_states moment crash_states_since v.pages.disk (only_now v.pages.disk))

-- ---- what is refused

module _ {V : Type 0} (old new : V) where
  -- what holds before a call that was refused holds after it
  pub error_kept : (P : V → Type 0) (e : ChangeError) → StaysIfRefused (Err e) old new → P old → OnOk (error_reply e) (P new)
  error_kept P change.Exists stays here = subst P (sym stays) here
  error_kept P change.Absent stays here = subst P (sym stays) here
  error_kept P change.Full stays here = subst P (sym stays) here
  error_kept P change.DiskFault stays here = tt
  error_kept P (change.Damaged n r) stays here = tt
  error_kept P change.Memory stays here = tt
  error_kept P (change.Spent e) stays here = tt

is_there : {A : Type 0} (found : Option A) → IsSome found → is_some found ≡ true
is_there found some = some

isnt_there : {A : Type 0} (found : Option A) → found ≡ None → is_some found ≡ false
isnt_there found none = ap is_some none

-- ---- additions

module _ (s : State) (c id : ℕ) (object : List ℕ) where
  abbrev asked_add : Command
  asked_add = command.Add c id object

  pub added_reply : (object_at s c id ≡ None) × (is_full s ≡ false) → Done ≡ reply_of s asked_add
  unfolding reply_of
  added_reply (none, room) =
      sym (ap (λ (b : Bool). if b then Exists else (if is_full s then Full else Done)) (isnt_there (object_at s c id) none)
      ∙ ap (λ (b : Bool). if b then Full else Done) room)

  pub added_state : (object_at s c id ≡ None) × (is_full s ≡ false) → with_member s c id object ≡ changed_state s asked_add
  unfolding changed_state
  added_state (none, room) =
      sym (ap (λ (b : Bool). if b then s else (if is_full s then s else with_member s c id object)) (isnt_there (object_at s c id) none)
      ∙ ap (λ (b : Bool). if b then s else with_member s c id object) room)

  exists_reply : IsSome (object_at s c id) → Exists ≡ reply_of s asked_add
  unfolding reply_of
  exists_reply some = sym (ap (λ (b : Bool). if b then Exists else (if is_full s then Full else Done)) (is_there (object_at s c id) some))

  exists_state : IsSome (object_at s c id) → s ≡ changed_state s asked_add
  unfolding changed_state
  exists_state some = sym (ap (λ (b : Bool). if b then s else (if is_full s then s else with_member s c id object)) (is_there (object_at s c id) some))

  full_reply : (object_at s c id ≡ None) × (is_full s ≡ true) → Full ≡ reply_of s asked_add
  unfolding reply_of
  full_reply (none, full) =
      sym (ap (λ (b : Bool). if b then Exists else (if is_full s then Full else Done)) (isnt_there (object_at s c id) none)
      ∙ ap (λ (b : Bool). if b then Full else Done) full)

  full_state : (object_at s c id ≡ None) × (is_full s ≡ true) → s ≡ changed_state s asked_add
  unfolding changed_state
  full_state (none, full) =
      sym (ap (λ (b : Bool). if b then s else (if is_full s then s else with_member s c id object)) (isnt_there (object_at s c id) none)
      ∙ ap (λ (b : Bool). if b then s else with_member s c id object) full)

  pub refused_add : (e : ChangeError) → AnswersAdd (object_at s c id) (is_full s) (Err e) → IfOk (error_reply e) (λ r. r ≡ reply_of s asked_add)
  refused_add change.Exists answers = exists_reply answers
  refused_add change.Absent answers = absurd answers
  refused_add change.Full answers = full_reply answers
  refused_add change.DiskFault answers = tt
  refused_add (change.Damaged n r) answers = tt
  refused_add change.Memory answers = tt
  refused_add (change.Spent e) answers = tt

  module _ {V : Type 0} (old new : V) where
    pub kept_add : (holds : V → State → Type 0) (e : ChangeError) → AnswersAdd (object_at s c id) (is_full s) (Err e) → StaysIfRefused (Err e) old new
        → holds old s → OnOk (error_reply e) (holds new (changed_state s asked_add))
    kept_add holds change.Exists answers stays here = subst (λ (v : V). holds v (changed_state s asked_add)) (sym stays) (subst (holds old) (exists_state answers) here)
    kept_add holds change.Absent answers stays here = absurd answers
    kept_add holds change.Full answers stays here = subst (λ (v : V). holds v (changed_state s asked_add)) (sym stays) (subst (holds old) (full_state answers) here)
    kept_add holds change.DiskFault answers stays here = tt
    kept_add holds (change.Damaged n r) answers stays here = tt
    kept_add holds change.Memory answers stays here = tt
    kept_add holds (change.Spent e) answers stays here = tt

    -- what a call leaves, by what it leaves if it is refused and if it isn't
    pub left_add : (leaves : V → State → Type 0) (now : Option First) (e : ChangeError) → Spends None (Err e) old new now
        → AnswersAdd (object_at s c id) (is_full s) (Err e) → StaysIfRefused (Err e) old new → ((t : State) → leaves old t)
        → leaves new (with_member s c id object) → leaves new (changed_state s asked_add)
    left_add leaves now change.Exists spends answers stays same run = subst (λ (v : V). leaves v (changed_state s asked_add)) (sym stays) (same (changed_state s asked_add))
    left_add leaves now change.Absent spends answers stays same run = absurd answers
    left_add leaves now change.Full spends answers stays same run = subst (λ (v : V). leaves v (changed_state s asked_add)) (sym stays) (same (changed_state s asked_add))
    left_add leaves now change.DiskFault spends answers stays same run = subst (leaves new) (added_state answers) run
    left_add leaves now (change.Damaged n r) spends answers stays same run = absurd answers
    left_add leaves now change.Memory spends answers stays same run = subst (leaves new) (added_state answers) run
    left_add leaves now (change.Spent e) spends answers stays same run = absurd spends

-- ---- removals

module _ (s : State) (c id : ℕ) where
  abbrev asked_drop : Command
  asked_drop = command.Discard c id

  pub dropped_reply : IsSome (object_at s c id) → Done ≡ reply_of s asked_drop
  unfolding reply_of
  dropped_reply some = sym (ap (λ (b : Bool). if b then Done else Absent) (is_there (object_at s c id) some))

  pub dropped_state : IsSome (object_at s c id) → without_member s c id ≡ changed_state s asked_drop
  unfolding changed_state
  dropped_state some = sym (ap (λ (b : Bool). if b then without_member s c id else s) (is_there (object_at s c id) some))

  absent_reply : object_at s c id ≡ None → Absent ≡ reply_of s asked_drop
  unfolding reply_of
  absent_reply none = sym (ap (λ (b : Bool). if b then Done else Absent) (isnt_there (object_at s c id) none))

  absent_state : object_at s c id ≡ None → s ≡ changed_state s asked_drop
  unfolding changed_state
  absent_state none = sym (ap (λ (b : Bool). if b then without_member s c id else s) (isnt_there (object_at s c id) none))

  pub refused_drop : (e : ChangeError) → AnswersKey (object_at s c id) (Err e) → IfOk (error_reply e) (λ r. r ≡ reply_of s asked_drop)
  refused_drop change.Exists answers = absurd answers
  refused_drop change.Absent answers = absent_reply answers
  refused_drop change.Full answers = absurd answers
  refused_drop change.DiskFault answers = tt
  refused_drop (change.Damaged n r) answers = tt
  refused_drop change.Memory answers = tt
  refused_drop (change.Spent e) answers = tt

  module _ {V : Type 0} (old new : V) where
    pub kept_drop : (holds : V → State → Type 0) (e : ChangeError) → AnswersKey (object_at s c id) (Err e) → StaysIfRefused (Err e) old new
        → holds old s → OnOk (error_reply e) (holds new (changed_state s asked_drop))
    kept_drop holds change.Exists answers stays here = absurd answers
    kept_drop holds change.Absent answers stays here = subst (λ (v : V). holds v (changed_state s asked_drop)) (sym stays) (subst (holds old) (absent_state answers) here)
    kept_drop holds change.Full answers stays here = absurd answers
    kept_drop holds change.DiskFault answers stays here = tt
    kept_drop holds (change.Damaged n r) answers stays here = tt
    kept_drop holds change.Memory answers stays here = tt
    kept_drop holds (change.Spent e) answers stays here = tt

    pub left_drop : (leaves : V → State → Type 0) (now : Option First) (e : ChangeError) → Spends None (Err e) old new now
        → AnswersKey (object_at s c id) (Err e) → StaysIfRefused (Err e) old new → ((t : State) → leaves old t)
        → leaves new (without_member s c id) → leaves new (changed_state s asked_drop)
    left_drop leaves now change.Exists spends answers stays same run = absurd answers
    left_drop leaves now change.Absent spends answers stays same run = subst (λ (v : V). leaves v (changed_state s asked_drop)) (sym stays) (same (changed_state s asked_drop))
    left_drop leaves now change.Full spends answers stays same run = absurd answers
    left_drop leaves now change.DiskFault spends answers stays same run = subst (leaves new) (dropped_state answers) run
    left_drop leaves now (change.Damaged n r) spends answers stays same run = subst (leaves new) (dropped_state answers) run
    left_drop leaves now change.Memory spends answers stays same run = subst (leaves new) (dropped_state answers) run
    left_drop leaves now (change.Spent e) spends answers stays same run = absurd spends

  -- ---- look-ups

  abbrev asked_get : Command
  asked_get = command.Get c id

  pub given_reply : (object : List ℕ) → object_at s c id ≡ Some object → said.Object object ≡ reply_of s asked_get
  unfolding reply_of
  given_reply object is = sym (ap get_reply is)

  none_reply : object_at s c id ≡ None → Absent ≡ reply_of s asked_get
  unfolding reply_of
  none_reply none = sym (ap get_reply none)

  pub get_state : s ≡ changed_state s asked_get
  unfolding changed_state
  get_state = refl

  pub refused_get : (e : ChangeError) → AnswersKey (object_at s c id) (Err e) → IfOk (error_reply e) (λ r. r ≡ reply_of s asked_get)
  refused_get change.Exists answers = absurd answers
  refused_get change.Absent answers = none_reply answers
  refused_get change.Full answers = absurd answers
  refused_get change.DiskFault answers = tt
  refused_get (change.Damaged n r) answers = tt
  refused_get change.Memory answers = tt
  refused_get (change.Spent e) answers = tt

-- ---- commands that change nothing

pub sample_late : (s : State) (object : List ℕ) → s.samples ≡ None → Late ≡ reply_of s (command.Sample object)
unfolding reply_of
sample_late s object is = sym (ap sample_reply is)

pub sample_state : (s : State) (object : List ℕ) → s.samples ≡ None → s ≡ changed_state s (command.Sample object)
unfolding changed_state
sample_state s object is =
    ap (λ (kept : Option (List (List ℕ))). record s { samples = kept }) is
    ∙ sym (ap (λ (kept : Option (List (List ℕ))). record s { samples = with_sample kept object }) is)

pub count_reply : (s : State) (c many : ℕ) → many ≡ member_count s.members c → Count many ≡ reply_of s (command.Count c)
unfolding reply_of
count_reply s c many is = ap Count is

pub count_state : (s : State) (c : ℕ) → s ≡ changed_state s (command.Count c)
unfolding changed_state
count_state s c = refl

pub range_state : (s : State) (c r : ℕ) (query : List ℕ) → s ≡ changed_state s (command.Range c r query)
unfolding changed_state
range_state s c r query = refl

pub near_state : (s : State) (c k : ℕ) (query : List ℕ) → s ≡ changed_state s (command.Near c k query)
unfolding changed_state
near_state s c k query = refl

pub join_state : (s : State) (c d r : ℕ) → s ≡ changed_state s (command.Join c d r)
unfolding changed_state
join_state s c d r = refl

pub no_join : (s : State) (c d r : ℕ) → allows_joins s.curve ≡ false → Curve ≡ reply_of s (command.Join c d r)
unfolding reply_of
no_join s c d r is =
    sym (ap (λ (b : Bool). if b then join_reply
    (join_answer (dist s.space) s.pivots (considered_pairs (c == d) (entries_in s.members c) (entries_in s.members d)) r) else Curve) is)
