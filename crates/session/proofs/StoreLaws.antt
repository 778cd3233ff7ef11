-- What a command is answered, and what it leaves, by the state `t` that it acts on.
use Rattle.std.proofs.Common.{◌≡◌, ℕ, ◌<◌, ◌≤◌, Bool, true, false, Option, Some, None, List, [], ◌∷◌, ◌++◌, length, refl, sym, ap, ◌∙◌, arith}
use Rattle.std.specs.Prelude.{is_some, nat_le, if◌then◌else◌}
use Rattle.std.proofs.lemmas.Bool.Decides.{nat_tests}
use Rattle.spb_defs.specs.declared.TheConstants.{SAMPLE_LIMIT}
use Rattle.spb_defs.specs.declared.Reply.{Reply}
use Rattle.spb_defs.specs.declared.Reply.TheVariants.{Done, Exists, Absent, Full, Late, Object, Count}
use Rattle.spb_defs.specs.declared.Command.{Command}
use Rattle.spb_defs.specs.declared.Command.TheVariants as command
use Rattle.spb_defs.specs.State.{State, with_samples_closed, pivots_after_sampling, object_at, is_full, with_object, without_object, member_count}
use Rattle.spb_defs.specs.Step.{sample_reply, with_sample, get_reply, reply_of, changed_state}

abbrev pub Says : State → Command → Reply → State → Type 0
Says t asked said left = (reply_of t asked ≡ said) × (changed_state t asked ≡ left)

-- ---- samples

kept_as : (t : State) (object : List ℕ) (samples kept : Option (List (List ℕ))) → t.samples ≡ samples → with_sample samples object ≡ kept
    → record t { samples = with_sample t.samples object } ≡ record t { samples = kept }
kept_as t object samples kept is with = ap (λ (kept : Option (List (List ℕ))). record t { samples = kept })
    (ap (λ (kept : Option (List (List ℕ))). with_sample kept object) is ∙ with)

same_samples : (t : State) (samples : Option (List (List ℕ))) → t.samples ≡ samples → record t { samples = samples } ≡ t
same_samples t samples is = ap (λ (kept : Option (List (List ℕ))). record t { samples = kept }) (sym is)

pub sample_late : (t : State) (object : List ℕ) → t.samples ≡ None → Says t (command.Sample object) Late t
unfolding reply_of changed_state
sample_late t object is = (ap sample_reply is, kept_as t object None None is refl ∙ same_samples t None is)

pub sample_full : (t : State) (object : List ℕ) (kept : List (List ℕ)) → t.samples ≡ Some kept → SAMPLE_LIMIT ≤ length kept
    → Says t (command.Sample object) Full t
unfolding reply_of changed_state
sample_full t object kept is full =
    let no_room : nat_le SAMPLE_LIMIT (length kept) ≡ true = grind (arith, nat_tests) in (
      ap sample_reply is ∙ ap (λ b. if b then Full else Done) no_room,
      kept_as t object (Some kept) (Some kept) is (ap (λ (b : Bool). if b then Some kept else Some (kept ++ object ∷ [])) no_room)
          ∙ same_samples t (Some kept) is,
    )

pub sample_kept : (t : State) (object : List ℕ) (kept : List (List ℕ)) → t.samples ≡ Some kept → length kept < SAMPLE_LIMIT
    → Says t (command.Sample object) Done (record t { samples = Some (kept ++ object ∷ []) })
unfolding reply_of changed_state
sample_kept t object kept is room =
    let some_room : nat_le SAMPLE_LIMIT (length kept) ≡ false = grind (arith, nat_tests) in (
      ap sample_reply is ∙ ap (λ b. if b then Full else Done) some_room,
      kept_as t object (Some kept) (Some (kept ++ object ∷ [])) is (ap (λ (b : Bool). if b then Some kept else Some (kept ++ object ∷ [])) some_room),
    )

-- ---- additions, removals, look-ups and counts

module _ (t : State) (c id : ℕ) where
  abbrev Added : List ℕ → State
  Added object = record t { members = with_object t.members c id object }

  pub add_existing : (object : List ℕ) → is_some (object_at t c id) ≡ true → Says t (command.Add c id object) Exists t
  unfolding reply_of changed_state
  add_existing object there = (
    ap (λ b. if b then Exists else (if is_full t then Full else Done)) there,
    ap (λ (b : Bool). if b then t else (if is_full t then t else Added object)) there,
  )

  pub add_full : (object : List ℕ) → is_some (object_at t c id) ≡ false → t.cap ≤ length t.members → Says t (command.Add c id object) Full t
  unfolding reply_of changed_state
  add_full object new full =
      let no_room : is_full t ≡ true = grind (arith, nat_tests) in (
        ap (λ b. if b then Exists else (if is_full t then Full else Done)) new ∙ ap (λ b. if b then Full else Done) no_room,
        ap (λ (b : Bool). if b then t else (if is_full t then t else Added object)) new ∙ ap (λ (b : Bool). if b then t else Added object) no_room,
      )

  pub add_new : (object : List ℕ) → is_some (object_at t c id) ≡ false → length t.members < t.cap → Says t (command.Add c id object) Done (Added object)
  unfolding reply_of changed_state
  add_new object new room =
      let some_room : is_full t ≡ false = grind (arith, nat_tests) in (
        ap (λ b. if b then Exists else (if is_full t then Full else Done)) new ∙ ap (λ b. if b then Full else Done) some_room,
        ap (λ (b : Bool). if b then t else (if is_full t then t else Added object)) new ∙ ap (λ (b : Bool). if b then t else Added object) some_room,
      )

  abbrev Dropped : State
  Dropped = record t { members = without_object t.members c id }

  pub drop_absent : is_some (object_at t c id) ≡ false → Says t (command.Discard c id) Absent t
  unfolding reply_of changed_state
  drop_absent none = (ap (λ (b : Bool). if b then Done else Absent) none, ap (λ (b : Bool). if b then Dropped else t) none)

  pub drop_there : is_some (object_at t c id) ≡ true → Says t (command.Discard c id) Done Dropped
  unfolding reply_of changed_state
  drop_there there = (ap (λ (b : Bool). if b then Done else Absent) there, ap (λ (b : Bool). if b then Dropped else t) there)

  pub get_absent : object_at t c id ≡ None → reply_of t (command.Get c id) ≡ Absent
  unfolding reply_of
  get_absent none = ap get_reply none

  pub get_there : (object : List ℕ) → object_at t c id ≡ Some object → reply_of t (command.Get c id) ≡ Object object
  unfolding reply_of
  get_there object there = ap get_reply there

pub counted : (t : State) (c many : ℕ) → many ≡ member_count t.members c → reply_of t (command.Count c) ≡ Count many
unfolding reply_of
counted t c many is = ap Count (sym is)

-- ---- closed samples

-- a state that keeps no samples is closed
pub closed_already : (t : State) → t.samples ≡ None → t ≡ with_samples_closed t
closed_already t none =
    ap (λ (kept : Option (List (List ℕ))). record t { samples = kept }) none
    ∙ sym (ap (λ (kept : Option (List (List ℕ))). record t { pivots = pivots_after_sampling t kept; samples = None }) none)
