-- What a crash during an opening leaves.
use Rattle.std.proofs.Common.{◌≡◌, ◌⊎◌, inl, inr, ⊎_elim, ℕ, ◌*◌, ◌≤◌, Bool, IsTrue, List, length, sym, subst}
use Rattle.spb_edge.specs.Crash.{IsDurable, Includes, CrashesLeaveOnly}
use Rattle.spb_edge.specs.Moments.{started, weaker, joined}
use Rattle.spb_edge.specs.Quiet.{IsQuiet, calmly}
use Rattle.spb_defs.specs.State.{State}
use Rattle.redo_journal.specs.Redo.{RecoversTo}
use Rattle.store_check.specs.Layout.{file_pages}
use Rattle.store_check.specs.Stands.{Stands, store_magic}
use Rattle.store_core.proofs.Starting.{same_total}

module _ {D : Type 0} (image : D → List ℕ) (crash_states : D → List ℕ → Type 0) (moment : D → ℕ) (crash_states_since : D → ℕ → List ℕ → Type 0) where
  -- a run from one disk to another leaves what was a crash state at its start, or stands for the state
  abbrev pub Leaves : State → D → D → Type 0
  Leaves s old new = CrashesLeaveOnly moment crash_states_since old new (λ c. crash_states old c ⊎ Stands c s)

  -- a recovery
  pub recovery_leaves : (total : ℕ) (s : State) (old new : D) → length (image old) ≡ 512 * total → Stands (image old) s
      → ((marks : List ℕ) (home : ℕ → List ℕ) → RecoversTo total (image old) marks home
      → CrashesLeaveOnly moment crash_states_since old new (λ c. crash_states old c ⊎ RecoversTo total c marks home))
      → Leaves s old new
  recovery_leaves total s old new size stands run =
      let same : file_pages s.cap ≡ total = same_total total (image old) s size stands in
      let home = stands.home in
      weaker moment crash_states_since old new (λ c. crash_states old c ⊎ RecoversTo total c store_magic home) (λ c. crash_states old c ⊎ Stands c s)
      (λ c. ⊎_elim (λ left. inl left) (λ has. inr (record { home = home; has = subst (λ t. RecoversTo t c store_magic home) (sym same) has; keeps = stands.keeps })))
      (run store_magic home (subst (λ t. RecoversTo t (image old) store_magic home) same stands.has))

  -- if nothing was pending at the start, what a crash leaves stands for the state
  pub leaves_durably : (s : State) (old new : D) → IsDurable (image old) (crash_states old) → Stands (image old) s → Leaves s old new
      → CrashesLeaveOnly moment crash_states_since old new (λ c. Stands c s)
  leaves_durably s old new durable stands run =
      weaker moment crash_states_since old new (λ c. crash_states old c ⊎ Stands c s) (λ c. Stands c s)
      (λ c. ⊎_elim (λ left. subst (λ i. Stands i s) (sym (durable c left)) stands) (λ has. has)) run

  module _ (is_known knows_crashes : D → Bool) (size_of : D → ℕ) where
    abbrev pub Quiet : D → D → Type 0
    Quiet = IsQuiet is_known knows_crashes size_of image crash_states moment crash_states_since

    -- nothing but a quiet stretch
    pub leaves_quietly : (s : State) (old new : D) → Includes (crash_states old) (crash_states_since old (moment old)) → Quiet old new → Leaves s old new
    leaves_quietly s old new only quiet =
        calmly is_known knows_crashes size_of image crash_states moment crash_states_since old old new (λ c. crash_states old c ⊎ Stands c s)
        (started moment crash_states_since old (λ c. crash_states old c ⊎ Stands c s) (λ c left. inl (only c left))) quiet (λ c now. inl now)

    -- a quiet stretch before
    pub leaves_after : (s : State) (old mid new : D) → Includes (crash_states old) (crash_states_since old (moment old)) → Quiet old mid
        → Leaves s mid new → Leaves s old new
    leaves_after s old mid new only quiet run =
        joined moment crash_states_since old mid new (λ c. crash_states old c ⊎ Stands c s) (leaves_quietly s old mid only quiet)
        (weaker moment crash_states_since mid new (λ c. crash_states mid c ⊎ Stands c s) (λ c. crash_states old c ⊎ Stands c s)
        (λ c. ⊎_elim (λ left. inl (quiet.no_more c left)) (λ has. inr has)) run)

    -- and one behind
    pub leaves_before : (s : State) (old mid new : D)
        → ((t : ℕ) (c : List ℕ) → t ≤ moment mid → crash_states mid c → crash_states_since mid t c)
        → Leaves s old mid → Quiet mid new → Leaves s old new
    leaves_before s old mid new counts run quiet =
        calmly is_known knows_crashes size_of image crash_states moment crash_states_since old mid new (λ c. crash_states old c ⊎ Stands c s)
        run quiet (λ c now. run.each c (counts (moment old) c run.later now))

    -- what a run over the journal says of its moments
    abbrev pub Says : D → D → Type 0
    Says old new = IsTrue (is_known old) → IsTrue (knows_crashes old) → (s : State) → Stands (image old) s → Leaves s old new

    -- the pages are counted, and then a journal over the same disk is opened
    pub opening_leaves : (start counted at new last : D) → Includes (crash_states start) (crash_states_since start (moment start)) → Quiet start counted
        → at ≡ counted → last ≡ new → Says at new → Says start last
    opening_leaves start counted at new last only quiet same end says = λ tells crashes s stands.
        let all : Says counted new = subst (λ d. Says d new) same says in
        subst (λ d. Leaves s start d) (sym end)
        (leaves_after s start counted new only quiet
        (all (subst IsTrue (sym quiet.tells) tells) (subst IsTrue (sym quiet.tells_crashes_too) crashes) s
        (subst (λ i. Stands i s) (sym (quiet.image_is tells)) stands)))
