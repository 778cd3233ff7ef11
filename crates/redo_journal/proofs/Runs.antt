-- The runs of device calls that a commit and a settling make.
use Rattle.std.proofs.Common.{◌≡◌, ◌⊎◌, inl, inr, ⊎_elim, ℕ, suc, ◌+◌, ◌*◌, ◌<◌, ◌≤◌, ◌==◌, Bool, true, false, List, [], ◌∷◌, ◌++◌, length, refl, ap, sym, ◌∙◌, subst, arith}
use Rattle.std.specs.Map.{keys_of}
use Rattle.spb_edge.specs.Crash.{IsTornWrite, IsDurable, Includes, Elapses, CrashesLeaveOnly}
use Rattle.spb_edge.specs.Disk.{overwritten_at}
use Rattle.spb_edge.specs.Moments.{started, goes_on, weaker, joined}
use Rattle.spb_edge.specs.Quiet.{IsQuiet, calmly}
use Rattle.spb_edge.specs.Tears.{torn-overwritten_at}
use Rattle.redo_journal.specs.Pages.{page}
use Rattle.redo_journal.specs.Redo.{has_open_gate, RecoversTo, DiffersWithin}
use Rattle.redo_journal.specs.Header.{header_page, AreHomes}
use Rattle.redo_journal.specs.Change.{StagedPages, IsChange, AreInPlace, HoldsChange, Commits, IsBeforeOrAfter, joined_images}
use Rattle.redo_journal.proofs.Pages.{torn_size}
use Rattle.redo_journal.proofs.Commit.{gate_torn, gate_opens, body_torn, body_laid, IsWritten, written_still, opened_home}
use Rattle.redo_journal.proofs.Settle.{differs_home, gate_closes, gate_laid}

module _ {D : Type 0} (moment : D → ℕ) (crash_states_since : D → ℕ → List ℕ → Type 0) (image : D → List ℕ) (crash_states : D → List ℕ → Type 0)
    (total : ℕ) (es : List (ℕ × List ℕ)) (marks : List ℕ) (home : ℕ → List ℕ) where
  -- the pages went home, and were synced
  pub settled_so_far : (start written synced : D) → AreHomes total 0 (keys_of es) → HoldsChange es (image start) → RecoversTo total (image start) marks home
      → CrashesLeaveOnly moment crash_states_since start written (DiffersWithin total (keys_of es) (image start))
      → ((c : List ℕ) → crash_states written c → DiffersWithin total (keys_of es) (image start) c)
      → Elapses (moment written) (moment synced) (crash_states_since written) (crash_states_since synced) (crash_states synced)
      → Includes (crash_states written) (crash_states synced)
      → CrashesLeaveOnly moment crash_states_since start synced (λ c. RecoversTo total c marks home)
  settled_so_far start written synced homes holds stands run crash time within =
      let as_home : (c : List ℕ) → DiffersWithin total (keys_of es) (image start) c → RecoversTo total c marks home =
      λ c differs. differs_home total es (image start) c stands.least homes holds differs marks home stands in
      goes_on moment crash_states_since start written synced (λ c. RecoversTo total c marks home) (crash_states synced)
      (weaker moment crash_states_since start written (DiffersWithin total (keys_of es) (image start)) (λ c. RecoversTo total c marks home) as_home run) time
      (λ c now. as_home c (crash c (within c now)))

  -- and then the gate was written
  pub settled : (start synced now : D) → AreHomes total 0 (keys_of es) → HoldsChange es (image start) → RecoversTo total (image start) marks home
      → CrashesLeaveOnly moment crash_states_since start synced (λ c. RecoversTo total c marks home)
      → AreInPlace es (image synced) → DiffersWithin total (keys_of es) (image start) (image synced)
      → CrashesLeaveOnly moment crash_states_since synced now (IsTornWrite 16 1 (image synced))
      → CrashesLeaveOnly moment crash_states_since start now (λ c. RecoversTo total c marks home)
  settled start synced now homes holds stands so_far placed differs run =
      joined moment crash_states_since start synced now (λ c. RecoversTo total c marks home) so_far
      (weaker moment crash_states_since synced now (IsTornWrite 16 1 (image synced)) (λ c. RecoversTo total c marks home)
      (λ c torn. gate_closes total es (image start) (image synced) c marks home homes holds differs placed
      (gate_torn total (image synced) c stands.least (differs.size ∙ stands.size) torn) stands) run)

  -- the body went into the journal
  pub committed_so_far : (start written : D) → RecoversTo total (image start) marks home → has_open_gate (image start) ≡ false → length es ≤ 80
      → CrashesLeaveOnly moment crash_states_since start written (IsTornWrite 2048 (512 * (1 + length es)) (image start))
      → CrashesLeaveOnly moment crash_states_since start written (IsBeforeOrAfter total es marks home)
  committed_so_far start written stands closed few run =
      weaker moment crash_states_since start written (IsTornWrite 2048 (512 * (1 + length es)) (image start)) (IsBeforeOrAfter total es marks home)
      (λ c torn. inl (body_torn total (length es) (image start) c marks home stands closed few torn).0) run

  -- and then the gate was written
  pub committed : (start written now : D) → CrashesLeaveOnly moment crash_states_since start written (IsBeforeOrAfter total es marks home)
      → RecoversTo total (image written) marks home → has_open_gate (image written) ≡ false
      → IsWritten total es (image written) → CrashesLeaveOnly moment crash_states_since written now (IsTornWrite 16 1 (image written))
      → CrashesLeaveOnly moment crash_states_since start now (IsBeforeOrAfter total es marks home)
  committed start written now so_far stands closed is_written run =
      joined moment crash_states_since start written now (IsBeforeOrAfter total es marks home) so_far
      (weaker moment crash_states_since written now (IsTornWrite 16 1 (image written)) (IsBeforeOrAfter total es marks home)
      (λ c torn. gate_opens total es (image written) c marks home stands closed is_written torn) run)

length-keys : (es : List (ℕ × List ℕ)) → length (keys_of es) ≡ length es
length-keys [] = refl
length-keys (e ∷ es) = ap suc (length-keys es)

-- a body was written: the same home, the gate closed, and the change in the journal
pub record HasBody (total : ℕ) (es : List (ℕ × List ℕ)) (old new : List ℕ) : Type 0 where
  pub is_written : IsWritten total es new
  pub header_is : page new 4 ≡ header_page (keys_of es)
  pub size : length new ≡ length old
  pub stands : (marks : List ℕ) (home : ℕ → List ℕ) → RecoversTo total old marks home → has_open_gate old ≡ false → RecoversTo total new marks home
      × (has_open_gate new ≡ false)

pub has_body : (staged : StagedPages) (header body old new : List ℕ) → IsChange staged → 0 < length staged.pages → 85 ≤ staged.total
    → length old ≡ 512 * staged.total
    → header ≡ header_page (keys_of staged.pages) → body ≡ header ++ joined_images staged.pages → length body ≡ 512 * (1 + length staged.pages)
    → new ≡ overwritten_at old 2048 body
    → HasBody staged.total staged.pages old new
has_body staged header body old new sound some least size header_is body_is long is =
    let laid_all = body_laid staged.total staged.pages header old least sound.small size some sound.few (length-keys staged.pages)
    sound.homes sound.whole header_is (sym (ap length body_is) ∙ long) in
    let same : overwritten_at old 2048 (header ++ joined_images staged.pages) ≡ new = ap (overwritten_at old 2048) (sym body_is) ∙ sym is in
    let torn : IsTornWrite 2048 (512 * (1 + length staged.pages)) old new =
    subst (IsTornWrite 2048 (512 * (1 + length staged.pages)) old) (sym is)
    (subst (λ (m : ℕ). IsTornWrite 2048 m old (overwritten_at old 2048 body)) long (torn-overwritten_at old 2048 body (omega (arith, least, size)))) in
    record {
      is_written = subst (IsWritten staged.total staged.pages) same laid_all.0;
      header_is = subst (λ (i : List ℕ). page i 4 ≡ header_page (keys_of staged.pages)) same laid_all.1;
      size = torn_size 2048 (512 * (1 + length staged.pages)) old new torn (omega (arith, least, size, sound.few));
      stands = λ marks home stands closed. body_torn staged.total (length staged.pages) old new marks home stands closed sound.few torn;
    }

-- the gate was written after the body: the commit is done
pub commits : (total : ℕ) (es : List (ℕ × List ℕ)) (old written new : List ℕ) → 85 ≤ total → length old ≡ 512 * total → HasBody total es old written
    → new ≡ overwritten_at written 16 (1 ∷ []) → Commits total es old new
commits total es old written new least size body is =
    let gate = gate_laid total 1 written new least (body.size ∙ size) is in
    let opened : has_open_gate new ≡ true = ap (λ v. v == 1) gate.1 in
    let still = written_still total es written new least gate.0 body.is_written in record {
      holds = record { is_opened = opened; journal_is = still.journal_is };
      header_is = gate.0.pages_are 4 (omega arith) (omega (arith, least)) ∙ body.header_is;
      stands = λ marks home stands closed.
          let then = body.stands marks home stands closed in
          opened_home total es written new marks home then.0 then.1 body.is_written gate.0 opened;
    }

-- a run, and then another
pub recovered : {D : Type 0} (moment : D → ℕ) (crash_states_since : D → ℕ → List ℕ → Type 0) (start found now : D) (P Q : List ℕ → Type 0)
    → CrashesLeaveOnly moment crash_states_since start found P → CrashesLeaveOnly moment crash_states_since found now Q
    → CrashesLeaveOnly moment crash_states_since start now (λ c. P c ⊎ Q c)
recovered moment crash_states_since start found now P Q before after =
    joined moment crash_states_since start found now (λ c. P c ⊎ Q c)
    (weaker moment crash_states_since start found P (λ c. P c ⊎ Q c) (λ c has. inl has) before)
    (weaker moment crash_states_since found now Q (λ c. P c ⊎ Q c) (λ c has. inr has) after)

-- if nothing was pending, what might have been left has the home too
pub stood : {D : Type 0} (moment : D → ℕ) (crash_states_since : D → ℕ → List ℕ → Type 0) (start now : D) (total : ℕ) (image : List ℕ) (crash_states : List ℕ
    → Type 0) (marks : List ℕ) (home : ℕ → List ℕ)
    → IsDurable image crash_states → RecoversTo total image marks home
    → CrashesLeaveOnly moment crash_states_since start now (λ c. crash_states c ⊎ RecoversTo total c marks home)
    → CrashesLeaveOnly moment crash_states_since start now (λ c. RecoversTo total c marks home)
stood moment crash_states_since start now total image crash_states marks home only stands run =
    weaker moment crash_states_since start now (λ c. crash_states c ⊎ RecoversTo total c marks home) (λ c. RecoversTo total c marks home)
    (λ c. ⊎_elim (λ left. subst (λ (i : List ℕ). RecoversTo total i marks home) (sym (only c left)) stands) (λ has. has)) run
