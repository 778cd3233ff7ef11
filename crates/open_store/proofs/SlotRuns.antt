-- One slot set in a change of its own: what its crashes leave.
use Rattle.std.proofs.Common.{◌≡◌, inl, inr, ⊎_elim, ℕ, ◌*◌, ◌≤◌, Bool, false, if◌then◌else◌, IsTrue, List, [], ◌∷◌, length, refl, sym, ap, subst, ◌∙◌}
use Rattle.std.specs.List.Sorted.{IsPermutation}
use Rattle.std.proofs.lemmas.Bool.{false≢true}
use Rattle.spb_edge.specs.Crash.{Includes, IsDurable, CrashesLeaveOnly}
use Rattle.spb_edge.specs.Moments.{started, weaker, joined}
use Rattle.spb_edge.specs.Quiet.{IsQuiet, calmly}
use Rattle.redo_journal.specs.Pages.{page, magic, IsHome}
use Rattle.redo_journal.specs.Redo.{RecoversTo, overlay, journal_entries, has_open_gate}
use Rattle.redo_journal.specs.Change.{IsBeforeOrAfter}
use Rattle.object_file.specs.Slots.{Slot}
use Rattle.object_file.specs.ObjectFile.{SetsSlot}
use Rattle.open_store.specs.SlotChange.{HasSlotSet, IsSetOrNot, IsFilledOrNot}

-- a slot of staged pages is one of the pages with them
pub staged_slot : (slot : ℕ) (content : Slot) (base before after : List ℕ) (none staged : List (ℕ × List ℕ)) → none ≡ [] → before ≡ base → after ≡ base
    → SetsSlot slot content (overlay none (page before)) (overlay staged (page after)) → SetsSlot slot content (page base) (overlay staged (page base))
staged_slot slot content base before after none staged is_none is_before is_after sets =
    subst (λ (es : List (ℕ × List ℕ)). SetsSlot slot content (overlay es (page base)) (overlay staged (page base))) is_none
    (subst (λ (image : List ℕ). SetsSlot slot content (overlay none (page image)) (overlay staged (page base))) is_before
    (subst (λ (image : List ℕ). SetsSlot slot content (overlay none (page before)) (overlay staged (page image))) is_after sets))

-- what an image with the staged pages stands for
pub slot_is_set : (total slot : ℕ) (content : Slot) (marks base image : List ℕ) (staged : List (ℕ × List ℕ))
    → SetsSlot slot content (page base) (overlay staged (page base)) → RecoversTo total image marks (overlay staged (page base))
    → HasSlotSet total slot content marks (page base) image
slot_is_set total slot content marks base image staged sets has = record { home = overlay staged (page base); has = has; sets = sets }

module _ {D : Type 0} (is_known knows_crashes : D → Bool) (size_of : D → ℕ) (image : D → List ℕ) (crash_states : D → List ℕ → Type 0) (moment : D → ℕ)
    (crash_states_since : D → ℕ → List ℕ → Type 0) (only_now : (d : D) → Includes (crash_states d) (crash_states_since d (moment d))) where
  -- a quiet stretch leaves what a crash might have left before it
  pub still : (old new : D) (P : List ℕ → Type 0) → IsQuiet is_known knows_crashes size_of image crash_states moment crash_states_since old new
      → ((c : List ℕ) → crash_states old c → P c) → CrashesLeaveOnly moment crash_states_since old new P
  still old new P quiet here =
      calmly is_known knows_crashes size_of image crash_states moment crash_states_since old old new P
      (started moment crash_states_since old P (λ c left. here c (only_now old c left))) quiet here

  -- what a commit says of its moments
  abbrev pub CommitSays : D → ℕ → List (ℕ × List ℕ) → D → Type 0
  CommitSays mid total entries new = IsTrue (is_known mid) → IsTrue (knows_crashes mid) → IsDurable (image mid) (crash_states mid)
      → (marks : List ℕ) (home : ℕ → List ℕ) → RecoversTo total (image mid) marks home → has_open_gate (image mid) ≡ false
      → CrashesLeaveOnly moment crash_states_since mid new (IsBeforeOrAfter total entries marks home)

  -- a crash leaves what stands for the pages, where none but the image is left
  pub here_stands : (old : D) (total : ℕ) (marks : List ℕ) (P : List ℕ → Type 0) → IsDurable (image old) (crash_states old)
      → RecoversTo total (image old) marks (page (image old)) → ((c : List ℕ) → RecoversTo total c marks (page (image old)) → P c)
      → (c : List ℕ) → crash_states old c → P c
  here_stands old total marks P durable stands before c left =
      before c (subst (λ (i : List ℕ). RecoversTo total i marks (page (image old))) (sym (durable c left)) stands)

  -- a commit after a quiet stretch
  pub committed : (old mid new : D) (total t : ℕ) (entries : List (ℕ × List ℕ)) (marks : List ℕ) (P : List ℕ → Type 0) → t ≡ total
      → IsQuiet is_known knows_crashes size_of image crash_states moment crash_states_since old mid → CommitSays mid t entries new
      → IsTrue (is_known old) → IsTrue (knows_crashes old) → IsDurable (image old) (crash_states old)
      → RecoversTo total (image old) marks (page (image old)) → has_open_gate (image old) ≡ false
      → ((c : List ℕ) → RecoversTo total c marks (page (image old)) → P c)
      → ((c : List ℕ) → RecoversTo total c marks (overlay entries (page (image old))) → P c) → CrashesLeaveOnly moment crash_states_since old new P
  committed old mid new total t entries marks P same quiet says known crashes durable stands closed before after =
      let at : image mid ≡ image old = quiet.image_is known in
      let all : CommitSays mid total entries new = subst (λ (n : ℕ). CommitSays mid n entries new) same says in
      joined moment crash_states_since old mid new P
      (still old mid P quiet (here_stands old total marks P durable stands before))
      (weaker moment crash_states_since mid new (IsBeforeOrAfter total entries marks (page (image old))) P (λ c either. ⊎_elim (before c) (after c) either)
      (all (subst IsTrue (sym quiet.tells) known) (subst IsTrue (sym quiet.tells_crashes_too) crashes)
      (λ c left. durable c (quiet.no_more c left) ∙ sym at) marks (page (image old))
      (subst (λ (i : List ℕ). RecoversTo total i marks (page (image old))) (sym at) stands)
      (subst (λ (i : List ℕ). has_open_gate i ≡ false) (sym at) closed)))

  -- a slot set in the pages that are committed after a quiet stretch: what a crash leaves
  pub set_or_not : (old mid new : D) (total t slot : ℕ) (content : Slot) (none staged : List (ℕ × List ℕ)) (before : List ℕ) → t ≡ total
      → IsQuiet is_known knows_crashes size_of image crash_states moment crash_states_since old mid → CommitSays mid t staged new → none ≡ []
      → (IsTrue (is_known old) → before ≡ image old)
      → (IsTrue (is_known old) → SetsSlot slot content (overlay none (page before)) (overlay staged (page (image mid))))
      → (IsTrue (is_known old) → has_open_gate (image old) ≡ false) → IsTrue (is_known old) → IsTrue (knows_crashes old)
      → IsDurable (image old) (crash_states old) → (marks : List ℕ) → RecoversTo total (image old) marks (page (image old))
      → CrashesLeaveOnly moment crash_states_since old new (IsSetOrNot total slot content marks (page (image old)))
  set_or_not old mid new total t slot content none staged before same quiet says is_none is_before sets closed = λ known crashes durable marks stands.
      committed old mid new total t staged marks (IsSetOrNot total slot content marks (page (image old))) same quiet says known crashes durable stands (closed known)
      (λ c has. inl has)
      (λ c has. inr (slot_is_set total slot content marks (image old) c staged
      (staged_slot slot content (image old) before (image mid) none staged is_none (is_before known) (quiet.image_is known) (sets known)) has))

  -- and what is left once it succeeded
  pub set_now : (old mid new : D) (total t slot : ℕ) (content : Slot) (none staged : List (ℕ × List ℕ)) (before : List ℕ) → t ≡ total
      → IsQuiet is_known knows_crashes size_of image crash_states moment crash_states_since old mid
      → (IsTrue (is_known mid) → (marks : List ℕ) (home : ℕ → List ℕ) → RecoversTo t (image mid) marks home → has_open_gate (image mid) ≡ false
      → RecoversTo t (image new) marks (overlay staged home)) → none ≡ [] → (IsTrue (is_known old) → before ≡ image old)
      → (IsTrue (is_known old) → SetsSlot slot content (overlay none (page before)) (overlay staged (page (image mid))))
      → (IsTrue (is_known old) → has_open_gate (image old) ≡ false) → IsTrue (is_known old)
      → (marks : List ℕ) → RecoversTo total (image old) marks (page (image old)) → HasSlotSet total slot content marks (page (image old)) (image new)
  set_now old mid new total t slot content none staged before same quiet commits is_none is_before sets closed = λ known marks stands.
      let at : image mid ≡ image old = quiet.image_is known in
      let all : (n : ℕ) → n ≡ total → RecoversTo n (image mid) marks (page (image old)) = λ n is.
      subst (λ m. RecoversTo m (image mid) marks (page (image old))) (sym is)
      (subst (λ (i : List ℕ). RecoversTo total i marks (page (image old))) (sym at) stands) in
      slot_is_set total slot content marks (image old) (image new) staged
      (staged_slot slot content (image old) before (image mid) none staged is_none (is_before known) at (sets known))
      (subst (λ n. RecoversTo n (image new) marks (overlay staged (page (image old)))) same
      (commits (subst IsTrue (sym quiet.tells) known) marks (page (image old)) (all t same)
      (subst (λ (i : List ℕ). has_open_gate i ≡ false) (sym at) (closed known))))

  -- of a slot that was free
  pub filled_or_not : (old new : D) (total slot : ℕ) (content : Slot) (free rest marks : List ℕ) → IsPermutation free (slot ∷ rest)
      → CrashesLeaveOnly moment crash_states_since old new (IsSetOrNot total slot content marks (page (image old)))
      → CrashesLeaveOnly moment crash_states_since old new (IsFilledOrNot total free content marks (page (image old)))
  filled_or_not old new total slot content free rest marks taken run =
      weaker moment crash_states_since old new (IsSetOrNot total slot content marks (page (image old))) (IsFilledOrNot total free content marks (page (image old)))
      (λ c either. ⊎_elim (λ has. inl has) (λ set. inr (record { slot = slot; rest = rest; was_free = taken; after = set })) either) run

-- with a closed gate an image stands for its own pages
pub stands_for_itself : (total : ℕ) (image : List ℕ) → 85 ≤ total → length image ≡ 512 * total → has_open_gate image ≡ false
    → RecoversTo total image (magic image) (page image)
stands_for_itself total image least size closed = record {
  least = least;
  size = size;
  clean = λ opened. absurd (false≢true (sym closed ∙ opened));
  marks_are = refl;
  pages_are = λ n home. ap (λ b. (if b then overlay (journal_entries image) (page image) n else page image n)) closed;
}

-- and it has the pages that it stands for
pub has_its_pages : (total : ℕ) (image marks : List ℕ) (home : ℕ → List ℕ) → RecoversTo total image marks home → has_open_gate image ≡ false
    → (n : ℕ) → IsHome total n → page image n ≡ home n
has_its_pages total image marks home stands closed n is =
    sym (ap (λ b. (if b then overlay (journal_entries image) (page image) n else page image n)) closed) ∙ stands.pages_are n is
