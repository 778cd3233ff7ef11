-- What the image of a file says of the state that it stands for, or why it stands for none.
use Rattle.std.proofs.Common.{◌≡◌, inl, inr, ℕ, zero, suc, ◌+◌, ◌/◌, ◌%◌, ◌<◌, false, List, [], ◌∷◌, map, length, refl, sym, ap, subst, ◌∙◌, arith}
use Rattle.std.specs.Prelude.{◌⊎◌, IsTrue, if◌then◌else◌, All, slice_index_or}
use Rattle.std.specs.List.{range_with_len}
use Rattle.std.proofs.lemmas.Bool.{false≢true}
use Rattle.std.proofs.lemmas.List.{get_or_past}
use Rattle.metrics_builtin.specs.Space.{IsValid}
use Rattle.page_laws.specs.declared.rule.Rule.TheVariants as rule
use Rattle.redo_journal.specs.Pages.{page}
use Rattle.redo_journal.specs.Redo.{redo_page, has_open_gate, overlay, journal_entries}
use Rattle.object_file.specs.Slots.{slot_in}
use Rattle.object_file.specs.ObjectFile.{slot_page, slot_at}
use Rattle.store_check.specs.declared.profile.Profile.{Profile}
use Rattle.store_check.specs.Profile.{profile_in, IsInRange}
use Rattle.store_check.specs.Pivots.{pivot_of, pivot_at, HasPivots}
use Rattle.store_check.specs.Stands.{IsReadable, HoldsMembers, Keeps, are_empty}
use Rattle.store_check.specs.Damage.{IsPivot, HasGoodPivots, HoldsAgain, HasBadSlot}
use Rattle.store_check.specs.Opened.{object_or, pivots_in, state_in}
use Rattle.store_core.specs.declared.errors.OpenError.{OpenError}
use Rattle.store_core.specs.declared.errors.OpenError.TheVariants as refusal
use Rattle.store_core.specs.Finish.{IsOpened, RefusesOpened}
use Rattle.store_core.specs.SlotContents.{HasBadSlotAt, RefusesSlots}

-- ---- pivots

pivots_from : (f : ℕ → List ℕ) (from n : ℕ) (pivots : List (List ℕ)) → length pivots ≡ n → ((i : ℕ) → i < n → f (from + i) ≡ slice_index_or pivots i [])
    → map f (range_with_len from n) ≡ pivots
pivots_from f from zero [] long each = refl
pivots_from f from zero (p ∷ ps) long each = absurd (omega (arith, long))
pivots_from f from (suc n) [] long each = absurd (omega (arith, long))
pivots_from f from (suc n) (p ∷ ps) long each =
    let here : from + 0 ≡ from = omega arith in
    let rest : map f (range_with_len (from + 1) n) ≡ ps =
    pivots_from f (from + 1) n ps (omega (arith, long)) (λ i below.
    let at : from + suc i ≡ from + 1 + i = omega arith in
    ap f (sym at) ∙ each (suc i) (omega (arith, below))) in
    ap (λ q. q ∷ map f (range_with_len (from + 1) n)) (ap f (sym here) ∙ each 0 (omega arith))
    ∙ ap (λ qs. p ∷ qs) rest

-- the pivots are those that the pages hold
pub pivots_are : (pages : ℕ → List ℕ) (pivots : List (List ℕ)) (n : ℕ) → HasPivots pages pivots → length pivots ≡ n → pivots_in pages n ≡ pivots
unfolding pivots_in
pivots_are pages pivots n has long = pivots_from (λ i. object_or (pivot_at pages i) []) 0 n pivots long (λ i below.
    let at : 0 + i ≡ i = omega arith in
    ap (λ k. object_or (pivot_at pages k) []) at ∙ ap (λ o. object_or o []) (has.each i (let few = has.few in omega (arith, below, long, few))))

-- ---- an image with a closed gate

pub same_page : (image : List ℕ) → has_open_gate image ≡ false → (n : ℕ) → redo_page image n ≡ page image n
same_page image closed n = ap (λ b. (if b then overlay (journal_entries image) (page image) n else page image n)) closed

same_slot : (image : List ℕ) → has_open_gate image ≡ false → (slot : ℕ) → slot_at (redo_page image) slot ≡ slot_at (page image) slot
same_slot image closed slot = ap (λ p. slot_in p (slot % 4)) (same_page image closed (slot_page slot))

module _ (image : List ℕ) (profile : Profile) (pivots : List (List ℕ)) (opened : IsOpened image profile pivots) (range : IsInRange profile) where
  is_pivot : (i : ℕ) → i < 8 → IsPivot profile.space profile.pivots i (pivot_at (redo_page image) i)
  is_pivot i below =
      subst (IsPivot profile.space profile.pivots i)
      (sym (ap (λ p. pivot_of (slot_in p (i % 4))) (same_page image opened.closed (2 + i / 4)) ∙ opened.pivots_are.each i below)) (
        λ less. opened.objects i [] (let count = opened.count in omega (arith, count, less)),
        λ least. get_or_past pivots i [] (let count = opened.count in omega (arith, count, least)),
      )

  pub good_pivots : HasGoodPivots image profile
  good_pivots = record {
    fits = record {
      marked = record {
        long = let size = opened.size in let few = range.few in omega (arith, size);
        marks_are = opened.marks_are;
      };
      paged = record {
        least = omega arith;
        most = let few = range.few in omega (arith, few);
        size = opened.size;
      };
      clean = λ open_gate. absurd (false≢true (sym opened.closed ∙ open_gate));
      reads = ap profile_in (same_page image opened.closed 1) ∙ opened.reads;
    };
    each = is_pivot;
  }

  -- a root that isn't empty
  pub has_tree : are_empty profile.roots ≡ false → RefusesOpened (refusal.Damaged 1 rule.Page) image
  has_tree filled = (tt, (refl, record { profile = profile; good = good_pivots; filled = filled }))

  module _ (empty : IsTrue (are_empty profile.roots)) where
    again : (slot : ℕ) → HoldsAgain (slot_at (page image)) slot → HoldsAgain (slot_at (redo_page image)) slot
    again slot is = record {
      lower = is.lower;
      less = is.less;
      collection = is.collection;
      id = is.id;
      first = is.first;
      second = is.second;
      at_lower = same_slot image opened.closed is.lower ∙ is.at_lower;
      at_slot = same_slot image opened.closed slot ∙ is.at_slot;
    }

    bad_at : (slot : ℕ) → ((IsReadable profile.space (slot_at (page image) slot) → ⊥) ⊎ HoldsAgain (slot_at (page image)) slot)
        → (IsReadable profile.space (slot_at (redo_page image) slot) → ⊥) ⊎ HoldsAgain (slot_at (redo_page image)) slot
    bad_at slot (inl bad) = inl (λ readable. bad (subst (IsReadable profile.space) (same_slot image opened.closed slot) readable))
    bad_at slot (inr bad) = inr (again slot bad)

    pub bad_slot : (n : ℕ) → HasBadSlotAt profile.space profile.cap (slot_at (page image)) n → HasBadSlot image n
    bad_slot n bad = record {
      profile = profile;
      good = good_pivots;
      empty = empty;
      slot = bad.slot;
      below = bad.below;
      page_is = bad.page_is;
      bad = bad_at bad.slot bad.bad;
    }

    -- what is refused for its slots
    pub slots_refused : (e : OpenError) → RefusesSlots profile.space profile.cap (slot_at (page image)) e → RefusesOpened e image
    slots_refused refusal.NotStore bad = bad
    slots_refused (refusal.Damaged n rule.Slot) bad = (tt, bad_slot n bad)
    slots_refused (refusal.Damaged n rule.Size) bad = absurd bad
    slots_refused (refusal.Damaged n rule.Journal) bad = absurd bad
    slots_refused (refusal.Damaged n rule.Profile) bad = absurd bad
    slots_refused (refusal.Damaged n rule.Pivot) bad = absurd bad
    slots_refused (refusal.Damaged n rule.Page) bad = absurd bad
    slots_refused (refusal.Damaged n rule.Node) bad = absurd bad
    slots_refused (refusal.Damaged n rule.Fill) bad = absurd bad
    slots_refused (refusal.Damaged n rule.Order) bad = absurd bad
    slots_refused (refusal.Damaged n rule.Key) bad = absurd bad
    slots_refused (refusal.Damaged n rule.Box) bad = absurd bad
    slots_refused (refusal.Damaged n rule.Match) bad = absurd bad
    slots_refused refusal.DiskFault bad = tt
    slots_refused refusal.Memory bad = tt

    -- the state that the pages hold
    pub keeps_state : HoldsMembers profile.space profile.cap (page image) (state_in (page image) profile).members
        → Keeps (page image) (state_in (page image) profile)
    keeps_state members =
        let same = pivots_are (page image) pivots profile.pivots opened.pivots_are opened.count in
        record {
          profiled = record {
            profile = profile;
            reads = opened.reads;
            space = refl;
            curve = refl;
            cap = refl;
            count = ap length same ∙ opened.count;
            pivots = subst (HasPivots (page image)) (sym same) opened.pivots_are;
            objects = subst (All (IsValid profile.space)) (sym same) opened.objects;
            samples = refl;
            wanted = sym (ap length same ∙ opened.count);
          };
          roots = empty;
          members = members;
        }
