-- What is noted of slots, one after another.
use Rattle.std.proofs.Common.{◌≡◌, inl, inr, ℕ, ◌+◌, ◌*◌, ◌%◌, ◌^◌, ◌<◌, ◌≤◌, Bool, IsTrue, List, [], ◌∷◌, ◌++◌, length, refl, sym, ap, subst, ◌∙◌, arith}
use Rattle.std.specs.Prelude.{min, All, slice_index_or}
use Rattle.std.proofs.lemmas.Bool.{cases_lt}
use Rattle.std.proofs.lemmas.List.{length_push, get_or_append_left, get_or_push}
use Rattle.metric_laws.specs.Objects.{Object, Distance}
use Rattle.metrics_builtin.specs.Space.{IsValid, dist}
use Rattle.curve_laws.specs.Grid.{IsCell}
use Rattle.object_file.specs.Slots.{Holds, slot_in}
use Rattle.object_file.specs.ObjectFile.{slot_page, slot_at, HasSlots}
use Rattle.spb_defs.specs.Pivots.{vector_of, cells_of}
use Rattle.store_check.specs.declared.profile.Profile.{Profile}
use Rattle.store_check.specs.Layout.{slot_pages}
use Rattle.tree_state.specs.StoreCurves.{object_key}
use Rattle.tree_state.proofs.Cells.{cells_are_cells}
use Rattle.slot_notes.specs.declared.notes.SlotNote.{SlotNote}
use Rattle.slot_notes.specs.declared.notes.SlotNote.TheVariants as note
use Rattle.slot_notes.specs.Notes.{AreOfProfile, IsNoteOf, AreNotes, slots_on}

-- ---- objects

module _ (admitted : Object → Type 0) (distance : Distance) (axes bits : ℕ) (key_of : List ℕ → ℕ) (cell_of : ℕ → List ℕ) (profile : Profile) (pivots : List Object)
    (are : AreOfProfile admitted distance axes bits key_of cell_of profile pivots) where
  valid : (object : Object) → admitted object → IsValid profile.space object
  valid object is = (are.metric.admits object).0 is

  valid_pivots : All (IsValid profile.space) pivots
  valid_pivots i d below = valid (slice_index_or pivots i d) (are.objects i d below)

  -- the vector of an object is a cell of the curve
  pub vector_is_cell : (object : Object) → admitted object → (v : List ℕ) → v ≡ vector_of distance pivots object → IsCell axes bits v
  vector_is_cell object is v vector =
      let cell = cells_are_cells profile pivots object are.in_range are.count valid_pivots (valid object is) in
      let same : v ≡ cells_of (dist profile.space) pivots object = vector ∙ ap (λ (d : Distance). cells_of d pivots object) are.metric.distance_is in
      subst (IsCell axes bits) (sym same)
      (subst (λ (n : ℕ). IsCell n bits (cells_of (dist profile.space) pivots object)) (sym are.curve.axes_are)
      (subst (λ (b : ℕ). IsCell profile.pivots b (cells_of (dist profile.space) pivots object)) (sym are.curve.bits_are) cell))

  -- and its key is the object's
  pub key_is : (object : Object) (v : List ℕ) (key : ℕ) → v ≡ vector_of distance pivots object → key ≡ key_of v → key ≡ object_key profile pivots object
  key_is object v key vector is =
      let same : v ≡ cells_of (dist profile.space) pivots object = vector ∙ ap (λ (d : Distance). cells_of d pivots object) are.metric.distance_is in
      is ∙ ap key_of same ∙ ap (λ (f : List ℕ → ℕ). f (cells_of (dist profile.space) pivots object)) are.curve.keys_are

  pub filled : (collection id key : ℕ) (object : Object) (v : List ℕ) → admitted object → id < 2 ^ 32 → v ≡ vector_of distance pivots object → key ≡ key_of v
      → IsNoteOf profile.space (object_key profile pivots) (note.Filled collection id key) (Holds collection id object)
  filled collection id key object v is small vector are_key = (object, (refl, (small, valid object is), key_is object v key vector are_key))

  pub broken : (collection id : ℕ) (object : Object) → (admitted object → ⊥) → IsNoteOf profile.space (object_key profile pivots) note.Broken (Holds collection id object)
  broken collection id object never readable = never ((are.metric.admits object).1 readable.1)

-- ---- one slot more

module _ (profile : Profile) (pivots : List Object) (home : ℕ → List ℕ) where
  pub none-noted : AreNotes profile pivots home 0 []
  none-noted = record { count_is = refl; each = λ slot d below. absurd (omega (arith, below)) }

  pub one-noted : (slot : ℕ) (notes : List SlotNote) (one : SlotNote) → AreNotes profile pivots home slot notes
      → IsNoteOf profile.space (object_key profile pivots) one (slot_at home slot) → AreNotes profile pivots home (slot + 1) (notes ++ one ∷ [])
  one-noted slot notes one are is = record {
    count_is = length_push notes one ∙ ap (λ (n : ℕ). n + 1) are.count_is;
    each = λ i d below. elim (cases_lt i slot) [
      | inl before ↦
          let there : i < length notes = omega (arith, before, are.count_is) in
          subst (λ (n : SlotNote). IsNoteOf profile.space (object_key profile pivots) n (slot_at home i)) (sym (get_or_append_left notes (one ∷ []) d i there)) (are.each i d before)
      | inr least ↦
          let last : slot ≡ i = omega (arith, least, below) in
          let long : length notes ≡ i = are.count_is ∙ last in
          subst (λ (n : SlotNote). IsNoteOf profile.space (object_key profile pivots) n (slot_at home i)) (sym (get_or_push notes one d i long))
          (subst (λ (k : ℕ). IsNoteOf profile.space (object_key profile pivots) one (slot_at home k)) last is)
    ];
  }

-- the slots of one page
module _ (profile : Profile) (pivots : List Object) (n : ℕ) (page : List ℕ) (start : List SlotNote) where
  -- what is noted of the slots before a page of them is noted of those before this slot
  abbrev pub NotesOn : ℕ → List SlotNote → Type 0
  NotesOn slot notes = (home : ℕ → List ℕ) → home (85 + n) ≡ page → AreNotes profile pivots home (slots_on profile.cap n) start → AreNotes profile pivots home slot notes

  pub on-starts : (slot : ℕ) → slot ≡ slots_on profile.cap n → NotesOn slot start
  on-starts slot is home at are = subst (λ (k : ℕ). AreNotes profile pivots home k start) (sym is) are

  pub on-more : (slot : ℕ) (notes : List SlotNote) (one : SlotNote) → NotesOn slot notes → 4 * n ≤ slot → slot < 4 * n + 4
      → IsNoteOf profile.space (object_key profile pivots) one (slot_in page (slot % 4)) → NotesOn (slot + 1) (notes ++ one ∷ [])
  on-more slot notes one so_far least below is home at are =
      let there : slot_page slot ≡ 85 + n = omega (arith, least, below) in
      let same : slot_in page (slot % 4) ≡ slot_at home slot = ap (λ (p : List ℕ). slot_in p (slot % 4)) (sym (ap home there ∙ at)) in
      one-noted profile pivots home slot notes one (so_far home at are) (subst (IsNoteOf profile.space (object_key profile pivots) one) same is)

-- ---- pages of slots

pub whole-pages : (cap n : ℕ) → 4 * n < cap → slots_on cap n ≡ 4 * n
whole-pages cap n below = omega (arith, below)

pub next-page : (cap n slot : ℕ) → slot ≡ min cap (4 * n + 4) → slot ≡ slots_on cap (n + 1)
next-page cap n slot is = is ∙ ap (min cap) (let e : 4 * n + 4 ≡ 4 * (n + 1) = omega arith in e)

pub page-begins : (cap n : ℕ) → n < slot_pages cap → 4 * n < cap
page-begins cap n below = omega (arith, below)

pub no-pages : (cap : ℕ) → slots_on cap 0 ≡ 0
no-pages cap = omega arith

pub all-pages : (cap n : ℕ) → slot_pages cap ≤ n → slots_on cap n ≡ cap
all-pages cap n least = omega (arith, least)

pub page-there : (has : ℕ → Bool) (cap n : ℕ) → HasSlots has cap → n < slot_pages cap → IsTrue (has (85 + n))
page-there has cap n there below =
    let place : slot_page (4 * n) ≡ 85 + n = omega arith in
    subst (λ (k : ℕ). IsTrue (has k)) place (there (4 * n) (page-begins cap n below))
