-- A file that lacks nothing but the magic, and what it stands for.
use Rattle.std.proofs.Common.{◌≡◌, ◌⊎◌, inl, inr, ℕ, ◌+◌, ◌-◌, ◌*◌, ◌/◌, ◌%◌, ◌<◌, ◌≤◌, ◌==◌, Bool, true, false, List, [], length, drop, slice_index, refl, sym, ◌∙◌, ap, subst, arith}
use Rattle.std.specs.Prelude.{Some, nat_le, nat_lt, ◌&&◌, if◌then◌else◌, slice_index_or}
use Rattle.std.specs.Str.{bytes_eq}
use Rattle.std.proofs.lemmas.Bool.{cases_lt, false≢true}
use Rattle.std.proofs.lemmas.Bool.Decides.{nat_tests}
use Rattle.std.proofs.lemmas.List.{take_at, get_or-take}
use Rattle.std.proofs.lemmas.Slice.Eq.{bytes_eq-Decides}
use Rattle.spb_defs.specs.State.{empty_in_file}
use Rattle.spb_edge.specs.Crash.{IsTornWrite}
use Rattle.spb_edge.specs.Disk.{overwritten_at}
use Rattle.spb_edge.specs.Tears.{torn-overwritten_at}
use Rattle.redo_journal.specs.Pages.{page, gate, magic}
use Rattle.redo_journal.specs.Redo.{has_open_gate}
use Rattle.redo_journal.proofs.Pages.{torn_size, torn_page, byte_of_mark}
use Rattle.redo_journal.proofs.Home.{redo_closed}
use Rattle.object_file.specs.Slots.{Free, slot_in}
use Rattle.object_file.specs.ObjectFile.{slot_at}
use Rattle.store_check.specs.declared.profile.Profile.{Profile}
use Rattle.store_check.specs.Profile.{profile_in}
use Rattle.store_check.specs.Pivots.{pivot_in, pivot_at, HasPivots}
use Rattle.store_check.specs.Stands.{store_magic, Keeps, Stands, IsNoStore}
use Rattle.store_format.specs.declared.new_file.NewFile.{NewFile}
use Rattle.store_format.specs.NewFile.{zero_page, new_page, IsFileOf, HasPages, IsFilled, IsUnsigned, IsUnderWay, IsShort, Lacks, Fills}
use Rattle.store_format.proofs.Pieces.{mark_page, zero_page-zero}

-- ---- the magic, written or in part

gate_kept : (image c : List ℕ) → 17 ≤ length image → IsTornWrite 0 8 image c → gate c ≡ gate image
unfolding gate
gate_kept image c long torn = torn.alike 16 long (inr (omega arith))

gate_zero : (file : NewFile) (count : ℕ) (image : List ℕ) → 1 ≤ count → HasPages count file image → gate image ≡ 0
unfolding gate
gate_zero file count image some pages =
    sym (byte_of_mark image 16 (omega arith)) ∙ ap (λ p. slice_index p 16) (pages.pages_are 0 some ∙ mark_page file) ∙ zero_page-zero 16 (omega arith)

-- the magic touches nothing but the first bytes
pub filled : (file : NewFile) (image c : List ℕ) → 1 ≤ file.total → HasPages file.total file image → IsTornWrite 0 8 image c → IsFilled file c
filled file image c some pages torn = record {
  size = torn_size 0 8 image c torn (omega (arith, some, pages.size)) ∙ pages.size;
  closed = gate_kept image c (omega (arith, some, pages.size)) torn ∙ gate_zero file file.total image some pages;
  pages_are = λ n low lt. torn_page 0 8 image c torn n (omega (arith, lt, pages.size)) (inr (omega (arith, low))) ∙ pages.pages_are n lt;
}

magic_laid : (image : List ℕ) → magic (overwritten_at image 0 store_magic) ≡ store_magic
unfolding magic
magic_laid image = take_at store_magic (drop (0 + length store_magic) image) 8 refl

pub signed : (file : NewFile) (image new : List ℕ) → 1 ≤ file.total → HasPages file.total file image → new ≡ overwritten_at image 0 store_magic
    → IsFilled file new × (magic new ≡ store_magic)
signed file image new some pages is = (
  filled file image new some pages (subst (IsTornWrite 0 8 image) (sym is) (torn-overwritten_at image 0 store_magic (omega arith))),
  ap magic is ∙ magic_laid image,
)

-- an image that begins with a zero byte has another magic
no_magic : (image : List ℕ) → IsUnsigned image → magic image ≡ store_magic → ⊥
unfolding magic
no_magic image unsigned is =
    let first : 0 ≡ 115 = sym unsigned.1 ∙ sym (get_or-take 8 image 0 0 (omega arith)) ∙ ap (λ m. slice_index m 0) is in
    omega (arith, first)

-- ---- the pages by what they are for

profile_page : (file : NewFile) → new_page file 1 ≡ file.profile
unfolding new_page
profile_page file = refl

first_pivots_page : (file : NewFile) → new_page file 2 ≡ file.first_pivots
unfolding new_page
first_pivots_page file = refl

last_pivots_page : (file : NewFile) → new_page file 3 ≡ file.last_pivots
unfolding new_page
last_pivots_page file = refl

slots_page : (file : NewFile) (n : ℕ) → 85 ≤ n → n < file.pool_start → new_page file n ≡ file.free_slots
unfolding new_page
slots_page file n low high =
    let one : (n == 1) ≡ false = grind (arith, nat_tests, low) in
    let two : (n == 2) ≡ false = grind (arith, nat_tests, low) in
    let three : (n == 3) ≡ false = grind (arith, nat_tests, low) in
    let from : nat_le 85 n ≡ true = grind (arith, nat_tests, low) in
    let to : nat_lt n file.pool_start ≡ true = grind (arith, nat_tests, high) in
    λ i. if one i then file.profile else if two i then file.first_pivots else if three i then file.last_pivots
    else if from i && to i then file.free_slots else zero_page

module _ (profile : Profile) (pivots : List (List ℕ)) (file : NewFile) (of : IsFileOf profile pivots file) (few : length pivots ≤ 8) (image : List ℕ)
    (filled : IsFilled file image) where
  many : 85 + (profile.cap + 3) / 4 + 40 ≤ file.total
  many = omega (arith, of.total)

  pivots_there : HasPivots (page image) pivots
  pivots_there = record { few = few; each = each }
    where
      each : (i : ℕ) → i < 8 → pivot_at (page image) i ≡ Some (slice_index_or pivots i [])
      each i lt = elim (cases_lt i 4) [
        | inl low ↦
            let first : i / 4 ≡ 0 = omega (arith, low) in
            let place : i % 4 ≡ i = omega (arith, low) in
            (λ k. pivot_in (page image (2 + first k)) (place k))
            ∙ ap (λ p. pivot_in p i) (filled.pages_are 2 (omega arith) (omega (arith, many)) ∙ first_pivots_page file)
            ∙ of.first_are i low
        | inr high ↦
            let second : i / 4 ≡ 1 = omega (arith, high, lt) in
            let place : i % 4 ≡ i - 4 = omega (arith, high, lt) in
            let on : 4 + (i - 4) ≡ i = omega (arith, high) in
            (λ k. pivot_in (page image (2 + second k)) (place k))
            ∙ ap (λ p. pivot_in p (i - 4)) (filled.pages_are 3 (omega arith) (omega (arith, many)) ∙ last_pivots_page file)
            ∙ of.last_are (i - 4) (omega (arith, high, lt))
            ∙ ap (λ m. Some (slice_index_or pivots m [])) on
      ]

  slots_free : (slot : ℕ) → slot < profile.cap → slot_at (page image) slot ≡ Free
  slots_free slot lt =
      let place : slot % 4 < 4 = omega arith in
      let below : 85 + slot / 4 < file.pool_start = omega (arith, of.pool, lt) in
      let there : 85 + slot / 4 < file.total = omega (arith, many, lt) in
      ap (λ p. slot_in p (slot % 4)) (filled.pages_are (85 + slot / 4) (omega arith) there ∙ slots_page file (85 + slot / 4) (omega arith) below)
      ∙ of.slots_are (slot % 4) place

-- ---- the empty store

module _ (profile : Profile) (pivots : List (List ℕ)) (file : NewFile) (of : IsFileOf profile pivots file) (few : length pivots ≤ 8)
    (kept : (home : ℕ → List ℕ) → profile_in (home 1) ≡ Some profile → HasPivots home pivots
    → ((slot : ℕ) → slot < profile.cap → slot_at home slot ≡ Free) → Keeps home (empty_in_file profile.space profile.curve pivots profile.cap)) where
  pub is_closed : (image : List ℕ) → IsFilled file image → has_open_gate image ≡ false
  is_closed image filled = ap (λ g. g == 1) filled.closed

  pub stands : (image : List ℕ) → IsFilled file image → magic image ≡ store_magic
      → Stands image (empty_in_file profile.space profile.curve pivots profile.cap)
  stands image filled is =
      let enough = many profile pivots file of few image filled in
      record {
        home = page image;
        has = record {
          least = omega (arith, enough, of.total);
          size = filled.size ∙ ap (λ t. 512 * t) of.total;
          clean = λ opened. absurd (false≢true (sym (is_closed image filled) ∙ opened));
          marks_are = is;
          pages_are = λ n home. redo_closed image n (is_closed image filled);
        };
        keeps = kept (page image)
            (ap profile_in (filled.pages_are 1 (omega arith) (omega (arith, enough)) ∙ profile_page file) ∙ of.profile_is)
            (pivots_there profile pivots file of few image filled) (slots_free profile pivots file of few image filled);
      }

  pub settled : (image : List ℕ) → IsUnderWay file image → IsNoStore image ⊎ Stands image (empty_in_file profile.space profile.curve pivots profile.cap)
  settled image (IsShort short) = inl (inl (omega (arith, short)))
  settled image (Lacks unsigned) = inl (inr (inl (no_magic image unsigned)))
  settled image (Fills filled) = either (bytes_eq (magic image) store_magic) refl
    where
      either : (b : Bool) → bytes_eq (magic image) store_magic ≡ b
          → IsNoStore image ⊎ Stands image (empty_in_file profile.space profile.curve pivots profile.cap)
      either true same = inr (stands image filled ((bytes_eq-Decides (magic image) store_magic).0 same))
      either false other = inl (inr (inl (λ is. false≢true (sym other ∙ (bytes_eq-Decides (magic image) store_magic).1 is))))
