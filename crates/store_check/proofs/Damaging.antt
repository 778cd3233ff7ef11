-- What images stand for no state.
use Rattle.std.proofs.Common.{◌≡◌, ◌⊎◌, inl, inr, ℕ, ◌<◌, Bool, true, false, List, [], length, sym, ap, subst, ◌∙◌, true≢false, arith}
use Rattle.std.specs.Prelude.{IsTrue, slice_index_or, Some}
use Rattle.std.proofs.lemmas.List.{get_or_past}
use Rattle.std.proofs.lemmas.Option.{same_Some}
use Rattle.metrics_builtin.specs.Space.{IsValid}
use Rattle.page_laws.specs.declared.rule.Rule.{Rule}
use Rattle.page_laws.specs.declared.rule.Rule.TheVariants as rule
use Rattle.redo_journal.specs.Pages.{page}
use Rattle.redo_journal.specs.Header.{IsHeader}
use Rattle.redo_journal.specs.Redo.{redo_page}
use Rattle.object_file.specs.ObjectFile.{slot_at}
use Rattle.spb_defs.specs.State.{State}
use Rattle.store_check.specs.declared.profile.Profile.{Profile}
use Rattle.store_check.specs.Layout.{file_pages}
use Rattle.store_check.specs.Profile.{format_in, is_format, profile_in, IsInRange}
use Rattle.store_check.specs.Stands.{IsReadable, Keeps, Stands, IsNoStore, IsPaged, HasOtherFormat, are_empty}
use Rattle.store_check.specs.Damage.{IsMarked, IsPivot, HasPivot, IsNotPaged, HasOtherLength, HasBadJournal, HasBadProfile, HasBadPivot, HasTree, HasBadSlot, Breaks}
use Rattle.store_check.proofs.Placed.{clash_placed}
use Rattle.store_check.proofs.Reading.{never, read_format}
use Rattle.store_check.proofs.Standing.{redone, profile_in_range}

-- an image has one number of pages
one_count : (image : List ℕ) (n m : ℕ) → IsPaged n image → IsPaged m image → n ≡ m
one_count image n m a b = omega (arith, a.size, b.size)

true_or_false : (b : Bool) → b ≡ true → b ≡ false → ⊥
true_or_false b is other = true≢false (sym is ∙ other)

module _ (image : List ℕ) (s : State) (stands : Stands image s) (kept : Keeps (redo_page image) s) where
  -- the profile that its pages hold
  abbrev profile : Profile
  profile = kept.profiled.profile

  range : IsInRange profile
  range = profile_in_range (redo_page image) s kept

  paged : IsPaged (file_pages s.cap) image
  paged = record { least = stands.has.least; most = omega (arith, kept.profiled.cap, range.few); size = stands.has.size }

  same_profile : (other : Profile) → profile_in (redo_page image 1) ≡ Some other → profile ≡ other
  same_profile other reads = same_Some profile other (sym kept.profiled.reads ∙ reads)

  same_cap : (other : Profile) → profile_in (redo_page image 1) ≡ Some other → s.cap ≡ other.cap
  same_cap other reads = kept.profiled.cap ∙ ap (λ (p : Profile). p.cap) (same_profile other reads)

  same_space : (other : Profile) → profile_in (redo_page image 1) ≡ Some other → s.space ≡ other.space
  same_space other reads = kept.profiled.space ∙ ap (λ (p : Profile). p.space) (same_profile other reads)

  -- all records of pivots read
  has_pivot : (other : Profile) → profile_in (redo_page image 1) ≡ Some other → (i : ℕ) → i < 8 → HasPivot image other i
  has_pivot other reads i below =
      let count : length s.pivots ≡ other.pivots = kept.profiled.count ∙ ap (λ (p : Profile). p.pivots) (same_profile other reads) in
      subst (λ o. IsPivot other.space other.pivots i o) (sym (kept.profiled.pivots.each i below)) (
        (λ less. subst (λ space. IsValid space (slice_index_or s.pivots i [])) (same_space other reads)
            (kept.profiled.objects i [] (omega (arith, less, count)))),
        (λ least. get_or_past s.pivots i [] (omega (arith, least, count))),
      )

  not_size : IsNotPaged image ⊎ HasOtherLength image → ⊥
  not_size (inl not) = not.never (file_pages s.cap) paged
  not_size (inr h) = h.other (one_count image h.pages (file_pages s.cap) h.has.paged paged ∙ ap file_pages (same_cap h.profile h.has.reads))

  not_journal : HasBadJournal image → ⊥
  not_journal h = h.header (subst (λ n. IsHeader n (page image 4)) (one_count image (file_pages s.cap) h.pages paged h.paged) (stands.has.clean h.opened))

  not_profile : HasBadProfile image → ⊥
  not_profile h = never profile (sym h.field ∙ kept.profiled.reads)

  not_pivot : (n : ℕ) → HasBadPivot image n → ⊥
  not_pivot n h = h.bad (has_pivot h.profile h.fits.reads h.place h.below)

  not_tree : HasTree image → ⊥
  not_tree h = true_or_false (are_empty h.profile.roots)
      (subst (λ (p : Profile). IsTrue (are_empty p.roots)) (same_profile h.profile h.good.fits.reads) kept.roots) h.filled

  not_slot : (n : ℕ) → HasBadSlot image n → ⊥
  not_slot n h = elim h.bad [
    | inl unreadable ↦ unreadable (subst (λ space. IsReadable space (slot_at (redo_page image) h.slot)) (same_space h.profile h.good.fits.reads)
        (kept.members.readable h.slot below))
    | inr again ↦ clash_placed s.cap (slot_at (redo_page image)) again.lower h.slot again.collection again.id again.first again.second
        kept.members.distinct again.less below again.at_lower again.at_slot
  ]
    where
      below : h.slot < s.cap
      below = omega (arith, h.below, same_cap h.profile h.good.fits.reads)

  not_other_format : HasOtherFormat image → ⊥
  not_other_format h = true_or_false (is_format (format_in (redo_page image 1))) (read_format (redo_page image 1) profile kept.profiled.reads) h.format

pub refuted : (image : List ℕ) (n : ℕ) (r : Rule) (s : State) → Breaks image n r → Stands image s → ⊥
refuted image n rule.Size s breaks stands = not_size image s stands (redone image s stands) breaks.1
refuted image n rule.Journal s breaks stands = not_journal image s stands (redone image s stands) breaks.1
refuted image n rule.Profile s breaks stands = not_profile image s stands (redone image s stands) breaks.1
refuted image n rule.Pivot s breaks stands = not_pivot image s stands (redone image s stands) n breaks
refuted image n rule.Page s breaks stands = not_tree image s stands (redone image s stands) breaks.1
refuted image n rule.Node s breaks stands = breaks
refuted image n rule.Fill s breaks stands = breaks
refuted image n rule.Order s breaks stands = breaks
refuted image n rule.Key s breaks stands = breaks
refuted image n rule.Box s breaks stands = breaks
refuted image n rule.Slot s breaks stands = not_slot image s stands (redone image s stands) n breaks
refuted image n rule.Match s breaks stands = breaks

pub no_store : (image : List ℕ) (s : State) → IsNoStore image → Stands image s → ⊥
no_store image s (inl short) stands = omega (arith, short, stands.has.size, stands.has.least)
no_store image s (inr (inl other)) stands = other stands.has.marks_are
no_store image s (inr (inr other)) stands = not_other_format image s stands (redone image s stands) other

-- ---- images that are no store break no rule

module _ (image : List ℕ) where
  size_marked : IsNotPaged image ⊎ HasOtherLength image → IsMarked image
  size_marked (inl not) = not.marked
  size_marked (inr h) = h.has.marked

  marked : (n : ℕ) (r : Rule) → Breaks image n r → IsMarked image
  marked n rule.Size breaks = size_marked breaks.1
  marked n rule.Journal breaks = breaks.1.marked
  marked n rule.Profile breaks = breaks.1.marked
  marked n rule.Pivot breaks = breaks.fits.marked
  marked n rule.Page breaks = breaks.1.good.fits.marked
  marked n rule.Node breaks = absurd breaks
  marked n rule.Fill breaks = absurd breaks
  marked n rule.Order breaks = absurd breaks
  marked n rule.Key breaks = absurd breaks
  marked n rule.Box breaks = absurd breaks
  marked n rule.Slot breaks = breaks.good.fits.marked
  marked n rule.Match breaks = absurd breaks

  module _ (other : HasOtherFormat image) where
    -- no profile reads
    unread : (p : Profile) → profile_in (redo_page image 1) ≡ Some p → ⊥
    unread p reads = true_or_false (is_format (format_in (redo_page image 1))) (read_format (redo_page image 1) p reads) other.format

    size_unread : IsNotPaged image ⊎ HasOtherLength image → ⊥
    size_unread (inl not) = not.never other.pages other.paged
    size_unread (inr h) = unread h.profile h.has.reads

    unbroken : (n : ℕ) (r : Rule) → Breaks image n r → ⊥
    unbroken n rule.Size breaks = size_unread breaks.1
    unbroken n rule.Journal breaks = breaks.1.header (subst (λ m. IsHeader m (page image 4)) (one_count image other.pages breaks.1.pages other.paged breaks.1.paged)
        (other.clean breaks.1.opened))
    unbroken n rule.Profile breaks = true_or_false (is_format (format_in (redo_page image 1))) breaks.1.format other.format
    unbroken n rule.Pivot breaks = unread breaks.profile breaks.fits.reads
    unbroken n rule.Page breaks = unread breaks.1.profile breaks.1.good.fits.reads
    unbroken n rule.Node breaks = breaks
    unbroken n rule.Fill breaks = breaks
    unbroken n rule.Order breaks = breaks
    unbroken n rule.Key breaks = breaks
    unbroken n rule.Box breaks = breaks
    unbroken n rule.Slot breaks = unread breaks.profile breaks.good.fits.reads
    unbroken n rule.Match breaks = breaks

pub breaks_nothing : (image : List ℕ) (n : ℕ) (r : Rule) → IsNoStore image → Breaks image n r → ⊥
breaks_nothing image n r (inl short) breaks = let is = marked image n r breaks in omega (arith, short, is.long)
breaks_nothing image n r (inr (inl other)) breaks = other (marked image n r breaks).marks_are
breaks_nothing image n r (inr (inr other)) breaks = unbroken image other n r breaks
