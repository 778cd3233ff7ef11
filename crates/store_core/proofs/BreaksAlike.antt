-- What the image after the first half of an opening breaks, the image before it breaks.
use Rattle.std.proofs.Common.{◌≡◌, inl, inr, ℕ, ◌<◌, List, Some, sym, ◌∙◌, ap, subst, arith}
use Rattle.std.specs.Prelude.{◌⊎◌, IsTrue}
use Rattle.page_laws.specs.declared.rule.Rule.{Rule}
use Rattle.page_laws.specs.declared.rule.Rule.TheVariants as rule
use Rattle.redo_journal.specs.Pages.{IsHome}
use Rattle.redo_journal.specs.Redo.{redo_page}
use Rattle.object_file.specs.ObjectFile.{slot_at}
use Rattle.store_check.specs.declared.profile.Profile.{Profile}
use Rattle.store_check.specs.Layout.{file_pages}
use Rattle.store_check.specs.Profile.{profile_in}
use Rattle.store_check.specs.Stands.{IsReadable, are_empty}
use Rattle.store_check.specs.Damage.{HasGoodPivots, HasTree, HasBadSlot, HoldsAgain, Breaks}
use Rattle.store_check.proofs.Standing.{home_profile, slot_same}
use Rattle.store_core.specs.Opening.{IsStarted}
use Rattle.store_core.specs.Finish.{IsLastRule}
use Rattle.store_core.proofs.Excluding.{same, reads, good_pivots}

module _ (old new : List ℕ) (profile : Profile) (pivots : List (List ℕ)) (started : IsStarted old new profile pivots) where
  alike_pages : (n : ℕ) → IsHome (file_pages profile.cap) n → redo_page old n ≡ redo_page new n
  alike_pages n home = started.had.pages_are n home ∙ sym (started.has.pages_are n home)

  -- the profile that is read after it
  profile_is : (other : Profile) → HasGoodPivots new other → other ≡ profile
  profile_is other good =
      let read : profile_in (redo_page new 1) ≡ Some profile =
      ap profile_in (sym (alike_pages 1 (home_profile (file_pages profile.cap)))) ∙ reads old new profile pivots started in
      same other profile (sym good.fits.reads ∙ read)

  alike_slot : (slot : ℕ) → slot < profile.cap → slot_at (redo_page old) slot ≡ slot_at (redo_page new) slot
  alike_slot = slot_same (redo_page new) (redo_page old) profile.cap alike_pages

  has_tree : HasTree new → HasTree old
  has_tree bad = record {
    profile = profile;
    good = good_pivots old new profile pivots started;
    filled = ap (λ (p : Profile). are_empty p.roots) (sym (profile_is bad.profile bad.good)) ∙ bad.filled;
  }

  again : (slot : ℕ) → slot < profile.cap → HoldsAgain (slot_at (redo_page new)) slot → HoldsAgain (slot_at (redo_page old)) slot
  again slot below is = record {
    lower = is.lower;
    less = is.less;
    collection = is.collection;
    id = is.id;
    first = is.first;
    second = is.second;
    at_lower = alike_slot is.lower (let less = is.less in omega (arith, less, below)) ∙ is.at_lower;
    at_slot = alike_slot slot below ∙ is.at_slot;
  }

  bad_at : (slot : ℕ) → slot < profile.cap → ((IsReadable profile.space (slot_at (redo_page new) slot) → ⊥) ⊎ HoldsAgain (slot_at (redo_page new)) slot)
      → (IsReadable profile.space (slot_at (redo_page old) slot) → ⊥) ⊎ HoldsAgain (slot_at (redo_page old)) slot
  bad_at slot below (inl bad) = inl (λ readable. bad (subst (IsReadable profile.space) (alike_slot slot below) readable))
  bad_at slot below (inr bad) = inr (again slot below bad)

  has_bad_slot : (n : ℕ) → HasBadSlot new n → HasBadSlot old n
  has_bad_slot n bad =
      let is = profile_is bad.profile bad.good in
      let below : bad.slot < profile.cap = subst (λ (p : Profile). bad.slot < p.cap) is bad.below in
      record {
        profile = profile;
        good = good_pivots old new profile pivots started;
        empty = subst (λ (p : Profile). IsTrue (are_empty p.roots)) is bad.empty;
        slot = bad.slot;
        below = below;
        page_is = bad.page_is;
        bad = bad_at bad.slot below
            (subst (λ (p : Profile). (IsReadable p.space (slot_at (redo_page new) bad.slot) → ⊥) ⊎ HoldsAgain (slot_at (redo_page new)) bad.slot) is bad.bad);
      }

  pub breaks_alike : (page : ℕ) (broken : Rule) → IsLastRule broken → Breaks new page broken → Breaks old page broken
  breaks_alike page rule.Size last bad = absurd last
  breaks_alike page rule.Journal last bad = absurd last
  breaks_alike page rule.Profile last bad = absurd last
  breaks_alike page rule.Pivot last bad = absurd last
  breaks_alike page rule.Page last (at, bad) = (at, has_tree bad)
  breaks_alike page rule.Node last bad = absurd last
  breaks_alike page rule.Fill last bad = absurd last
  breaks_alike page rule.Order last bad = absurd last
  breaks_alike page rule.Key last bad = absurd last
  breaks_alike page rule.Box last bad = absurd last
  breaks_alike page rule.Slot last bad = has_bad_slot page bad
  breaks_alike page rule.Match last bad = absurd last
