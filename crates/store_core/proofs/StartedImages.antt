-- The image that the first half of an opening leaves, and what a stored one stands for.
use Rattle.std.proofs.Common.{◌≡◌, ℕ, ◌+◌, ◌/◌, ◌%◌, List, sym, ap, ◌∙◌, arith}
use Rattle.std.proofs.lemmas.Bool.{false≢true}
use Rattle.spb_defs.specs.State.{State}
use Rattle.redo_journal.specs.Pages.{page, IsHome}
use Rattle.object_file.specs.Slots.{slot_in}
use Rattle.store_check.specs.declared.profile.Profile.{Profile}
use Rattle.store_check.specs.Layout.{file_pages}
use Rattle.store_check.specs.Profile.{profile_in}
use Rattle.store_check.specs.Pivots.{pivot_of}
use Rattle.store_check.specs.Stands.{Stands}
use Rattle.store_check.proofs.Standing.{home_profile, home_pivot}
use Rattle.open_store.specs.Store.{IsStored}
use Rattle.store_core.specs.Opening.{IsStarted}
use Rattle.store_core.specs.Finish.{IsOpened}
use Rattle.store_core.proofs.OpenedImages.{same_page}

module _ (old new : List ℕ) (profile : Profile) (pivots : List (List ℕ)) (started : IsStarted old new profile pivots) where
  at : (n : ℕ) → IsHome (file_pages profile.cap) n → page new n ≡ started.home n
  at n home = sym (same_page new started.closed n) ∙ started.has.pages_are n home

  pub is_opened : IsOpened new profile pivots
  is_opened = record {
    size = started.has.size;
    marks_are = started.has.marks_are;
    closed = started.closed;
    reads = ap profile_in (at 1 (home_profile (file_pages profile.cap))) ∙ started.reads;
    count = started.count;
    pivots_are = record {
      few = started.pivots_are.few;
      each = λ i below.
          ap (λ p. pivot_of (slot_in p (i % 4))) (at (2 + i / 4) (home_pivot (file_pages profile.cap) i below)) ∙ started.pivots_are.each i below;
    };
    objects = started.objects;
  }

-- an image with a closed gate stands for the state that its pages hold
pub stored_stands : (image : List ℕ) (s : State) → IsStored image s → Stands image s
stored_stands image s stored = record {
  home = page image;
  has = record {
    least = omega arith;
    size = stored.size;
    clean = λ opened. absurd (false≢true (sym stored.closed ∙ opened));
    marks_are = stored.marks_are;
    pages_are = λ n home. same_page image stored.closed n;
  };
  keeps = stored.keeps;
}
