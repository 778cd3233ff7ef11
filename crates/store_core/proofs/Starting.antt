-- What an opening makes of an image: the change is finished, and the pages are read.
use Rattle.std.proofs.Common.{◌≡◌, inr, ℕ, zero, suc, ◌+◌, ◌*◌, ◌/◌, ◌%◌, ◌<◌, false, List, [], ◌∷◌, length, Some, refl, sym, ◌∙◌, ap, subst, arith}
use Rattle.std.specs.Prelude.{Result, Ok, Err, MatchResult}
use Rattle.spb_defs.specs.State.{State}
use Rattle.page_laws.specs.declared.rule.Rule.TheVariants as rule
use Rattle.redo_journal.specs.Pages.{page}
use Rattle.redo_journal.specs.declared.errors.Field.{Field}
use Rattle.redo_journal.specs.declared.errors.Field.TheVariants.{Count, Page}
use Rattle.redo_journal.specs.Header.{IsCount, IsHeader, AreHomes, FailsAt, IsFirstBad}
use Rattle.redo_journal.specs.Redo.{RecoversTo, redo_page, has_open_gate}
use Rattle.redo_journal.specs.Change.{IsRedone}
use Rattle.redo_journal.proofs.Settle.{redone_home}
use Rattle.store_check.specs.declared.profile.Profile.{Profile}
use Rattle.store_check.specs.Layout.{file_pages}
use Rattle.store_check.specs.Profile.{format_in, is_format, profile_in}
use Rattle.store_check.specs.Pivots.{pivot_in, pivot_at}
use Rattle.store_check.specs.Stands.{Stands, IsPaged, IsClean, store_magic}
use Rattle.store_check.specs.Damage as damage
use Rattle.store_check.specs.Damage.{IsMarked, HasPivot, IsPivot, Breaks}
use Rattle.store_core.specs.declared.steps.StoreContent.{StoreContent}
use Rattle.store_core.specs.declared.errors.OpenError.{OpenError}
use Rattle.store_core.specs.declared.errors.OpenError.TheVariants as refusal
use Rattle.store_core.specs.Content.{HoldsProfile, HasBadPivots, HoldsContent, RefusesPivots, RefusesContent}
use Rattle.store_core.specs.Opening.{RecoversChange, IsStarted, Refuses}

-- ---- the header

-- numbers of which one fails aren't all in their ranges
fails : (total last : ℕ) (numbers : List ℕ) (place number : ℕ) → FailsAt total last numbers place number → AreHomes total last numbers → ⊥
fails total last [] place number bad homes = bad
fails total last (n ∷ ns) zero number bad homes = bad.1 homes.0 homes.1
fails total last (n ∷ ns) (suc place) number bad homes = fails total n ns place number bad.2 homes.2

pub first_bad : (total : ℕ) (header : List ℕ) (field : Field) → IsFirstBad total header field → IsHeader total header → ⊥
first_bad total header (Count count) bad good = bad.1 (subst IsCount (sym bad.0) good.count)
first_bad total header (Page place number) bad good = fails total 0 _ place number bad.1 good.homes

-- ---- two images of the same pages

-- as many bytes are as many pages
pub one_total : (m n size : ℕ) → size ≡ 512 * m → size ≡ 512 * n → m ≡ n
one_total m n size first second = omega (arith, first, second)

pub same_total : (total : ℕ) (image : List ℕ) (s : State) → length image ≡ 512 * total → Stands image s → file_pages s.cap ≡ total
same_total total image s size stands = one_total (file_pages s.cap) total (length image) stands.has.size size

-- what one of two images stands for, the other does
stands_too : (total : ℕ) (old new : List ℕ) (home : ℕ → List ℕ) → RecoversTo total old store_magic home → RecoversTo total new store_magic home
    → (s : State) → Stands old s → Stands new s
stands_too total old new home had has s stands =
    let same : file_pages s.cap ≡ total = same_total total old s had.size stands in
    let there : RecoversTo total old store_magic stands.home = subst (λ t. RecoversTo t old store_magic stands.home) same stands.has in
    record {
      home = stands.home;
      has = subst (λ t. RecoversTo t new store_magic stands.home) (sym same) (record {
        least = has.least;
        size = has.size;
        clean = has.clean;
        marks_are = has.marks_are;
        pages_are = λ n is. has.pages_are n is ∙ sym (had.pages_are n is) ∙ there.pages_are n is;
      });
      keeps = stands.keeps;
    }

-- ---- what was read

module _ (total : ℕ) (old new : List ℕ) (paged : IsPaged total old) (marked : IsMarked old) (clean : IsClean total old)
    (redone : IsRedone total old new) where
  had : RecoversTo total old store_magic (redo_page old)
  had = record { least = paged.least; size = paged.size; clean = clean; marks_are = marked.marks_are; pages_are = λ n is. refl }

  -- pages before the journal are those of the old image as redone
  redone_at : (n : ℕ) → 0 < n → n < 4 → page new n ≡ redo_page old n
  redone_at n some few = redone.pages_are n some (omega (arith, few, paged.least))

  first_page : page new 1 ≡ redo_page old 1
  first_page = redone_at 1 (omega arith) (omega arith)

  record_page : (place : ℕ) → place < 8 → pivot_at (page new) place ≡ pivot_at (redo_page old) place
  record_page place below = ap (λ bytes. pivot_in bytes (place % 4)) (redone_at (2 + place / 4) (omega arith) (omega (arith, below)))

  profile_then : (profile : Profile) → profile_in (page new 1) ≡ Some profile → damage.HasProfile total old profile
  profile_then profile reads = record { marked = marked; paged = paged; clean = clean; reads = ap profile_in (sym first_page) ∙ reads }

  pub is_started : (profile : Profile) (pivots : List (List ℕ)) → has_open_gate new ≡ false → HoldsContent total (page new) profile pivots
      → IsStarted old new profile pivots
  is_started profile pivots closed content =
      let home = redo_page old in
      let has : RecoversTo total new store_magic home = redone_home total old new store_magic home redone had in
      let same = content.profiled.total_is in
      record {
        home = home;
        had = subst (λ t. RecoversTo t old store_magic home) (sym same) had;
        has = subst (λ t. RecoversTo t new store_magic home) (sym same) has;
        closed = closed;
        reads = ap profile_in (sym first_page) ∙ content.profiled.reads;
        in_range = content.profiled.in_range;
        count = content.pivots_are.count;
        pivots_are = record {
          few = content.pivots_are.has.few;
          each = λ i below. sym (record_page i below) ∙ content.pivots_are.has.each i below;
        };
        objects = content.pivots_are.objects;
        alike = λ s. (stands_too total old new home had has s, stands_too total new old home has had s);
      }

  bad_pivot : (n : ℕ) → HasBadPivots total (page new) n → damage.HasBadPivot old n
  bad_pivot n bad = record {
    profile = bad.profile;
    fits = subst (λ t. damage.HasProfile t old bad.profile) (sym bad.profiled.total_is) (profile_then bad.profile bad.profiled.reads);
    place = bad.record_is.place;
    below = bad.record_is.below;
    page_is = bad.record_is.page_is;
    bad = λ good. bad.record_is.bad
        (subst (IsPivot bad.profile.space bad.profile.pivots bad.record_is.place) (sym (record_page bad.record_is.place bad.record_is.below)) good);
  }

  pub is_refused : (e : OpenError) → RefusesContent total (page new) e → Refuses e old
  is_refused refusal.NotStore other = inr (inr (record {
    pages = total;
    paged = paged;
    clean = clean;
    format = ap (λ bytes. is_format (format_in bytes)) (sym first_page) ∙ other;
  }))
  is_refused (refusal.Damaged n rule.Profile) (is, bad) = (
    tt,
    (
      is,
      record {
        pages = total;
        marked = marked;
        paged = paged;
        clean = clean;
        format = ap (λ bytes. is_format (format_in bytes)) (sym first_page) ∙ bad.format;
        field = ap profile_in (sym first_page) ∙ bad.field;
      },
    ),
  )
  is_refused (refusal.Damaged n rule.Size) (is, bad) = (
    tt,
    (
      is,
      inr (record {
        pages = total;
        profile = bad.profile;
        has = profile_then bad.profile bad.reads;
        other = λ same. bad.other (sym same);
      }),
    ),
  )
  is_refused (refusal.Damaged n rule.Pivot) bad = (tt, bad_pivot n bad)
  is_refused (refusal.Damaged n rule.Journal) bad = absurd bad
  is_refused (refusal.Damaged n rule.Page) bad = absurd bad
  is_refused (refusal.Damaged n rule.Node) bad = absurd bad
  is_refused (refusal.Damaged n rule.Fill) bad = absurd bad
  is_refused (refusal.Damaged n rule.Order) bad = absurd bad
  is_refused (refusal.Damaged n rule.Key) bad = absurd bad
  is_refused (refusal.Damaged n rule.Box) bad = absurd bad
  is_refused (refusal.Damaged n rule.Slot) bad = absurd bad
  is_refused (refusal.Damaged n rule.Match) bad = absurd bad
  is_refused refusal.DiskFault bad = tt
  is_refused refusal.Memory bad = tt

-- the content that was read after a recovery
pub content_starts : (total : ℕ) (old mid new : List ℕ) (result : Result StoreContent OpenError) → IsPaged total old → IsMarked old
    → RecoversChange total (Ok tt) old mid → new ≡ mid
    → MatchResult result (λ content. HoldsContent total (page mid) content.profile content.pivots.items) (RefusesContent total (page mid))
    → MatchResult result (λ content. IsStarted old new content.profile content.pivots.items) (λ e. Refuses e old)
content_starts total old mid new (Ok content) paged marked recovers same exact =
    subst (λ i. IsStarted old i content.profile content.pivots.items) (sym same)
    (is_started total old mid paged marked recovers.0 recovers.1 content.profile content.pivots.items recovers.2 exact)
content_starts total old mid new (Err e) paged marked recovers same exact = is_refused total old mid paged marked recovers.0 recovers.1 e exact

-- a record of pivots that is refused refuses the content
pub pivots_refused : (total : ℕ) (pages : ℕ → List ℕ) (profile : Profile) → HoldsProfile total pages profile → (e : OpenError)
    → RefusesPivots profile pages e → RefusesContent total pages e
pivots_refused total pages profile profiled refusal.NotStore bad = absurd bad
pivots_refused total pages profile profiled (refusal.Damaged n rule.Pivot) bad = record { profile = profile; profiled = profiled; record_is = bad }
pivots_refused total pages profile profiled (refusal.Damaged n rule.Size) bad = absurd bad
pivots_refused total pages profile profiled (refusal.Damaged n rule.Journal) bad = absurd bad
pivots_refused total pages profile profiled (refusal.Damaged n rule.Profile) bad = absurd bad
pivots_refused total pages profile profiled (refusal.Damaged n rule.Page) bad = absurd bad
pivots_refused total pages profile profiled (refusal.Damaged n rule.Node) bad = absurd bad
pivots_refused total pages profile profiled (refusal.Damaged n rule.Fill) bad = absurd bad
pivots_refused total pages profile profiled (refusal.Damaged n rule.Order) bad = absurd bad
pivots_refused total pages profile profiled (refusal.Damaged n rule.Key) bad = absurd bad
pivots_refused total pages profile profiled (refusal.Damaged n rule.Box) bad = absurd bad
pivots_refused total pages profile profiled (refusal.Damaged n rule.Slot) bad = absurd bad
pivots_refused total pages profile profiled (refusal.Damaged n rule.Match) bad = absurd bad
pivots_refused total pages profile profiled refusal.DiskFault bad = tt
pivots_refused total pages profile profiled refusal.Memory bad = tt
