-- A file that opens is a store, and breaks no rule that is tested before the trees and the slots.
use Rattle.std.proofs.Common.{◌≡◌, inl, inr, ℕ, ◌+◌, ◌/◌, ◌%◌, ◌<◌, ◌≤◌, List, [], length, Some, sym, ◌∙◌, ap, subst, arith}
use Rattle.std.specs.Prelude.{slice_index_or}
use Rattle.std.proofs.lemmas.Bool.{false≢true}
use Rattle.std.proofs.lemmas.List.{get_or_past}
use Rattle.std.proofs.lemmas.List.Elements.{All-get_or}
use Rattle.metrics_builtin.specs.Space.{IsValid}
use Rattle.page_laws.specs.declared.rule.Rule.{Rule}
use Rattle.page_laws.specs.declared.rule.Rule.TheVariants as rule
use Rattle.redo_journal.specs.Pages.{page as journal_page}
use Rattle.redo_journal.specs.Header.{IsHeader}
use Rattle.redo_journal.specs.Redo.{redo_page}
use Rattle.store_check.specs.declared.profile.Profile.{Profile}
use Rattle.store_check.specs.Layout.{file_pages}
use Rattle.store_check.specs.Profile.{profile_in}
use Rattle.store_check.specs.Pivots.{pivot_in, pivot_at}
use Rattle.store_check.specs.Stands.{IsPaged, IsNoStore}
use Rattle.store_check.specs.Damage.{IsPivot, HasPivot, HasGoodPivots, Breaks}
use Rattle.store_check.proofs.Reading.{read_format, never}
use Rattle.store_core.specs.Opening.{IsStarted, IsFirstRule}
use Rattle.store_core.proofs.Starting.{one_total}

-- a page reads as one profile
pub same : (p q : Profile) → Some p ≡ Some q → p ≡ q
same p q is = cc

-- no file has more pages than a number of 32 bits counts
few_pages : (cap : ℕ) → cap ≤ 65536 → file_pages cap ≤ 4294967295
few_pages cap few = omega (arith, few)

module _ (old new : List ℕ) (profile : Profile) (pivots : List (List ℕ)) (started : IsStarted old new profile pivots) where
  -- the profile page as redone
  pub reads : profile_in (redo_page old 1) ≡ Some profile
  reads = ap profile_in (started.had.pages_are 1 (inl (omega arith, omega arith))) ∙ started.reads

  -- as many pages as those of the cap
  all_pages : (pages : ℕ) → IsPaged pages old → pages ≡ file_pages profile.cap
  all_pages pages paged = one_total pages (file_pages profile.cap) (length old) paged.size started.had.size

  paged : IsPaged (file_pages profile.cap) old
  paged = record { least = started.had.least; most = few_pages profile.cap started.in_range.few; size = started.had.size }

  pub is_store : IsNoStore old → ⊥
  is_store (inl short) = absurd (omega (arith, short, started.had.size, started.had.least))
  is_store (inr (inl other)) = other started.had.marks_are
  is_store (inr (inr format)) = false≢true (sym format.format ∙ read_format (redo_page old 1) profile reads)

  -- each record of pivots reads as what belongs there
  record_reads : (place : ℕ) → place < 8 → pivot_at (redo_page old) place ≡ Some (slice_index_or pivots place [])
  record_reads place below =
      ap (λ bytes. pivot_in bytes (place % 4)) (started.had.pages_are (2 + place / 4) (inl (omega (arith, below), omega (arith, below))))
      ∙ started.pivots_are.each place below

  good_record : (place : ℕ) → place < 8 → HasPivot old profile place
  good_record place below = subst (IsPivot profile.space profile.pivots place) (sym (record_reads place below)) (
    λ before. All-get_or (IsValid profile.space) pivots place [] (subst (λ n. place < n) (sym started.count) before) started.objects,
    λ past. get_or_past pivots place [] (subst (λ n. n ≤ place) (sym started.count) past),
  )

  pub good_pivots : HasGoodPivots old profile
  good_pivots = record {
    fits = record {
      marked = record { long = let size = started.had.size in let least = started.had.least in omega (arith, size, least); marks_are = started.had.marks_are };
      paged = paged;
      clean = started.had.clean;
      reads = reads;
    };
    each = good_record;
  }

  pub breaks_no_first : (page : ℕ) (broken : Rule) → IsFirstRule broken → Breaks old page broken → ⊥
  breaks_no_first page rule.Size first (at, inl bad) = bad.never (file_pages profile.cap) paged
  breaks_no_first page rule.Size first (at, inr bad) =
      bad.other (all_pages bad.pages bad.has.paged ∙ ap (λ (p : Profile). file_pages p.cap) (same profile bad.profile (sym reads ∙ bad.has.reads)))
  breaks_no_first page rule.Journal first (at, bad) =
      bad.header (subst (λ n. IsHeader n (journal_page old 4)) (sym (all_pages bad.pages bad.paged)) (started.had.clean bad.opened))
  breaks_no_first page rule.Profile first (at, bad) = never profile (sym bad.field ∙ reads)
  breaks_no_first page rule.Pivot first bad =
      bad.bad (subst (λ p. HasPivot old p bad.place) (same profile bad.profile (sym reads ∙ bad.fits.reads)) (good_record bad.place bad.below))
  breaks_no_first page rule.Page first bad = first
  breaks_no_first page rule.Node first bad = first
  breaks_no_first page rule.Fill first bad = first
  breaks_no_first page rule.Order first bad = first
  breaks_no_first page rule.Key first bad = first
  breaks_no_first page rule.Box first bad = first
  breaks_no_first page rule.Slot first bad = first
  breaks_no_first page rule.Match first bad = first
