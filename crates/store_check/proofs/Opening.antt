-- An image that passes all steps stands for the state that its pages read as.
use Rattle.std.proofs.Common.{◌≡◌, inl, inr, ℕ, ◌+◌, ◌≤◌, ◌<◌, List, [], length, refl, sym, ap, subst, ◌∙◌, arith}
use Rattle.std.specs.Prelude.{IsTrue, All, slice_index_or, Option, Some, None}
use Rattle.std.specs.List.{range_with_len}
use Rattle.std.proofs.lemmas.Bool.{cases_lt}
use Rattle.std.proofs.lemmas.List.{get_or-map, get_or_past}
use Rattle.std.proofs.lemmas.List.FromFn.{length-map-range_with_len, length-range_with_len, get_or-range_with_len}
use Rattle.std.proofs.lemmas.List.Elements.{All-from_get_or}
use Rattle.metrics_builtin.specs.declared.Space.{Space}
use Rattle.metrics_builtin.specs.Space.{IsValid}
use Rattle.redo_journal.specs.Redo.{redo_page}
use Rattle.object_file.specs.ObjectFile.{slot_at}
use Rattle.store_check.specs.declared.profile.Profile.{Profile}
use Rattle.store_check.specs.Pivots.{pivot_at, HasPivots}
use Rattle.store_check.specs.Stands.{IsReadable, Stands, are_empty}
use Rattle.store_check.specs.Damage.{IsPivot, HasGoodPivots, HoldsAgain}
use Rattle.store_check.specs.Opened.{object_or, pivots_in, state_in}
use Rattle.store_check.proofs.Placed.{distinct_placed}
use Rattle.store_check.proofs.Reading.{read_in_range}

-- ---- pivots

reads_by : (space : Space) (n i : ℕ) (o : Option (List ℕ)) → IsPivot space n i o → o ≡ Some (object_or o [])
reads_by space n i None pivot = absurd pivot
reads_by space n i (Some object) pivot = refl

valid_by : (space : Space) (n i : ℕ) (o : Option (List ℕ)) → IsPivot space n i o → i < n → IsValid space (object_or o [])
valid_by space n i None pivot less = absurd pivot
valid_by space n i (Some object) pivot less = pivot.0 less

none_by : (space : Space) (n i : ℕ) (o : Option (List ℕ)) → IsPivot space n i o → n ≤ i → object_or o [] ≡ []
none_by space n i None pivot least = absurd pivot
none_by space n i (Some object) pivot least = pivot.1 least

module _ (pages : ℕ → List ℕ) (space : Space) (n : ℕ) (few : n ≤ 8) (each : (i : ℕ) → i < 8 → IsPivot space n i (pivot_at pages i)) where
  long : length (pivots_in pages n) ≡ n
  unfolding pivots_in
  long = length-map-range_with_len (λ i. object_or (pivot_at pages i) []) 0 n

  -- the pivot of a place
  at : (i : ℕ) → i < n → slice_index_or (pivots_in pages n) i [] ≡ object_or (pivot_at pages i) []
  unfolding pivots_in
  at i less =
      let on : 0 + i ≡ i = omega arith in
      get_or-map (λ k. object_or (pivot_at pages k) []) (range_with_len 0 n) i 0 [] (omega (arith, less, length-range_with_len 0 n))
      ∙ ap (λ k. object_or (pivot_at pages k) []) (get_or-range_with_len 0 n i 0 less ∙ on)

  object_is : (i : ℕ) → i < 8 → object_or (pivot_at pages i) [] ≡ slice_index_or (pivots_in pages n) i []
  object_is i below = elim (cases_lt i n) [
    | inl less ↦ sym (at i less)
    | inr least ↦ none_by space n i (pivot_at pages i) (each i below) least ∙ sym (get_or_past (pivots_in pages n) i [] (omega (arith, least, long)))
  ]

  has : HasPivots pages (pivots_in pages n)
  has = record {
    few = omega (arith, long, few);
    each = λ i below. reads_by space n i (pivot_at pages i) (each i below) ∙ ap Some (object_is i below);
  }

  valid : All (IsValid space) (pivots_in pages n)
  valid = All-from_get_or (IsValid space) (pivots_in pages n) [] (λ i below.
      let less : i < n = omega (arith, below, long) in
      subst (IsValid space) (sym (at i less)) (valid_by space n i (pivot_at pages i) (each i (omega (arith, less, few))) less))

-- ---- the image

pub stands_for : (image : List ℕ) (profile : Profile) → HasGoodPivots image profile → IsTrue (are_empty profile.roots)
    → ((slot : ℕ) → slot < profile.cap → IsReadable profile.space (slot_at (redo_page image) slot))
    → ((slot : ℕ) → slot < profile.cap → HoldsAgain (slot_at (redo_page image)) slot → ⊥)
    → Stands image (state_in (redo_page image) profile)
stands_for image profile good empty readable never =
    let range = read_in_range (redo_page image 1) profile good.fits.reads in
    record {
      home = redo_page image;
      has = record {
        least = good.fits.paged.least;
        size = good.fits.paged.size;
        clean = good.fits.clean;
        marks_are = good.fits.marked.marks_are;
        pages_are = λ n home. refl;
      };
      keeps = record {
        profiled = record {
          profile = profile;
          reads = good.fits.reads;
          space = refl;
          curve = refl;
          cap = refl;
          count = long (redo_page image) profile.space profile.pivots range.few_pivots good.each;
          pivots = has (redo_page image) profile.space profile.pivots range.few_pivots good.each;
          objects = valid (redo_page image) profile.space profile.pivots range.few_pivots good.each;
          samples = refl;
          wanted = sym (long (redo_page image) profile.space profile.pivots range.few_pivots good.each);
        };
        roots = empty;
        members = record {
          readable = readable;
          distinct = distinct_placed profile.cap (slot_at (redo_page image)) (λ lower slot c id object another less below is again. never slot below
              (record { lower = lower; less = less; collection = c; id = id; first = object; second = another; at_lower = is; at_slot = again }));
          members_are = refl;
        };
      };
    }
