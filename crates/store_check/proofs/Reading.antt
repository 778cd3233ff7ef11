-- What a page that reads as a profile says of the profile.
use Rattle.std.proofs.Common.{◌≡◌, ℕ, zero, suc, ◌+◌, ◌<◌, Bool, true, false, List, [], ◌∷◌, take, drop, refl, subst, arith}
use Rattle.std.specs.Prelude.{◌&&◌, IsTrue, Option, Some, None, option_and_then, slice_index, slice_index_or, if◌then◌else◌}
use Rattle.std.proofs.lemmas.Bool.{and_parts}
use Rattle.std.proofs.lemmas.Bool.Decides.{nat_tests}
use Rattle.std.proofs.lemmas.List.Elements.{All-from_recursion}
use Rattle.metrics_builtin.specs.declared.Space.{Space}
use Rattle.metrics_builtin.specs.Space.{fits}
use Rattle.page_laws.specs.declared.root.Root.{Root}
use Rattle.page_laws.specs.Pages.{are_zero}
use Rattle.redo_journal.specs.Header.{leading_number}
use Rattle.spb_defs.specs.declared.CurveKind.{CurveKind}
use Rattle.store_check.specs.declared.profile.Profile.{Profile}
use Rattle.store_check.specs.Profile.{number_at, format_in, is_format, is_width, has_zeros, space_of, kept_space, space_in, curve_of, is_root, kept_root, root_in, are_paired, kept_pair, trees_in, trees_at, roots_in, are_in_range, with_numbers, fields_in, profile_in, no_root, AreRoots, IsInRange}

module _ {A : Type 0} where
  pub never : (x : A) → None ≡ Some x → ⊥
  never x e = cc

  same : (x y : A) → Some x ≡ Some y → x ≡ y
  same x y e = cc

  some_step : {B : Type 0} (f : B → Option A) (o : Option B) (y : A) → option_and_then f o ≡ Some y → (x : B) × (o ≡ Some x) × (f x ≡ Some y)
  some_step f None y is = absurd (never y is)
  some_step f (Some x) y is = (x, refl, is)

  some_kept : (b : Bool) (o : Option A) (y : A) → (if b then o else None) ≡ Some y → (b ≡ true) × (o ≡ Some y)
  some_kept true o y is = (refl, is)
  some_kept false o y is = absurd (never y is)

  pub some_if : (b : Bool) (x y : A) → (if b then Some x else None) ≡ Some y → (b ≡ true) × (x ≡ y)
  some_if true x y is = (refl, same x y is)
  some_if false x y is = absurd (never y is)

-- the format of a profile page is known
pub read_format : (page : List ℕ) (p : Profile) → profile_in page ≡ Some p → is_format (format_in page) ≡ true
unfolding profile_in
read_format page p is = (some_kept (is_format (format_in page)) (fields_in page) p is).0

-- the space fits
space_fits : (page : List ℕ) (space : Space) → space_in page ≡ Some space → IsTrue (fits space)
unfolding space_in
space_fits page space is =
    let kept = some_step kept_space (space_of (slice_index page 2) (number_at 8 page) (number_at 12 page)) space is in
    let parts = some_if (fits kept.0) kept.0 space kept.2 in
    subst (λ s. IsTrue (fits s)) parts.1 parts.0

-- ---- roots

root_kept : (root r : Root) (zeros : List ℕ) → kept_root root zeros ≡ Some r → IsTrue (is_root r)
root_kept root r zeros is =
    let parts = some_if (is_root root && are_zero zeros) root r is in
    subst (λ q. IsTrue (is_root q)) parts.1 (and_parts (is_root root) (are_zero zeros) parts.0).0

root_is : (bytes : List ℕ) (r : Root) → root_in bytes ≡ Some r → IsTrue (is_root r)
unfolding root_in
root_is bytes r is = root_kept (record { page = leading_number bytes; height = slice_index bytes 4 }) r (take 3 (drop 5 bytes)) is

-- two roots that read as those of a collection's trees
pub record AreTrees (curve ids : Root) : Type 0 where
  pub curve_is : IsTrue (is_root curve)
  pub ids_is : IsTrue (is_root ids)
  pub paired : IsTrue (are_paired curve ids)

trees_are : (bytes : List ℕ) (p : Root × Root) → trees_in bytes ≡ Some p → AreTrees p.0 p.1
unfolding trees_in
trees_are bytes p is =
    let with_curve = some_step (λ curve. option_and_then (kept_pair curve) (root_in (drop 8 bytes))) (root_in bytes) p is in
    let with_ids = some_step (kept_pair with_curve.0) (root_in (drop 8 bytes)) p with_curve.2 in
    let parts = some_if (are_paired with_curve.0 with_ids.0) (with_curve.0, with_ids.0) p with_ids.2 in
    subst (λ (q : Root × Root). AreTrees q.0 q.1) parts.1 (record {
      curve_is = root_is bytes with_curve.0 with_curve.1;
      ids_is = root_is (drop 8 bytes) with_ids.0 with_ids.1;
      paired = parts.0;
    })

pub eight_roots : (a b c d e f g h : Root) → AreTrees a e → AreTrees b f → AreTrees c g → AreTrees d h → AreRoots (a ∷ b ∷ c ∷ d ∷ e ∷ f ∷ g ∷ h ∷ [])
eight_roots a b c d e f g h first second third fourth = record {
  eight = refl;
  each = All-from_recursion (λ root. IsTrue (is_root root)) (a ∷ b ∷ c ∷ d ∷ e ∷ f ∷ g ∷ h ∷ [])
      (first.curve_is, (second.curve_is, (third.curve_is, (fourth.curve_is, (first.ids_is, (second.ids_is, (third.ids_is, (fourth.ids_is, tt))))))));
  paired = pairs;
}
  where
    pairs : (k : ℕ) → k < 4 → IsTrue (are_paired (slice_index_or (a ∷ b ∷ c ∷ d ∷ e ∷ f ∷ g ∷ h ∷ []) k no_root)
        (slice_index_or (a ∷ b ∷ c ∷ d ∷ e ∷ f ∷ g ∷ h ∷ []) (4 + k) no_root))
    pairs zero below = first.paired
    pairs (suc zero) below = second.paired
    pairs (suc (suc zero)) below = third.paired
    pairs (suc (suc (suc zero))) below = fourth.paired
    pairs (suc (suc (suc (suc k)))) below = absurd (omega (arith, below))

roots_are : (page : List ℕ) (roots : List Root) → roots_in page ≡ Some roots → AreRoots roots
unfolding roots_in
roots_are page roots is =
    let a = some_step _ (trees_at 32 page) roots is in
    let b = some_step _ (trees_at 48 page) roots a.2 in
    let c = some_step _ (trees_at 64 page) roots b.2 in
    let d = some_step _ (trees_at 80 page) roots c.2 in
    subst AreRoots (same _ roots d.2) (eight_roots a.0.0 b.0.0 c.0.0 d.0.0 a.0.1 b.0.1 c.0.1 d.0.1
    (trees_are (drop 32 page) a.0 a.1) (trees_are (drop 48 page) b.0 b.1) (trees_are (drop 64 page) c.0 c.1) (trees_are (drop 80 page) d.0 d.1))

-- ---- numbers

in_range : (space : Space) (curve : CurveKind) (pivots width cap : ℕ) (roots : List Root) → IsTrue (fits space) → are_in_range space pivots width cap ≡ true
    → AreRoots roots → IsInRange (record { space = space; curve = curve; pivots = pivots; bits = width; cap = cap; roots = roots })
unfolding are_in_range
in_range space curve pivots width cap roots fit is trees = record {
  fit = fit;
  some_pivots = grind (arith, nat_tests, is);
  few_pivots = grind (arith, nat_tests, is);
  width = grind (arith, nat_tests, is);
  few_bits = grind (arith, nat_tests, is);
  some_cap = grind (arith, nat_tests, is);
  few = grind (arith, nat_tests, is);
  trees = trees;
}

-- all numbers are in their ranges
pub read_in_range : (page : List ℕ) (p : Profile) → profile_in page ≡ Some p → IsInRange p
unfolding profile_in fields_in
read_in_range page p is =
    let inside = (some_kept (is_format (format_in page)) (fields_in page) p is).1 in
    let with_space = some_step (λ space. option_and_then (λ curve. option_and_then (with_numbers page space curve) (roots_in page)) (curve_of (slice_index page 3)))
    (space_in page) p inside in
    let space = with_space.0 in
    let with_curve = some_step (λ curve. option_and_then (with_numbers page space curve) (roots_in page)) (curve_of (slice_index page 3)) p with_space.2 in
    let curve = with_curve.0 in
    let with_roots = some_step (with_numbers page space curve) (roots_in page) p with_curve.2 in
    let pivots = slice_index page 4 in
    let width = slice_index page 5 in
    let cap = number_at 16 page in
    let ranges = are_in_range space pivots width cap in
    let last = some_if (ranges && is_width (number_at 20 page) && has_zeros page)
    (record { space = space; curve = curve; pivots = pivots; bits = width; cap = cap; roots = with_roots.0 }) p with_roots.2 in
    let numbers : ranges ≡ true = grind (arith, last.0) in
    subst IsInRange last.1 (in_range space curve pivots width cap with_roots.0 (space_fits page space with_space.1) numbers
    (roots_are page with_roots.0 with_roots.1))
