-- The pivots record by record, and what pages hold that are alike.
use Rattle.std.proofs.Common.{◌≡◌, ⊎_elim, ℕ, ◌+◌, ◌<◌, ◌≤◌, List, [], ◌∷◌, ◌++◌, Some, refl, sym, ◌∙◌, ap, subst, arith}
use Rattle.std.specs.Prelude.{Result, Ok, Err, MatchResult}
use Rattle.std.proofs.lemmas.Bool.{cases_lt}
use Rattle.std.proofs.lemmas.List.{length_push, get_or_append_left, get_or_push, get_or_past}
use Rattle.std.proofs.lemmas.List.Elements.{All-push, All-nil}
use Rattle.metrics_builtin.specs.declared.Space.{Space}
use Rattle.metrics_builtin.specs.Space.{IsValid}
use Rattle.store_check.specs.declared.profile.Profile.{Profile}
use Rattle.store_check.specs.Profile.{profile_in, IsInRange}
use Rattle.store_check.specs.Layout.{file_pages}
use Rattle.store_check.proofs.Reading.{read_in_range}
use Rattle.page_laws.specs.declared.rule.Rule.TheVariants as rule
use Rattle.store_core.specs.declared.errors.OpenError.{OpenError}
use Rattle.store_core.specs.declared.errors.OpenError.TheVariants as refusal
use Rattle.store_check.specs.Pivots.{pivot_at}
use Rattle.store_core.specs.Content.{HoldsProfile, RefusesContent, HoldsPivots, HoldsSoFar}

module _ (space : Space) (pages : ℕ → List ℕ) where
  pub none_so_far : HoldsSoFar space pages 0 []
  none_so_far = record { count = refl; each = λ i below. absurd (omega (arith, below)); objects = All-nil (IsValid space) }

  pub one_more : (many : ℕ) (pivots : List (List ℕ)) (object : List ℕ) → HoldsSoFar space pages many pivots → pivot_at pages many ≡ Some object
      → IsValid space object → HoldsSoFar space pages (many + 1) (pivots ++ object ∷ [])
  one_more many pivots object so_far reads valid = record {
    count = length_push pivots object ∙ ap (λ n. n + 1) so_far.count;
    each = λ i below. ⊎_elim
        (λ before. so_far.each i before ∙ ap Some (sym (get_or_append_left pivots (object ∷ []) [] i (subst (λ n. i < n) (sym so_far.count) before))))
        (λ past. let here : i ≡ many = omega (arith, below, past) in
        ap (pivot_at pages) here ∙ reads ∙ ap Some (sym (get_or_push pivots object [] i (so_far.count ∙ sym here))))
        (cases_lt i many);
    objects = All-push (IsValid space) pivots object so_far.objects valid;
  }

pub all_pivots : (profile : Profile) (pages : ℕ → List ℕ) (pivots : List (List ℕ)) → IsInRange profile
    → HoldsSoFar profile.space pages profile.pivots pivots → ((i : ℕ) → profile.pivots ≤ i → i < 8 → pivot_at pages i ≡ Some [])
    → HoldsPivots profile pages pivots
all_pivots profile pages pivots in_range so_far others = record {
  count = so_far.count;
  has = record {
    few = subst (λ n. n ≤ 8) (sym so_far.count) in_range.few_pivots;
    each = λ i below. ⊎_elim
        (λ before. so_far.each i before)
        (λ past. others i past below ∙ ap Some (sym (get_or_past pivots i [] (subst (λ n. n ≤ i) (sym so_far.count) past))))
        (cases_lt i profile.pivots);
  };
  objects = so_far.objects;
}

-- the profile that was read asks for as many pages or for others
pub profile_fits : (total : ℕ) (pages : ℕ → List ℕ) (profile : Profile) (result : Result Profile OpenError) → profile_in (pages 1) ≡ Some profile
    → MatchResult result (λ kept. (kept ≡ profile) × (file_pages profile.cap ≡ total))
    (λ e. (e ≡ refusal.Damaged 0 rule.Size) × (file_pages profile.cap ≡ total → ⊥))
    → MatchResult result (HoldsProfile total pages) (RefusesContent total pages)
profile_fits total pages profile (Ok kept) reads fit =
    let in_range = read_in_range (pages 1) profile reads in
    subst (HoldsProfile total pages) (sym fit.0) (record { reads = reads; in_range = in_range; total_is = fit.1 })
profile_fits total pages profile (Err e) reads other =
    subst (RefusesContent total pages) (sym other.0) (refl, record { profile = profile; reads = reads; other = other.1 })
