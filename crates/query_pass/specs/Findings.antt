-- What a pass over rows, or pairs of rows, finds.
use Rattle.std.specs.Prelude.{◌≡◌, ℕ, ◌+◌, ◌++◌, List, map, filter, count_by, Option}
use Rattle.metric_laws.specs.Log.{MeasuredPair, LogExtends}
use Rattle.query_pass.specs.declared.verdict.Verdict.{Verdict}
use Rattle.query_pass.specs.declared.found.Found.{Found}
use Rattle.query_pass.specs.Verdicts.{is_within, was_measured, was_sure}

-- Between two states of what was found these were passed over: those within were kept by their names, and those that
-- were measured and those that were sure were counted.
pub record PassesOver {A K : Type 0} (verdict : A → Verdict) (name : A → K) (passed : List A) (before after : Found K) : Type 0 where
  pub kept : after.kept.items ≡ before.kept.items ++ map name (filter (λ a. is_within (verdict a)) passed)
  pub evals : after.evals ≡ before.evals + count_by (λ a. was_measured (verdict a)) passed
  pub sure : after.sure ≡ before.sure + count_by (λ a. was_sure (verdict a)) passed

-- Meanwhile the objects of those that were measured were measured, and counted.
pub record MeasuresOpen {A : Type 0} (verdict : A → Verdict) (objects : A
    → MeasuredPair) (passed : List A) (count : ℕ) (log : Option (List MeasuredPair)) (count' : ℕ) (log' : Option (List MeasuredPair)) : Type 0 where
  pub counted : count' ≡ count + count_by (λ a. was_measured (verdict a)) passed
  pub logged : LogExtends log log' (map objects (filter (λ a. was_measured (verdict a)) passed))

-- Between two states of what was found nothing was kept or counted.
pub record IsUnchanged {K : Type 0} (before after : Found K) : Type 0 where
  pub kept : after.kept.items ≡ before.kept.items
  pub evals : after.evals ≡ before.evals
  pub sure : after.sure ≡ before.sure
