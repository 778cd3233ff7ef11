-- The verdict on two objects and a radius: by their vectors and, if these leave it open, by their distance.
use Rattle.std.specs.Prelude.{ℕ, Bool, true, false, if◌then◌else◌}
use Rattle.pivot_map.specs.declared.verdict.PairTest.{PairTest}
use Rattle.pivot_map.specs.declared.verdict.PairTest.TheVariants as test
use Rattle.query_pass.specs.declared.verdict.Verdict.{Verdict}
use Rattle.query_pass.specs.declared.verdict.Verdict.TheVariants.{Apart, Sure, Measured}

-- the verdict, by what the vectors show and whether the distance is within the radius
abbrev pub verdict_of : PairTest → Bool → Verdict
verdict_of test.Apart within = Apart
verdict_of test.Sure within = Sure
verdict_of test.Open within = Measured within

-- the objects are within the radius of each other
abbrev pub is_within : Verdict → Bool
is_within Apart = false
is_within Sure = true
is_within (Measured within) = within

-- their distance was measured
abbrev pub was_measured : Verdict → Bool
was_measured Apart = false
was_measured Sure = false
was_measured (Measured within) = true

-- they are within by the pivots alone
abbrev pub was_sure : Verdict → Bool
was_sure Apart = false
was_sure Sure = true
was_sure (Measured within) = false
