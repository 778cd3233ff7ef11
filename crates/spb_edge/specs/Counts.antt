-- Counts of what passes a test.
use Rattle.std.specs.Prelude.{ℕ, Bool, if◌then◌else◌}

-- 1 if the test passes
abbrev pub one_if : Bool → ℕ
one_if passes = if passes then 1 else 0
