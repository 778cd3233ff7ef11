-- Counts of faults: 64-bit numbers that stay at their last value.
use Rattle.std.specs.Prelude.{ℕ, ◌+◌, ◌-◌, ◌^◌, ◌≤◌, min, Result, Ok, Err}

-- one more, or the same at the last value
abbrev pub next_count : ℕ → ℕ
next_count n = min (n + 1) (2 ^ 64 - 1)

-- the count rose, or is at its last value
abbrev pub HasRisen : ℕ → ℕ → Type 0
HasRisen before now = next_count before ≤ now

-- the answer of a call that may fail: a failure is counted, and the count never falls
abbrev pub CountsError : {A E : Type 0} → Result A E → ℕ → ℕ → Type 0
CountsError (Ok _) before now = before ≤ now
CountsError (Err _) before now = (before ≤ now) × HasRisen before now
