-- Which distances were computed, if that is known.
use Rattle.std.specs.Prelude.{◌≡◌, ℕ, List, ◌++◌, map, Option, Some, None}
use Rattle.std.specs.List.Sorted.{IsPermutation}
use Rattle.metric_laws.specs.Objects.{Object}

-- two objects that were measured, in this order
abbrev pub MeasuredPair : Type 0
MeasuredPair = List ℕ × List ℕ

-- Between two states of a log these pairs were measured: a log that is known now was known before, and has grown by
-- them. Of one that isn't known now, nothing is said.
abbrev pub LogExtends : Option (List MeasuredPair) → Option (List MeasuredPair) → List MeasuredPair → Type 0
LogExtends before None pairs = Unit {0}
LogExtends None (Some now) pairs = ⊥
LogExtends (Some before) (Some now) pairs = now ≡ before ++ pairs

-- Between two states of a log exactly these pairs were measured, in any order.
abbrev pub LogExtendsInAnyOrder : Option (List MeasuredPair) → Option (List MeasuredPair) → List MeasuredPair → Type 0
LogExtendsInAnyOrder before now pairs = (measured : List MeasuredPair) × IsPermutation pairs measured × LogExtends before now measured

-- one object with each of the others
abbrev pub each_with : List ℕ → List Object → List MeasuredPair
each_with object others = map (λ other. (object, other)) others
