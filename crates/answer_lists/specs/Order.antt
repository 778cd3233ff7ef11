-- Lists in order.
use Rattle.std.specs.Prelude.{ℕ, Bool, List, [], ◌∷◌, if◌then◌else◌}
use Rattle.std.specs.Ordering.{is_lt, nat_cmp, ordering_then}

-- a pair before another: by the first part, then by the second
abbrev pub goes_before : ℕ × ℕ → ℕ × ℕ → Bool
goes_before a b = is_lt (ordering_then (nat_cmp a.0 b.0) (nat_cmp a.1 b.1))

-- the list with the item in its place: after all that go before it, and before the others
abbrev pub with_inserted : {A : Type 0} → (A → A → Bool) → A → List A → List A
with_inserted before x [] = x ∷ []
with_inserted before x (y ∷ ys) = if before y x then y ∷ with_inserted before x ys else x ∷ y ∷ ys

-- the items in order
unfoldable pub sorted_by : {A : Type 0} → (A → A → Bool) → List A → List A
sorted_by before [] = []
sorted_by before (x ∷ xs) = with_inserted before x (sorted_by before xs)
