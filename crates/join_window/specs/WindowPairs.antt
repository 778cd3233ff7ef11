-- The pairs of entries in key order that a window is to find.
use Rattle.std.specs.Prelude.{◌≡◌, ℕ, ◌≤◌, Bool, nat_le, List, [], ◌∷◌, ◌++◌, map, filter}
use Rattle.join_window.specs.declared.window.Reaching.{Reaching}

-- each of the later items with each that stands before it, these being the first ones
abbrev pub pairs_behind : {A : Type 0} → List A → List A → List (A × A)
pairs_behind earlier [] = []
pairs_behind earlier (later ∷ rest) = map (λ a. (a, later)) earlier ++ pairs_behind (earlier ++ (later ∷ [])) rest

-- all pairs of an earlier item and a later one
abbrev pub ordered_pairs : {A : Type 0} → List A → List (A × A)
ordered_pairs items = pairs_behind [] items

-- the entry reaches a key
abbrev pub reaches : ℕ → Reaching → Bool
reaches key e = nat_le key e.upper

-- the earlier entry reaches the later one's key
abbrev pub is_window_pair : Reaching × Reaching → Bool
is_window_pair p = reaches p.1.entry.key p.0

-- the pairs of an earlier entry and a later one that it reaches
abbrev pub window_pairs : List Reaching → List (Reaching × Reaching)
window_pairs entries = filter is_window_pair (ordered_pairs entries)

-- from this key on the window holds exactly those of the entries so far that reach a key
abbrev pub HoldsFrom : ℕ → List Reaching → List Reaching → Type 0
HoldsFrom least window seen = (key : ℕ) → least ≤ key → filter (reaches key) window ≡ filter (reaches key) seen
