-- The entries of a tree with how far they reach, and the pairs that a merge join over one tree tests.
use Rattle.std.specs.Prelude.{ℕ, ◌≤◌, List, [], ◌∷◌, ◌++◌, map, filter, AllPairs}
use Rattle.bptree_node.specs.declared.rows.Entry.{Entry}
use Rattle.join_window.specs.WindowPairs.{reaches}
use Rattle.join_window.specs.declared.window.Reaching.{Reaching}
use Rattle.join_step.specs.declared.placing.Placing.TheVariants.{ByIds}
use Rattle.join_step.specs.Meetings.{reaching, placed, pairs_with}

-- the entries, each with its cell and how far it reaches
abbrev pub reaching_all : (axes bits radius : ℕ) → List Entry → List Reaching
reaching_all axes bits radius entries = map (reaching axes bits radius) entries

-- the pairs of each entry that comes with those that it finds in the window and that reach its key
abbrev pub tested : List Reaching → List Reaching → List (Reaching × Reaching)
tested window [] = []
tested window (e ∷ coming) =
    pairs_with ByIds e (filter (reaches e.entry.key) window) ++ tested (filter (reaches e.entry.key) window ++ (e ∷ [])) coming

-- a pair with the lesser id on the left
abbrev pub by_ids : Reaching × Reaching → Reaching × Reaching
by_ids p = placed ByIds p.0 p.1

-- the keys don't fall
abbrev pub KeysRise : List Reaching → Type 0
KeysRise entries = AllPairs (λ (a b : Reaching). a.entry.key ≤ b.entry.key) entries
