-- Words of the worked rows.
use Rattle.std.specs.Prelude.{ℕ, ◌+◌, List, [], ◌∷◌, nat_lt, min, max, if◌then◌else◌, Option, Some, None}
use Rattle.bptree_node.specs.declared.rows.Entry.{Entry}
use Rattle.bptree_node.specs.Summaries.{summary_of}

-- the entry of a key and an id, in the slot of the id's number
abbrev pub entry : ℕ → ℕ → Entry
entry key id = record { key = key; id = id; slot = 10 + id }

-- two entries of one key, and one behind them
abbrev pub three : List Entry
three = entry 5 1 ∷ entry 5 3 ∷ entry 7 1 ∷ []

-- the least and the greatest of keys below 100
abbrev span : Entry → Option (ℕ × ℕ)
span e = if nat_lt e.key 100 then Some (e.key, e.key) else None

abbrev joined : ℕ × ℕ → ℕ × ℕ → ℕ × ℕ
joined (low, high) (low', high') = (min low low', max high high')

abbrev pub span_of : List Entry → Option (ℕ × ℕ)
span_of entries = summary_of joined span entries
