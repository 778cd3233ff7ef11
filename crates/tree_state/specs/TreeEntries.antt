-- The entries by which the trees of a collection name the slots of its objects.
use Rattle.std.specs.Prelude.{ℕ, ◌==◌, Bool, List, map, filter}
use Rattle.answer_lists.specs.Order.{sorted_by}
use Rattle.metric_laws.specs.Objects.{Object}
use Rattle.bptree_node.specs.declared.rows.Entry.{Entry}
use Rattle.bptree_node.specs.Trees.{goes_before}
use Rattle.store_check.specs.Stands.{Placed}

-- whether an entry goes before another one: by the key, then by the id
abbrev pub entry_before : Entry → Entry → Bool
entry_before e f = goes_before e.key e.id f.key f.id

-- the entry of a slot's object in an id tree, whose key is the id
abbrev pub id_entry : Placed → Entry
id_entry p = record { key = p.id; id = p.id; slot = p.slot }

-- the same in a curve tree, by the key that an object has
abbrev pub curve_entry : (Object → ℕ) → Placed → Entry
curve_entry key_of p = record { key = key_of p.object; id = p.id; slot = p.slot }

-- those of the objects that are in the collection
abbrev pub in_collection : ℕ → List Placed → List Placed
in_collection c placed = filter (λ (p : Placed). p.collection == c) placed

-- the entries of a collection's id tree, and those of its curve tree
abbrev pub id_entries : ℕ → List Placed → List Entry
id_entries c placed = sorted_by entry_before (map id_entry (in_collection c placed))

abbrev pub curve_entries : (Object → ℕ) → ℕ → List Placed → List Entry
curve_entries key_of c placed = sorted_by entry_before (map (curve_entry key_of) (in_collection c placed))
