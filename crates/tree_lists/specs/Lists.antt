-- The entries of a store's trees, by what the slots hold.
use Rattle.std.specs.Prelude.{ℕ, List, map}
use Rattle.answer_lists.specs.Order.{sorted_by}
use Rattle.bptree_node.specs.declared.rows.Entry.{Entry}
use Rattle.store_check.specs.Stands.{Placed}
use Rattle.tree_state.specs.TreeEntries.{entry_before, in_collection}

-- the entry of an object whose key is a function of its id and its bytes
abbrev pub entry_of : (ℕ → List ℕ → ℕ) → Placed → Entry
entry_of key_of p = record { key = key_of p.id p.object; id = p.id; slot = p.slot }

-- the entries of a collection's objects with these keys, in order
abbrev pub collection_entries : (ℕ → List ℕ → ℕ) → ℕ → List Placed → List Entry
collection_entries key_of c ps = sorted_by entry_before (map (entry_of key_of) (in_collection c ps))

-- the key of an object in an id tree
abbrev pub id_key : ℕ → List ℕ → ℕ
id_key id object = id
