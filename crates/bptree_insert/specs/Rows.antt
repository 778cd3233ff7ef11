-- The order of keys and ids, and rows that are put among others.
use Rattle.std.specs.Prelude.{◌≡◌, Bool, IsTrue, List, ◌∷◌, ◌++◌}
use Rattle.std.specs.List.{AllByRecursion}
use Rattle.bptree_node.specs.declared.rows.Entry.{Entry}
use Rattle.bptree_node.specs.Trees.{goes_before}

-- whether an entry goes before another one
abbrev pub entry_before : Entry → Entry → Bool
entry_before e f = goes_before e.key e.id f.key f.id

-- the new list is the old one with the entry behind all that go before it, and before all others
pub record IsPlaced (e : Entry) (old new : List Entry) : Type 0 where
  pub before : List Entry
  pub after : List Entry
  pub were : old ≡ before ++ after
  pub are : new ≡ before ++ e ∷ after
  pub lower : AllByRecursion (λ (f : Entry). IsTrue (entry_before f e)) before
  pub upper : AllByRecursion (λ (f : Entry). IsTrue (entry_before e f)) after
