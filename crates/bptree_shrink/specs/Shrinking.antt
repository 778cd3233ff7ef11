-- Entries without one of them, and what becomes of a root that has fewer rows.
use Rattle.std.specs.Prelude.{◌≡◌, ℕ, ◌+◌, List, [], ◌∷◌, ◌++◌}
use Rattle.page_laws.specs.declared.root.Root.{Root}
use Rattle.bptree_node.specs.declared.rows.Entry.{Entry}
use Rattle.bptree_node.specs.declared.rows.Branch.{Branch}
use Rattle.bptree_node.specs.Nodes.{Node, Leaf, Inner}
use Rattle.bptree_edit.specs.NodesAt.{times}
use Rattle.bptree_edit.specs.Steps.{IsWritten}

-- the new list is the old one without the entry of this key and id, which has this slot
pub record IsWithout (key id slot : ℕ) (old new : List Entry) : Type 0 where
  pub before : List Entry
  pub after : List Entry
  pub were : old ≡ before ++ record { key = key; id = id; slot = slot } ∷ after
  pub are : new ≡ before ++ after

-- the root stays and has these rows
pub record Stays (root : Root) (node : Node) (old new : ℕ → List ℕ) (old_free new_free : List ℕ) (above : Root) : Type 0 where
  pub same : above ≡ root
  pub written : IsWritten root.page node old new
  pub free : new_free ≡ old_free

-- the root's page is free, and another root stands for it
pub record GivesWay (root : Root) (page height : ℕ) (old new : ℕ → List ℕ) (old_free new_free : List ℕ) (above : Root) : Type 0 where
  pub place : above.page ≡ page
  pub lower : above.height ≡ height
  pub contents : new ≡ old
  pub given : (m : ℕ) → times m new_free ≡ times m (root.page ∷ old_free)

-- a leaf without entries gives way to the empty tree
abbrev pub SettlesLeaf : Root → List Entry → (old new : ℕ → List ℕ) → (old_free new_free : List ℕ) → Root → Type 0
SettlesLeaf root [] old new old_free new_free above = GivesWay root 0 0 old new old_free new_free above
SettlesLeaf root (e ∷ es) old new old_free new_free above = Stays root (Leaf (e ∷ es)) old new old_free new_free above

-- an inner node of one branch gives way to the node under it
abbrev pub SettlesInner : Root → List Branch → (old new : ℕ → List ℕ) → (old_free new_free : List ℕ) → Root → Type 0
SettlesInner root [] old new old_free new_free above = ⊥
SettlesInner root (b ∷ []) old new old_free new_free above = (above.height + 1 ≡ root.height) × GivesWay root b.child above.height old new old_free new_free above
SettlesInner root (b ∷ c ∷ cs) old new old_free new_free above = Stays root (Inner (b ∷ c ∷ cs)) old new old_free new_free above
