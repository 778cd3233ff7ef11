-- The root of a tree in the queue.
use Rattle.std.specs.Prelude.{◌≡◌, ℕ, zero, suc, ◌<◌, List, [], ◌∷◌, IsTrue}
use Rattle.page_laws.specs.declared.errors.TreeError.{TreeError}
use Rattle.page_laws.specs.declared.errors.TreeError.TheVariants as tree
use Rattle.page_laws.specs.declared.rule.Rule.TheVariants as rule
use Rattle.bptree_walk.specs.Damage.{IsLostRoot}
use Rattle.near_search.specs.declared.queue.Kind.TheVariants.{Node}
use Rattle.near_search.specs.declared.queue.Waiting.{Waiting}
use Rattle.shelf_tree.specs.Contents.{TreeContent}

-- the root as an item, if the tree isn't empty
abbrev pub root_items : (height page : ℕ) → List Waiting
root_items zero page = []
root_items (suc l) page = record { bound = 0; kind = Node l; place = page } ∷ []

-- the root is live and alone in the queue, or the tree is empty and so is the queue
pub record IsRootQueue (s : TreeContent) (items : List Waiting) : Type 0 where
  pub are : items ≡ root_items s.root.height s.root.page
  pub live : 0 < s.root.height → IsTrue (s.is_live s.root.page)

-- what is said to be damaged is the root, which isn't live
abbrev pub IsRootCause : TreeContent → TreeError → Type 0
IsRootCause s (tree.Damaged page r) = (r ≡ rule.Page) × IsLostRoot s.is_live s.root page
IsRootCause s tree.Fault = ⊥
IsRootCause s tree.Memory = Unit {0}
