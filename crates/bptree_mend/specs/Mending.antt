-- What two neighbours become, of which one has too few rows, and what that does to the pages.
use Rattle.std.specs.Prelude.{◌≡◌, ℕ, ◌+◌, ◌≤◌, Bool, List, ◌∷◌, length, take, drop, Some, Result, Ok, Err}
use Rattle.page_laws.specs.declared.errors.TreeError.{TreeError}
use Rattle.page_laws.specs.Calls.{PagesChange}
use Rattle.bptree_node.specs.Nodes.{Node, node_in}
use Rattle.bptree_edit.specs.declared.part.Part.{Part}
use Rattle.bptree_edit.specs.NodesAt.{times}
use Rattle.bptree_edit.specs.Steps.{IsWritten}
use Rattle.bptree_mend.specs.declared.mended.Mended.{Mended}
use Rattle.bptree_mend.specs.declared.mended.Mended.TheVariants.{Joined, Evened}

-- of pages that a change puts and gives back, what goes on whatever a call answers: none was taken, and at most so many
-- were given back and put
pub record PagesShrink {P : Type 0} (is_known : P → Bool) (has in_pool : P → ℕ → Bool) (free : P → List ℕ) (is_open : P → Bool) (put_pages : P → List ℕ)
    (calm : P → P → Type 0) (gives puts : ℕ) (old new : P) : Type 0 where
  pub change : PagesChange is_known has in_pool is_open calm old new
  pub given : length (free new) ≤ length (free old) + gives
  pub more : (n : ℕ) → times n (free old) ≤ times n (free new)
  pub put : length (put_pages new) ≤ length (put_pages old) + puts

-- the two pages are the nodes, and the others are as they were
pub record AreWritten (left : ℕ) (node : Node) (right : ℕ) (other : Node) (old new : ℕ → List ℕ) : Type 0 where
  pub here : node_in (new left) ≡ Some node
  pub there : node_in (new right) ≡ Some other
  pub others : (m : ℕ) → (m ≡ left → ⊥) → (m ≡ right → ⊥) → new m ≡ old m

-- the first page is the node of all rows, and the second one is free
pub record AreJoined {A S : Type 0} (node_of : List A → Node) (is_part : ℕ → List A → Part S → Type 0) (most left right : ℕ) (rows : List A) (old new : ℕ → List ℕ)
    (old_free new_free : List ℕ) (part : Part S) : Type 0 where
  pub few : length rows ≤ most
  pub is : is_part left rows part
  pub written : IsWritten left (node_of rows) old new
  pub given : (m : ℕ) → times m new_free ≡ times m (right ∷ old_free)

-- the pages share the rows, in their order, and each has enough
pub record AreEvened {A S : Type 0} (node_of : List A → Node) (is_part : ℕ → List A → Part S → Type 0) (least most left right : ℕ) (rows : List A) (old new : ℕ → List ℕ)
    (old_free new_free : List ℕ) (one two : Part S) : Type 0 where
  pub at : ℕ
  pub first_enough : least ≤ at
  pub second_enough : at + least ≤ length rows
  pub first_few : at ≤ most
  pub second_few : length rows ≤ at + most
  pub first : is_part left (take at rows) one
  pub second : is_part right (drop at rows) two
  pub written : (left ≡ right → ⊥) → AreWritten left (node_of (take at rows)) right (node_of (drop at rows)) old new
  pub free : new_free ≡ old_free

-- what the neighbours of these rows became
abbrev pub Mends : {A S : Type 0} → (node_of : List A → Node) → (is_part : ℕ → List A → Part S → Type 0) → (least most left right : ℕ) → (rows : List A) → (old new : ℕ → List ℕ)
    → (old_free new_free : List ℕ) → Result (Mended S) TreeError → Type 0
Mends node_of is_part least most left right rows old new old_free new_free (Ok (Joined part)) = AreJoined node_of is_part most left right rows old new old_free new_free part
Mends node_of is_part least most left right rows old new old_free new_free (Ok (Evened one two)) =
    AreEvened node_of is_part least most left right rows old new old_free new_free one two
Mends node_of is_part least most left right rows old new old_free new_free (Err _) = Unit {0}

-- the summaries are made of entries, of branches or by joining
abbrev pub AreMade : {S : Type 0} → (S → Type 0) → Mended S → Type 0
AreMade is_made (Joined part) = is_made part.summary
AreMade is_made (Evened one two) = is_made one.summary × is_made two.summary
