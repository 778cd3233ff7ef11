-- What an error of a check says of a tree whose entries are to match.
use Rattle.std.proofs.Common.{◌≡◌, ℕ, zero, suc, ◌+◌, Bool, List, Ok, refl, sym, subst, arith}
use Rattle.std.specs.Prelude.{IsTrue, Contains, Option, Some, None}
use Rattle.page_laws.specs.declared.errors.TreeError.{TreeError}
use Rattle.page_laws.specs.declared.errors.TreeError.TheVariants as tree
use Rattle.page_laws.specs.declared.root.Root.{Root}
use Rattle.page_laws.specs.declared.rule.Rule.{Rule}
use Rattle.page_laws.specs.declared.rule.Rule.TheVariants as rule
use Rattle.page_laws.specs.Errors.{TellsNoDamage}
use Rattle.bptree_node.specs.declared.rows.Entry.{Entry}
use Rattle.bptree_node.specs.Nodes.{Node, Leaf, Inner, node_in}
use Rattle.bptree_node.specs.Summaries.{HasCorners}
use Rattle.bptree_node.specs.Trees.{node_entries, list_at}
use Rattle.bptree_edit.specs.NodesAt.{times, list_under, pages_under}
use Rattle.tree_check.specs.PageSets.{Marks, uses}
use Rattle.tree_check.specs.Damage.{Breaks}
use Rattle.tree_check.specs.Checks.{ChecksTree, TellsBreakAt}
use Rattle.slot_notes.specs.declared.notes.SlotNote.{SlotNote}
use Rattle.entry_match.specs.Matching.{is_match, tested_box}
use Rattle.entry_match.specs.Mismatches.{HasBroken, BreaksMatch, BreaksMatchAt, TellsMismatch, MatchesTree, key_page}
use Rattle.entry_match.proofs.Testing.{boxed-pass, box-plain, sound-plain}

module _ {S : Type 0} (joined : S → S → S) (entry_box : Entry → Option S) (keys : S → ℕ × ℕ) (notes : List SlotNote) (c : ℕ) (by_key : Bool) (pages : ℕ → List ℕ) (live : ℕ → Bool) where
  abbrev test : Entry → Bool
  test = is_match notes c by_key

  -- ---- one node

  module _ (reached : ℕ → ℕ) (l n page : ℕ) where
    abbrev With : Rule → Type 0
    With r = Breaks (tested_box entry_box test) (HasCorners joined (tested_box entry_box test) keys) pages live reached 1 l n page r

    -- what a check with the test says, of any rule but that of keys
    pub other-rules : (r : Rule) → key_page (tree.Damaged page r) ≡ None → With r → BreaksMatch joined entry_box keys notes c by_key pages live reached l n page r
    other-rules rule.Size other none = none
    other-rules rule.Journal other none = none
    other-rules rule.Profile other none = none
    other-rules rule.Pivot other none = none
    other-rules rule.Page other is = is
    other-rules rule.Node other is = is
    other-rules rule.Fill other is = is
    other-rules rule.Order other is = is
    other-rules rule.Key other is = absurd (cc)
    other-rules rule.Box other is =
        let plain = box-plain joined entry_box keys test (list_under pages is.level is.branch.child) is.branch.low is.branch.high is.boxed is.other in
        record { level = is.level; placed = is.placed; branch = is.branch; among = is.among; boxed = plain.0; other = plain.1 }
    other-rules rule.Slot other none = absurd none
    other-rules rule.Match other none = none

    -- of the rule of keys, once it is known which rule an entry of the leaf breaks
    pub key-rule : (r : Rule) → With rule.Key → HasBroken entry_box notes c by_key (node_entries (node_in (pages page))) r
        → BreaksMatch joined entry_box keys notes c by_key pages live reached l n page r
    key-rule rule.Size is broken = broken.breaks
    key-rule rule.Journal is broken = broken.breaks
    key-rule rule.Profile is broken = broken.breaks
    key-rule rule.Pivot is broken = broken.breaks
    key-rule rule.Page is broken = absurd broken.breaks
    key-rule rule.Node is broken = absurd broken.breaks
    key-rule rule.Fill is broken = absurd broken.breaks
    key-rule rule.Order is broken = absurd broken.breaks
    key-rule rule.Key is broken = record { placed = is.placed; alive = is.alive; entries = broken }
    key-rule rule.Box is broken = absurd broken.breaks
    key-rule rule.Slot is broken = record { placed = is.placed; alive = is.alive; entries = broken }
    key-rule rule.Match is broken = broken.breaks

  -- ---- a tree

  module _ (used : Marks) (root : Root) where
    abbrev pub WithTest : TreeError → Type 0
    WithTest why = TellsBreakAt (tested_box entry_box test) (HasCorners joined (tested_box entry_box test) keys) pages live used root.height root.page why

    other-at : (height page : ℕ) (r : Rule) → key_page (tree.Damaged page r) ≡ None
        → TellsBreakAt (tested_box entry_box test) (HasCorners joined (tested_box entry_box test) keys) pages live used height root.page (tree.Damaged page r)
        → BreaksMatchAt joined entry_box keys notes c by_key pages live used height root.page page r
    other-at zero page r other is = is
    other-at (suc l) page r other is = other-rules (λ m. uses used m + times m (pages_under pages l root.page)) l root.page page r other is

    pub other-tells : (why : TreeError) → key_page why ≡ None → WithTest why → TellsMismatch joined entry_box keys notes c by_key pages live used root why
    other-tells (tree.Damaged page r) other is = other-at root.height page r other is
    other-tells tree.Fault other is = tt
    other-tells tree.Memory other is = tt

    -- a leaf with an entry that has no box, where the rule of keys is named
    pub record IsForeign (page : ℕ) : Type 0 where
      pub alive : IsTrue (live page)
      pub entry : Entry
      pub among : Contains (node_entries (node_in (pages page))) entry
      pub none : tested_box entry_box test entry ≡ None
      pub named : (r : Rule) → HasBroken entry_box notes c by_key (node_entries (node_in (pages page))) r
          → BreaksMatchAt joined entry_box keys notes c by_key pages live used root.height root.page page r

    foreign-at : (height page : ℕ) → root.height ≡ height
        → TellsBreakAt (tested_box entry_box test) (HasCorners joined (tested_box entry_box test) keys) pages live used height root.page (tree.Damaged page rule.Key) → IsForeign page
    foreign-at zero page high is = absurd is
    foreign-at (suc l) page high is = record {
      alive = is.alive;
      entry = is.entry;
      among = is.among;
      none = is.none;
      named = λ r broken. subst (λ (h : ℕ). BreaksMatchAt joined entry_box keys notes c by_key pages live used h root.page page r) (sym high)
          (key-rule (λ m. uses used m + times m (pages_under pages l root.page)) l root.page page r is broken);
    }

    pub foreign-tells : (why : TreeError) (page : ℕ) → key_page why ≡ Some page → WithTest why → IsForeign page
    foreign-tells (tree.Damaged page rule.Size) n found is = absurd (cc)
    foreign-tells (tree.Damaged page rule.Journal) n found is = absurd (cc)
    foreign-tells (tree.Damaged page rule.Profile) n found is = absurd (cc)
    foreign-tells (tree.Damaged page rule.Pivot) n found is = absurd (cc)
    foreign-tells (tree.Damaged page rule.Page) n found is = absurd (cc)
    foreign-tells (tree.Damaged page rule.Node) n found is = absurd (cc)
    foreign-tells (tree.Damaged page rule.Fill) n found is = absurd (cc)
    foreign-tells (tree.Damaged page rule.Order) n found is = absurd (cc)
    foreign-tells (tree.Damaged page rule.Key) n found is = let same : page ≡ n = cc in subst IsForeign same (foreign-at root.height page refl is)
    foreign-tells (tree.Damaged page rule.Box) n found is = absurd (cc)
    foreign-tells (tree.Damaged page rule.Slot) n found is = absurd (cc)
    foreign-tells (tree.Damaged page rule.Match) n found is = absurd (cc)
    foreign-tells tree.Fault n found is = absurd (cc)
    foreign-tells tree.Memory n found is = absurd (cc)

    -- no damage is named in place of the leaf's
    pub calm-tells : (why : TreeError) → TellsNoDamage why → TellsMismatch joined entry_box keys notes c by_key pages live used root why
    calm-tells (tree.Damaged page r) calm = absurd calm
    calm-tells tree.Fault calm = tt
    calm-tells tree.Memory calm = tt

    -- a tree that was checked
    pub checked-matches : (new_used : Marks) (old new : List Entry) → ChecksTree joined (tested_box entry_box test) keys pages live root used new_used old new (Ok tt)
        → MatchesTree joined entry_box keys notes c by_key pages live root used new_used old new (Ok tt)
    checked-matches new_used old new checks = (
      record {
        sound = sound-plain joined entry_box keys test pages live used root checks.0;
        matched = boxed-pass joined entry_box keys test (list_at pages root) checks.0.keys_are;
      },
      checks.1,
    )

-- ---- leaves

-- a node with an entry is a leaf
pub leaf-of : (o : Option Node) (e : Entry) → Contains (node_entries o) e → (es : List Entry) × (o ≡ Some (Leaf es))
leaf-of (Some (Leaf es)) e among = (es, refl)
leaf-of (Some (Inner bs)) e among = absurd (omega (arith, among.1))
leaf-of None e among = absurd (omega (arith, among.1))
