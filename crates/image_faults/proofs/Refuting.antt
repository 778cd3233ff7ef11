-- In a tree that is sound and whose entries match their slots no page breaks a rule.
use Rattle.std.proofs.Common.{◌≡◌, inl, inr, ℕ, zero, suc, ◌+◌, Bool, true, false, not, ◌&&◌, ◌||◌, refl, sym, subst}
use Rattle.std.specs.Prelude.{if◌then◌else◌, List, Option, None}
use Rattle.std.specs.List.{slice_get}
use Rattle.page_laws.specs.declared.errors.TreeError.TheVariants as tree
use Rattle.page_laws.specs.declared.root.Root.{Root}
use Rattle.page_laws.specs.declared.rule.Rule.{Rule}
use Rattle.page_laws.specs.declared.rule.Rule.TheVariants as rule
use Rattle.bptree_node.specs.declared.rows.Entry.{Entry}
use Rattle.bptree_node.specs.Summaries.{HasCorners}
use Rattle.bptree_edit.specs.NodesAt.{times, pages_under}
use Rattle.tree_check.specs.PageSets.{Marks, uses}
use Rattle.tree_check.specs.Damage.{Breaks}
use Rattle.tree_check.specs.Checks.{TellsBreakAt}
use Rattle.tree_check.proofs.Sound.{sound-tells}
use Rattle.slot_notes.specs.declared.notes.SlotNote.{SlotNote}
use Rattle.entry_match.specs.Matching.{is_named, is_keyed, is_match, tested_box}
use Rattle.entry_match.specs.Mismatches.{BreaksEntry, BreaksMatch, BreaksMatchAt, TellsMismatch, IsMatchedTree}
use Rattle.entry_match.proofs.Testing.{sound-tested, none-tested}

-- an entry that breaks one of the rules of entries has no box with the test
failed : {S : Type 0} (b : Bool) (o : Option S) → b ≡ false → (if b then o else None) ≡ None
failed true o is = absurd (cc)
failed false o is = refl

not_named : (a b k : Bool) → a ≡ false → (a && (not b || k)) ≡ false
not_named true b k is = absurd (cc)
not_named false b k is = refl

not_keyed : (a b k : Bool) → b ≡ true → k ≡ false → (a && (not b || k)) ≡ false
not_keyed true true k on is = is
not_keyed true false k on is = absurd (cc)
not_keyed false b k on is = refl

module _ {S : Type 0} (joined : S → S → S) (entry_box : Entry → Option S) (keys : S → ℕ × ℕ) (notes : List SlotNote) (c : ℕ) (by_key : Bool) (pages : ℕ → List ℕ) (live : ℕ → Bool)
    (used : Marks) (root : Root) (is : IsMatchedTree joined entry_box keys notes c by_key pages live used root) where
  abbrev test : Entry → Bool
  test = is_match notes c by_key

  abbrev Reached : ℕ → ℕ → ℕ
  Reached l m = uses used m + times m (pages_under pages l root.page)

  stray : (e : Entry) → is_named c e (slice_get notes e.slot) ≡ false → tested_box entry_box test e ≡ None
  stray e none = failed (test e) (entry_box e) (not_named (is_named c e (slice_get notes e.slot)) by_key (is_keyed e (slice_get notes e.slot)) none)

  misnamed : (e : Entry) → BreaksEntry entry_box notes c by_key e rule.Key → tested_box entry_box test e ≡ None
  misnamed e (inl none) = none-tested joined entry_box keys test e none
  misnamed e (inr wrong) =
      failed (test e) (entry_box e) (not_keyed (is_named c e (slice_get notes e.slot)) by_key (is_keyed e (slice_get notes e.slot)) wrong.1 wrong.2)

  plain_none : (l page : ℕ) (r : Rule) → root.height ≡ suc l → Breaks entry_box (HasCorners joined entry_box keys) pages live (Reached l) 1 l root.page page r → ⊥
  plain_none l page r high breaks =
      sound-tells joined entry_box keys pages live used root l high is.sound (tree.Damaged page r)
      (subst (λ (h : ℕ). TellsBreakAt entry_box (HasCorners joined entry_box keys) pages live used h root.page (tree.Damaged page r)) (sym high) breaks)

  tested_none : (l page : ℕ) → root.height ≡ suc l
      → Breaks (tested_box entry_box test) (HasCorners joined (tested_box entry_box test) keys) pages live (Reached l) 1 l root.page page rule.Key → ⊥
  tested_none l page high breaks =
      sound-tells joined (tested_box entry_box test) keys pages live used root l high (sound-tested joined entry_box keys test pages live used root is.sound is.matched) (tree.Damaged page rule.Key)
      (subst (λ (h : ℕ). TellsBreakAt (tested_box entry_box test) (HasCorners joined (tested_box entry_box test) keys) pages live used h root.page (tree.Damaged page rule.Key)) (sym high) breaks)

  by_rule : (l page : ℕ) (r : Rule) → root.height ≡ suc l → BreaksMatch joined entry_box keys notes c by_key pages live (Reached l) l root.page page r → ⊥
  by_rule l page rule.Size high breaks = breaks
  by_rule l page rule.Journal high breaks = breaks
  by_rule l page rule.Profile high breaks = breaks
  by_rule l page rule.Pivot high breaks = breaks
  by_rule l page rule.Page high breaks = plain_none l page rule.Page high breaks
  by_rule l page rule.Node high breaks = plain_none l page rule.Node high breaks
  by_rule l page rule.Fill high breaks = plain_none l page rule.Fill high breaks
  by_rule l page rule.Order high breaks = plain_none l page rule.Order high breaks
  by_rule l page rule.Key high breaks =
      tested_none l page high (record {
        placed = breaks.placed;
        alive = breaks.alive;
        entry = breaks.entries.entry;
        among = breaks.entries.among;
        none = misnamed breaks.entries.entry breaks.entries.breaks;
      })
  by_rule l page rule.Box high breaks = plain_none l page rule.Box high breaks
  by_rule l page rule.Slot high breaks =
      tested_none l page high (record {
        placed = breaks.placed;
        alive = breaks.alive;
        entry = breaks.entries.entry;
        among = breaks.entries.among;
        none = stray breaks.entries.entry breaks.entries.breaks;
      })
  by_rule l page rule.Match high breaks = breaks

  at_height : (height page : ℕ) (r : Rule) → root.height ≡ height → BreaksMatchAt joined entry_box keys notes c by_key pages live used height root.page page r → ⊥
  at_height zero page r high breaks = breaks
  at_height (suc l) page r high breaks = by_rule l page r high breaks

  pub matched-refutes : (page : ℕ) (r : Rule) → TellsMismatch joined entry_box keys notes c by_key pages live used root (tree.Damaged page r) → ⊥
  matched-refutes page r tells = at_height root.height page r refl tells
