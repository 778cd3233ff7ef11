-- Trees checked one after another.
use Rattle.std.proofs.Common.{◌≡◌, inl, inr, ℕ, zero, suc, ◌+◌, ◌<◌, ◌≤◌, ◌==◌, Bool, true, ◌&&◌, ◌||◌, List, [], Ok, ap, subst, ◌∙◌, arith}
use Rattle.std.specs.Prelude.{nat_lt, nat_le, IsTrue, All, Option, if◌then◌else◌}
use Rattle.std.proofs.lemmas.Bool.{cases_lt}
use Rattle.std.proofs.lemmas.Bool.Decides.{nat_tests}
use Rattle.page_laws.specs.declared.errors.TreeError.{TreeError}
use Rattle.page_laws.specs.declared.root.Root.{Root}
use Rattle.page_laws.specs.Pages.{is_among}
use Rattle.bptree_edit.specs.Changes.{HaveBoxes}
use Rattle.bptree_node.specs.declared.rows.Entry.{Entry}
use Rattle.bptree_node.specs.Summaries.{HasCorners}
use Rattle.bptree_node.specs.Trees.{IsTree, list_at}
use Rattle.store_check.specs.Profile.{is_root}
use Rattle.tree_check.specs.PageSets.{Marks, has}
use Rattle.slot_notes.specs.declared.notes.SlotNote.{SlotNote}
use Rattle.entry_match.specs.Matching.{is_match}
use Rattle.entry_match.specs.Mismatches.{MatchesTree, TellsMismatch}
use Rattle.image_trees.specs.Trees.{slots_of, root_at, named_before, AreMatched, HasMismatch}
use Rattle.image_trees.proofs.Naming.{none-marked, marked-both}

-- ---- roots

pub low-root : (root : Root) → IsTrue (is_root root) → root.height ≤ 5
low-root root is = of root.height (root.page == 0) is
  where
    of : (h : ℕ) (b : Bool) → (if h == 0 then b else nat_le h 5) ≡ true → h ≤ 5
    of zero b is = omega arith
    of (suc h) b is = grind (arith, nat_tests, is)

pub no-page : (root : Root) → IsTrue (is_root root) → root.height ≡ 0 → root.page ≡ 0
no-page root is low = of root.height root.page low is
  where
    of : (h p : ℕ) → h ≡ 0 → (if h == 0 then (p == 0) else nat_le h 5) ≡ true → p ≡ 0
    of zero p low is = grind (arith, nat_tests, is)
    of (suc h) p low is = absurd (omega (arith, low))

-- ---- trees

module _ {S : Type 0} (joined : S → S → S) (entry_box : Entry → Option S) (keys : S → ℕ × ℕ) (notes : List SlotNote) (by_key : Bool) (pages : ℕ → List ℕ) (live : ℕ → Bool)
    (roots : List Root) (first cap : ℕ) (used named : Marks) where
  abbrev pub Are : ℕ → Marks → Marks → Type 0
  Are count new_used new_named = AreMatched joined entry_box keys notes by_key pages live roots first cap count used new_used named new_named

  pub none-matched : Are 0 used named
  none-matched = record {
    trees = λ c below. absurd (omega (arith, below));
    boxed = λ c below. absurd (omega (arith, below));
    matched = λ c below. absurd (omega (arith, below));
    used = λ m. omega arith;
    named = λ m. none-marked (has named m) (nat_lt m cap);
  }

  module _ (count : ℕ) (mid_used mid_named : Marks) (are : Are count mid_used mid_named) (root : Root) (is : root ≡ root_at roots (first + count)) where
    module _ (new_used new_named : Marks) (es : List Entry) (checks : MatchesTree joined entry_box keys notes count by_key pages live root mid_used new_used [] es (Ok tt))
        (marks : (m : ℕ) → has new_named m ≡ (has mid_named m || (nat_lt m cap && is_among m (slots_of es)))) where
      there : MatchesTree joined entry_box keys notes count by_key pages live (root_at roots (first + count)) mid_used new_used [] es (Ok tt)
      there = subst (λ (r : Root). MatchesTree joined entry_box keys notes count by_key pages live r mid_used new_used [] es (Ok tt)) is checks

      pub one-matched : Are (count + 1) new_used new_named
      one-matched =
          let next : suc count ≡ count + 1 = omega arith in
          subst (λ (k : ℕ). Are k new_used new_named) next (record {
            trees = λ c below. elim (cases_lt c count) [
              | inl before ↦ are.trees c before
              | inr least ↦
                  let same : count ≡ c = omega (arith, least, below) in
                  subst (λ (k : ℕ). IsTree (HasCorners joined entry_box keys) pages live (root_at roots (first + k))) same there.0.sound.tree
            ];
            boxed = λ c below. elim (cases_lt c count) [
              | inl before ↦ are.boxed c before
              | inr least ↦
                  let same : count ≡ c = omega (arith, least, below) in
                  subst (λ (k : ℕ). HaveBoxes entry_box (list_at pages (root_at roots (first + k)))) same there.0.sound.keys_are
            ];
            matched = λ c below. elim (cases_lt c count) [
              | inl before ↦ are.matched c before
              | inr least ↦
                  let same : count ≡ c = omega (arith, least, below) in
                  subst (λ (k : ℕ). All (λ (e : Entry). IsTrue (is_match notes k by_key e)) (list_at pages (root_at roots (first + k)))) same there.0.matched
            ];
            used = λ m. omega (arith, are.used m, there.1.used m);
            named = λ m.
                marked-both (has named m) (has mid_named m) (has new_named m) (nat_lt m cap) (named_before pages roots first count m)
                (is_among m (slots_of (list_at pages (root_at roots (first + count))))) (are.named m)
                (marks m ∙ ap (λ (xs : List Entry). has mid_named m || (nat_lt m cap && is_among m (slots_of xs))) there.1.entries);
          })

    pub one-mismatch : (why : TreeError) → count < 4 → TellsMismatch joined entry_box keys notes count by_key pages live mid_used root why
        → HasMismatch joined entry_box keys notes by_key pages live roots first used why
    one-mismatch why below tells = record {
      collection = count;
      below = below;
      before = mid_used;
      reached = are.used;
      tells = subst (λ (r : Root). TellsMismatch joined entry_box keys notes count by_key pages live mid_used r why) is tells;
    }
