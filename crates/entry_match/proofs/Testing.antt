-- Trees whose entries pass a test, and the same trees without it.
use Rattle.std.proofs.Common.{◌≡◌, ℕ, zero, suc, Bool, true, false, List, [], ◌∷◌, get_or, refl, sym, ap₂, subst, ◌∙◌}
use Rattle.std.specs.Prelude.{if◌then◌else◌, IsTrue, IsSome, All, Option, None}
use Rattle.std.specs.List.{flat_map, AllByRecursion}
use Rattle.std.proofs.lemmas.List.Elements.{All-from_recursion, recursion_from_All}
use Rattle.page_laws.specs.declared.root.Root.{Root}
use Rattle.bptree_node.specs.declared.rows.Entry.{Entry}
use Rattle.bptree_node.specs.Lists.{all-front, all-back, all-weaker}
use Rattle.bptree_node.specs.Summaries.{joined_options, summary_of, HasCorners}
use Rattle.bptree_node.specs.Trees.{Tree, Limb, tree_at, list_of, HaveCorners, at_root, list_at, HaveCornersAt}
use Rattle.bptree_edit.specs.Changes.{HaveBoxes}
use Rattle.tree_check.specs.PageSets.{Marks}
use Rattle.tree_check.specs.Checks.{IsSoundTree}
use Rattle.entry_match.specs.Matching.{tested_box}

-- ---- summaries

module _ {S : Type 0} (joined : S → S → S) (f g : Entry → Option S) where
  -- entries with the same boxes have the same summary
  pub same-summary : (es : List Entry) → AllByRecursion (λ (e : Entry). f e ≡ g e) es → summary_of joined f es ≡ summary_of joined g es
  same-summary [] same = refl
  same-summary (e ∷ []) same = same.0
  same-summary (e ∷ d ∷ es) same = ap₂ (joined_options joined) same.0 (same-summary (d ∷ es) same.1)

  pub corners-same : (keys : S → ℕ × ℕ) (es : List Entry) (low high : ℕ) → AllByRecursion (λ (e : Entry). f e ≡ g e) es → HasCorners joined f keys es low high
      → HasCorners joined g keys es low high
  corners-same keys es low high same has = record { summary = has.summary; is = sym (same-summary es same) ∙ has.is; corners = has.corners }

-- ---- corners of a tree

module _ (P : Entry → Type 0) (A B : List Entry → ℕ → ℕ → Type 0) (moved : (es : List Entry) (low high : ℕ) → AllByRecursion P es → A es low high → B es low high) where
  limbs-moved : (l : ℕ) → ((t : Tree l) → AllByRecursion P (list_of l t) → HaveCorners A l t → HaveCorners B l t) → (limbs : List (Limb (Tree l)))
      → AllByRecursion P (flat_map (λ (limb : Limb (Tree l)). list_of l limb.below) limbs)
      → AllByRecursion (λ (limb : Limb (Tree l)). A (list_of l limb.below) limb.branch.low limb.branch.high × HaveCorners A l limb.below) limbs
      → AllByRecursion (λ (limb : Limb (Tree l)). B (list_of l limb.below) limb.branch.low limb.branch.high × HaveCorners B l limb.below) limbs
  limbs-moved l each [] all corners = tt
  limbs-moved l each (limb ∷ limbs) all corners =
      let here = list_of l limb.below in
      let there = flat_map (λ (limb : Limb (Tree l)). list_of l limb.below) limbs in
      let own : AllByRecursion P (list_of l limb.below) = all-front P here there all in
      let others : AllByRecursion P (flat_map (λ (limb : Limb (Tree l)). list_of l limb.below) limbs) = all-back P here there all in (
        (moved here limb.branch.low limb.branch.high own corners.0.0, each limb.below own corners.0.1),
        limbs-moved l each limbs others corners.1,
      )

  corners-moved : (l : ℕ) (t : Tree l) → AllByRecursion P (list_of l t) → HaveCorners A l t → HaveCorners B l t
  corners-moved zero t all corners = tt
  corners-moved (suc l) t all corners = limbs-moved l (corners-moved l) t.limbs all corners

  pub corners-at : (pages : ℕ → List ℕ) (height page : ℕ) → AllByRecursion P (at_root [] list_of pages height page) → HaveCornersAt A pages height page → HaveCornersAt B pages height page
  corners-at pages zero page all corners = tt
  corners-at pages (suc l) page all corners = corners-moved l (tree_at pages l page) all corners

-- ---- boxes that are the same

module _ {S : Type 0} (f g : Entry → Option S) where
  pub same-back : (es : List Entry) → AllByRecursion (λ (e : Entry). f e ≡ g e) es → AllByRecursion (λ (e : Entry). g e ≡ f e) es
  same-back [] same = tt
  same-back (e ∷ es) same = (sym same.0, same-back es same.1)

  pub some-moved : (es : List Entry) → AllByRecursion (λ (e : Entry). f e ≡ g e) es → AllByRecursion (λ (e : Entry). IsSome (f e)) es → AllByRecursion (λ (e : Entry). IsSome (g e)) es
  some-moved [] same some = tt
  some-moved (e ∷ es) same some = (subst IsSome same.0 some.0, some-moved es same.1 some.1)

-- ---- tests

passes : {S : Type 0} (b : Bool) (o : Option S) → IsSome (if b then o else None) → b ≡ true
passes true o is = refl
passes false o is = absurd (cc)

kept : {S : Type 0} (b : Bool) (o : Option S) → b ≡ true → (if b then o else None) ≡ o
kept true o is = refl
kept false o is = absurd (cc)

dropped : {S : Type 0} (b : Bool) (o : Option S) → o ≡ None → (if b then o else None) ≡ None
dropped true o is = is
dropped false o is = refl

module _ {S : Type 0} (joined : S → S → S) (entry_box : Entry → Option S) (keys : S → ℕ × ℕ) (test : Entry → Bool) where
  -- entries with boxes pass
  pub boxed-pass : (es : List Entry) → HaveBoxes (tested_box entry_box test) es → All (λ (e : Entry). IsTrue (test e)) es
  boxed-pass es have i d below = passes (test (get_or es i d)) (entry_box (get_or es i d)) (have i d below)

  boxes-same : (es : List Entry) → All (λ (e : Entry). IsTrue (test e)) es → AllByRecursion (λ (e : Entry). tested_box entry_box test e ≡ entry_box e) es
  boxes-same es pass = all-weaker (λ (e : Entry). IsTrue (test e)) (λ (e : Entry). tested_box entry_box test e ≡ entry_box e)
      (λ e is. kept (test e) (entry_box e) is) es (recursion_from_All (λ (e : Entry). IsTrue (test e)) es pass)

  -- a box that is wrong with the test is wrong without it
  pub box-plain : (es : List Entry) (low high : ℕ) → HaveBoxes (tested_box entry_box test) es → (HasCorners joined (tested_box entry_box test) keys es low high → ⊥)
      → HaveBoxes entry_box es × (HasCorners joined entry_box keys es low high → ⊥)
  box-plain es low high have other =
      let same = boxes-same es (boxed-pass es have) in (
        All-from_recursion (λ (e : Entry). IsSome (entry_box e)) es
            (some-moved (tested_box entry_box test) entry_box es same (recursion_from_All (λ (e : Entry). IsSome (tested_box entry_box test e)) es have)),
        λ has. other (corners-same joined entry_box (tested_box entry_box test) keys es low high (same-back (tested_box entry_box test) entry_box es same) has),
      )

  -- a tree that is sound with the test is sound without it
  pub sound-plain : (pages : ℕ → List ℕ) (live : ℕ → Bool) (used : Marks) (root : Root) → IsSoundTree joined (tested_box entry_box test) keys pages live used root
      → IsSoundTree joined entry_box keys pages live used root
  sound-plain pages live used root sound =
      let pass = boxed-pass (list_at pages root) sound.keys_are in
      let same = boxes-same (list_at pages root) pass in
      record {
        tree = record {
          tree = sound.tree.tree;
          corners = corners-at (λ (e : Entry). tested_box entry_box test e ≡ entry_box e) (HasCorners joined (tested_box entry_box test) keys) (HasCorners joined entry_box keys)
              (λ es low high are has. corners-same joined (tested_box entry_box test) entry_box keys es low high are has) pages root.height root.page same sound.tree.corners;
        };
        keys_are = All-from_recursion (λ (e : Entry). IsSome (entry_box e)) (list_at pages root)
            (some-moved (tested_box entry_box test) entry_box (list_at pages root) same (recursion_from_All (λ (e : Entry). IsSome (tested_box entry_box test e)) (list_at pages root) sound.keys_are));
        unused = sound.unused;
      }

  -- and with it if all entries pass
  pub sound-tested : (pages : ℕ → List ℕ) (live : ℕ → Bool) (used : Marks) (root : Root) → IsSoundTree joined entry_box keys pages live used root
      → All (λ (e : Entry). IsTrue (test e)) (list_at pages root) → IsSoundTree joined (tested_box entry_box test) keys pages live used root
  sound-tested pages live used root sound pass =
      let same = same-back (tested_box entry_box test) entry_box (list_at pages root) (boxes-same (list_at pages root) pass) in
      record {
        tree = record {
          tree = sound.tree.tree;
          corners = corners-at (λ (e : Entry). entry_box e ≡ tested_box entry_box test e) (HasCorners joined entry_box keys) (HasCorners joined (tested_box entry_box test) keys)
              (λ es low high are has. corners-same joined entry_box (tested_box entry_box test) keys es low high are has) pages root.height root.page same sound.tree.corners;
        };
        keys_are = All-from_recursion (λ (e : Entry). IsSome (tested_box entry_box test e)) (list_at pages root)
            (some-moved entry_box (tested_box entry_box test) (list_at pages root) same (recursion_from_All (λ (e : Entry). IsSome (entry_box e)) (list_at pages root) sound.keys_are));
        unused = sound.unused;
      }

  -- what has no box without the test has none with it
  pub none-tested : (e : Entry) → entry_box e ≡ None → tested_box entry_box test e ≡ None
  none-tested e is = dropped (test e) (entry_box e) is
