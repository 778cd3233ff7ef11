-- The steps of a check, over pages that stay as they were.
use Rattle.std.proofs.Common.{◌≡◌, ◌⊎◌, inr, ℕ, zero, suc, ◌+◌, ◌-◌, ◌<◌, ◌≤◌, Bool, true, List, [], ◌∷◌, ◌++◌, length, take, drop, get_or, Ok, Err, refl, sym, ap, subst, ◌∙◌, arith, take_all, length-append}
use Rattle.std.specs.Prelude.{Contains, IsTrue, Option, Some, None, Result, OnOk, cond}
use Rattle.std.proofs.lemmas.List.{take_more}
use Rattle.std.proofs.lemmas.List.Elements.{Contains-get_or}
use Rattle.page_laws.specs.declared.errors.TreeError.{TreeError}
use Rattle.page_laws.specs.declared.errors.TreeError.TheVariants as tree
use Rattle.page_laws.specs.declared.pages.Pages.{Ghosts}
use Rattle.page_laws.specs.declared.rule.Rule.TheVariants as rule
use Rattle.bptree_node.specs.declared.rows.Entry.{Entry}
use Rattle.bptree_node.specs.declared.rows.Branch.{Branch}
use Rattle.bptree_node.specs.Nodes.{Inner, node_in}
use Rattle.bptree_node.specs.Summaries.{summary_of, HasCorners}
use Rattle.bptree_node.specs.Trees.{node_branches}
use Rattle.bptree_walk.proofs.Staying.{Stay, live_of, known_on, stays_on, as_before}
use Rattle.bptree_edit.specs.NodesAt.{times, list_under, pages_under, list_under_all, least_rows}
use Rattle.bptree_edit.proofs.Branches.{summary-under, boxes-some}
use Rattle.bptree_edit.proofs.Summing.{AreJoined, summary-some}
use Rattle.bptree_edit.proofs.Under.{own_page}
use Rattle.tree_check.specs.declared.node.Checked.{Checked}
use Rattle.tree_check.specs.declared.node.Spot.{Spot}
use Rattle.tree_check.specs.PageSets.{Marks, has, uses, HasSameRange}
use Rattle.tree_check.specs.Checks.{Checks, ChecksLeaf, IsChecked, AreChecked, IsMatched, IsUnmatched, IsLeafChecked, IsLeafBroken}
use Rattle.tree_check.specs.Damage.{TellsBreak}
use Rattle.tree_check.proofs.Advancing.{Holds, one-checked, all-checked, leaf-checked, reached-more, back-part, front-part}
use Rattle.tree_check.proofs.Breaking.{lost-tells, leaf-tells, inner-tells, branch-tells, tells-up}

pub level-above : (level : ℕ) → (level ≡ 0 → ⊥) → suc (level - 1) ≡ level
level-above zero other = absurd (other refl)
level-above (suc l) other = omega arith

module _ {S : Type 0} (joined : S → S → S) (entry_box : Entry → Option S) (keys : S → ℕ × ℕ) (pages : ℕ → List ℕ) (live : ℕ → Bool) (at : Spot) (old_used : Marks) where
  abbrev Reached : ℕ → ℕ
  Reached m = uses old_used m + times m (pages_under pages at.level at.page)

  abbrev Tells : TreeError → Type 0
  Tells why = TellsBreak entry_box (HasCorners joined entry_box keys) pages live Reached at.parent at.level at.page why

  -- a page that was used before
  pub used-tells : (why : TreeError) → why ≡ tree.Damaged at.parent rule.Page → has old_used at.page ≡ true → Tells why
  used-tells why is was =
      let one : uses old_used at.page ≡ 1 = ap (λ (b : Bool). cond b 1 0) was in
      lost-tells joined entry_box keys pages live Reached at.parent at.page at.level why is (inr (omega (arith, one, own_page pages at.level at.page)))

  -- a leaf
  pub leaf-checks : (used : Marks) (old new : List Entry) (page : List ℕ) (result : Result (Checked S) TreeError) → at.level ≡ 0 → page ≡ pages at.page
      → ((m : ℕ) → uses used m ≡ uses old_used m + times m (at.page ∷ [])) → IsTrue (live at.page) → ChecksLeaf joined entry_box at.page page old new result
      → Checks joined entry_box keys pages live at old_used used old new result
  leaf-checks used old new page (Ok checked) lowest is more alive checks =
      subst (λ (l : ℕ). IsChecked joined entry_box keys pages live l at.page old_used used old new checked) (sym lowest)
      (leaf-checked (HasCorners joined entry_box keys) pages live 0 at.page joined entry_box keys old_used used old new checked more alive
      (subst (λ (p : List ℕ). IsLeafChecked joined entry_box p old new checked) is checks))
  leaf-checks used old new page (Err why) lowest is more alive checks =
      subst (λ (l : ℕ). TellsBreak entry_box (HasCorners joined entry_box keys) pages live Reached at.parent l at.page why) (sym lowest)
      (leaf-tells joined entry_box keys pages live Reached at.parent at.page alive why
      (subst (λ (p : List ℕ). IsLeafBroken joined entry_box at.page p why ⊎ (why ≡ tree.Memory)) is checks))

  -- no inner node
  pub inner-checks : (page : List ℕ) (why : TreeError) → (at.level ≡ 0 → ⊥) → page ≡ pages at.page → why ≡ tree.Damaged at.page rule.Node
      → ((branches : List Branch) → node_in page ≡ Some (Inner branches) → ⊥) → Tells why
  inner-checks page why above is names never =
      subst (λ (l : ℕ). TellsBreak entry_box (HasCorners joined entry_box keys) pages live Reached at.parent l at.page why) (level-above at.level above)
      (inner-tells joined entry_box keys pages live Reached at.parent at.page (at.level - 1) why names (λ branches node. never branches (ap node_in is ∙ node)))

pub leaf-longer : {S : Type 0} (joined : S → S → S) (entry_box : Entry → Option S) (n : ℕ) (page : List ℕ) (old new : List Entry) (result : Result (Checked S) TreeError)
    → ChecksLeaf joined entry_box n page old new result → OnOk result (length old ≤ length new)
leaf-longer joined entry_box n page old new (Ok checked) checks = omega (arith, ap length checks.are, length-append old checks.entries)
leaf-longer joined entry_box n page old new (Err why) checks = tt

-- ---- slices of what was gathered

module _ {S : Type 0} (keys : S → ℕ × ℕ) (least n : ℕ) (b : Branch) (first from : ℕ) (child : Checked S) (xs ys new : List Entry) (one : xs ≡ new) (two : ys ≡ new) where
  pub matched-moved : IsMatched keys least b (take (from - first) (drop first xs)) (take (length ys - from) (drop from ys)) child
      → IsMatched keys least b (take (from - first) (drop first new)) (take (length new - from) (drop from new)) child
  matched-moved is =
      subst (λ (zs : List Entry). IsMatched keys least b (take (from - first) (drop first zs)) (take (length new - from) (drop from new)) child) one
      (subst (λ (zs : List Entry). IsMatched keys least b (take (from - first) (drop first xs)) (take (length zs - from) (drop from zs)) child) two is)

  pub unmatched-moved : (why : TreeError) → IsUnmatched keys least n b (take (from - first) (drop first xs)) (take (length ys - from) (drop from ys)) child why
      → IsUnmatched keys least n b (take (from - first) (drop first new)) (take (length new - from) (drop from new)) child why
  unmatched-moved why is =
      subst (λ (zs : List Entry). IsUnmatched keys least n b (take (from - first) (drop first zs)) (take (length new - from) (drop from new)) child why) one
      (subst (λ (zs : List Entry). IsUnmatched keys least n b (take (from - first) (drop first xs)) (take (length zs - from) (drop from zs)) child why) two is)

-- ---- the branches of a node

module _ {P : Type 0} (G : Ghosts P) {S : Type 0} (joined : S → S → S) (entry_box : Entry → Option S) (keys : S → ℕ × ℕ) (start mid : P) (at : Spot) (above : at.level ≡ 0 → ⊥)
    (bs : List Branch) (i : ℕ) (d : Branch) (old_used used : Marks) (old entries : List Entry) (holds : Holds G joined entry_box keys start mid at (take i bs) old_used used old entries) where
  abbrev Now : ℕ → List ℕ
  Now = G.page_at start

  abbrev Live : ℕ → Bool
  Live = live_of G start

  abbrev child_spot : Spot
  child_spot = record { page = (get_or bs i d).child; level = at.level - 1; parent = at.page }

  module _ (node : IsTrue (G.is_known start) → node_in (G.page_at start at.page) ≡ Some (Inner bs)) (below : i < length bs) (spot : Spot) (is : spot ≡ child_spot) (new_used : Marks) (new : List Entry) where
    -- what was said of the child, over the pages as they were
    child-before : (result : Result (Checked S) TreeError) → (IsTrue (G.is_known mid) → Checks joined entry_box keys (G.page_at mid) (live_of G mid) spot used new_used entries new result)
        → IsTrue (G.is_known start) → Checks joined entry_box keys Now Live child_spot used new_used entries new result
    child-before result checks known =
        subst (λ (s : Spot). Checks joined entry_box keys Now Live s used new_used entries new result) is
        (as_before G start mid holds.stay (λ pages live. Checks joined entry_box keys pages live spot used new_used entries new result) known
        (checks (known_on G start mid holds.stay known)))

    among : (known : IsTrue (G.is_known start)) → Contains (node_branches (node_in (Now at.page))) (get_or bs i d)
    among known = subst (λ (cs : List Branch). Contains cs (get_or bs i d)) (sym (ap node_branches (node known))) (Contains-get_or bs i d below)

    abbrev Says : TreeError → Type 0
    Says why = TellsBreak entry_box (HasCorners joined entry_box keys) Now Live (λ m. uses old_used m + times m (pages_under Now at.level at.page)) at.parent at.level at.page why

    raised : (why : TreeError) → TellsBreak entry_box (HasCorners joined entry_box keys) Now Live (λ m. uses old_used m + times m (pages_under Now (suc (at.level - 1)) at.page)) at.parent (suc (at.level - 1)) at.page why → Says why
    raised why tells =
        subst (λ (l : ℕ). TellsBreak entry_box (HasCorners joined entry_box keys) Now Live (λ m. uses old_used m + times m (pages_under Now l at.page)) at.parent l at.page why) (level-above at.level above) tells

    -- what is broken under the child
    pub child-tells : (why : TreeError) → (IsTrue (G.is_known mid) → Checks joined entry_box keys (G.page_at mid) (live_of G mid) spot used new_used entries new (Err why))
        → IsTrue (G.is_known start) → Says why
    child-tells why checks known =
        raised why
        (tells-up entry_box (HasCorners joined entry_box keys) Now Live (λ m. uses used m + times m (pages_under Now (at.level - 1) (get_or bs i d).child))
        (λ m. uses old_used m + times m (pages_under Now (suc (at.level - 1)) at.page))
        (reached-more (HasCorners joined entry_box keys) Now Live (at.level - 1) at.page joined entry_box keys bs i d old_used used old entries below (node known) (holds.told known))
        at.parent (at.level - 1) at.page (get_or bs i d) (among known) why (child-before (Err why) checks known))

    module _ (first from : ℕ) (begins : first ≡ length old) (ends : from ≡ length entries) (child : Checked S)
        (checks : IsTrue (G.is_known mid) → Checks joined entry_box keys (G.page_at mid) (live_of G mid) spot used new_used entries new (Ok child)) where
      parts : IsTrue (G.is_known start) → (take (from - first) (drop first new) ≡ list_under_all Now (at.level - 1) (take i bs))
          × (take (length new - from) (drop from new) ≡ list_under Now (at.level - 1) (get_or bs i d).child)
      parts known =
          let is = child-before (Ok child) checks known in
          let are = holds.told known in
          let lists = list_under_all Now (at.level - 1) (take i bs) in
          let list = list_under Now (at.level - 1) (get_or bs i d).child in
          let all : new ≡ (old ++ lists) ++ list = is.gathers.entries ∙ ap (λ (xs : List Entry). xs ++ list) are.gathers.entries in
          let long : from ≡ length (old ++ lists) = ends ∙ ap length are.gathers.entries in
          (front-part old lists list new first from all begins long, back-part old lists list new from all long)

      -- a branch that doesn't say what is under it
      pub unmatched-tells : (why : TreeError)
          → IsUnmatched keys (least_rows (at.level - 1)) at.page (get_or bs i d) (take (from - first) (drop first new)) (take (length new - from) (drop from new)) child why
          → IsTrue (G.is_known start) → Says why
      unmatched-tells why bad known =
          let is = child-before (Ok child) checks known in
          let cut = parts known in
          raised why
          (branch-tells joined entry_box keys Now Live (λ m. uses old_used m + times m (pages_under Now (suc (at.level - 1)) at.page)) at.parent at.page (at.level - 1) bs (node known) i d below (among known)
          (take (from - first) (drop first new)) (take (length new - from) (drop from new)) child cut.0 cut.1 is.rows is.summary why bad)

      -- a branch that does
      pub holds-on : ((a b c : P) → G.calm a b → G.calm b c → G.calm a c) → (next : P)
          → IsMatched keys (least_rows (at.level - 1)) (get_or bs i d) (take (from - first) (drop first new)) (take (length new - from) (drop from new)) child
          → HasSameRange used new_used → length entries ≤ length new → Stay G mid next → G.faults mid ≤ G.faults next
          → Holds G joined entry_box keys start next at (take (i + 1) bs) old_used new_used old new
      holds-on chains next matched range longer stay faults = record {
        told = λ known.
            subst (λ (cs : List Branch). AreChecked (HasCorners joined entry_box keys) Now Live (at.level - 1) at.page cs old_used new_used old new) (sym (take_more bs i d below))
            (one-checked (HasCorners joined entry_box keys) Now Live (at.level - 1) at.page joined entry_box keys (take i bs) (get_or bs i d) old_used used new_used old entries new child first from
            (holds.told known) (child-before (Ok child) checks known) begins ends matched);
        range = record { first = range.first ∙ holds.range.first; count = range.count ∙ holds.range.count };
        longer = omega (arith, holds.longer, longer);
        stay = stays_on G start mid holds.stay chains next stay;
        faults = omega (arith, holds.faults, faults);
      }

  -- ---- all of them

  module _ (done : length bs ≤ i) (node : IsTrue (G.is_known start) → node_in (G.page_at start at.page) ≡ Some (Inner bs)) where
    whole : IsTrue (G.is_known start) → AreChecked (HasCorners joined entry_box keys) Now Live (at.level - 1) at.page bs old_used used old entries
    whole known = subst (λ (cs : List Branch). AreChecked (HasCorners joined entry_box keys) Now Live (at.level - 1) at.page cs old_used used old entries) (take_all i bs done) (holds.told known)

    module _ (branch_box : ℕ → ℕ → Option S) (is_made : S → Type 0) (entry_made : (e : Entry) (s : S) → entry_box e ≡ Some s → is_made s)
        (back : (s : S) (low high : ℕ) → is_made s → keys s ≡ (low, high) → branch_box low high ≡ Some s) (laws : AreJoined joined is_made) where
      pub node-checked : (checked : Checked S) → checked.rows ≡ length bs → summary_of joined (λ (b : Branch). branch_box b.low b.high) bs ≡ Some checked.summary → IsTrue (G.is_known start)
          → IsChecked joined entry_box keys Now Live at.level at.page old_used used old entries checked
      node-checked checked rows summary known =
          let are = whole known in
          subst (λ (l : ℕ). IsChecked joined entry_box keys Now Live l at.page old_used used old entries checked) (level-above at.level above)
          (all-checked (HasCorners joined entry_box keys) Now Live (at.level - 1) at.page joined entry_box keys bs old_used used old entries checked (node known) are rows
          (summary-under joined entry_box branch_box keys is_made entry_made back laws Now (at.level - 1) bs checked.summary are.children summary))

      pub node-boxed : 1 ≤ length bs → summary_of joined (λ (b : Branch). branch_box b.low b.high) bs ≡ None → IsTrue (G.is_known start) → ⊥
      node-boxed some none known =
          summary-some joined (λ (b : Branch). branch_box b.low b.high) bs some
          (boxes-some joined entry_box branch_box keys is_made entry_made back laws Now (at.level - 1) bs (whole known).children) none
