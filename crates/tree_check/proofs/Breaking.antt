-- What is broken under a node, and what is broken under its parent for it.
use Rattle.std.proofs.Common.{◌≡◌, ◌⊎◌, inl, inr, ℕ, zero, suc, ◌+◌, ◌<◌, ◌≤◌, Bool, false, List, [], ◌∷◌, length, take, drop, get_or, refl, sym, ap, subst, ◌∙◌, arith}
use Rattle.std.specs.Prelude.{Contains, IsSome, IsTrue, Option, Some, None, map}
use Rattle.std.specs.List.{flat_map, AllByRecursion}
use Rattle.std.proofs.lemmas.List.Elements.{All-from_recursion}
use Rattle.page_laws.specs.declared.errors.TreeError.{TreeError}
use Rattle.page_laws.specs.declared.errors.TreeError.TheVariants as tree
use Rattle.page_laws.specs.declared.rule.Rule.{Rule}
use Rattle.page_laws.specs.declared.rule.Rule.TheVariants as rule
use Rattle.bptree_node.specs.declared.rows.Entry.{Entry}
use Rattle.bptree_node.specs.declared.rows.Branch.{Branch}
use Rattle.bptree_node.specs.Nodes.{Node, Leaf, Inner, node_in}
use Rattle.bptree_node.specs.Summaries.{joined_options, summary_of, HasCorners}
use Rattle.bptree_node.specs.Trees.{Tree, Limb, Place, tree_at, places_of, node_entries, node_branches, IsRising, HasFirst}
use Rattle.bptree_node.specs.TreeLaws.{limb_at}
use Rattle.bptree_walk.proofs.Lists.{first_among, among_rest, among_lists}
use Rattle.bptree_walk.proofs.Parts.{root_placed, places_are}
use Rattle.bptree_walk.specs.Damage.{is_node_of}
use Rattle.bptree_edit.specs.NodesAt.{list_under, list_under_all, rows_in, least_rows}
use Rattle.bptree_edit.proofs.Reaching.{around}
use Rattle.tree_check.specs.declared.node.Checked.{Checked}
use Rattle.tree_check.specs.Checks.{IsUnmatched, IsLeafBroken}
use Rattle.tree_check.specs.Damage.{places_under, IsPlaced, IsLost, Breaks, TellsBreak, ends_before}
use Rattle.tree_check.proofs.Order.{first-never}

-- where entries have a summary, each has one
module _ {S : Type 0} (joined : S → S → S) (entry_box : Entry → Option S) where
  pub boxes-there : (es : List Entry) (s : S) → summary_of joined entry_box es ≡ Some s → AllByRecursion (λ (e : Entry). IsSome (entry_box e)) es
  boxes-there [] s is = tt
  boxes-there (e ∷ []) s is = (one (entry_box e) is, tt)
    where
      one : (a : Option S) → a ≡ Some s → IsSome a
      one (Some x) is = refl
      one None is = absurd (cc)
  boxes-there (e ∷ f ∷ es) s is = both (entry_box e) (summary_of joined entry_box (f ∷ es)) is (λ t deep. boxes-there (f ∷ es) t deep)
    where
      both : (a b : Option S) → joined_options joined a b ≡ Some s → ((t : S) → b ≡ Some t → AllByRecursion (λ (e : Entry). IsSome (entry_box e)) (f ∷ es))
          → IsSome a × AllByRecursion (λ (e : Entry). IsSome (entry_box e)) (f ∷ es)
      both (Some x) (Some y) is deep = (refl, deep y refl)
      both (Some x) None is deep = absurd (cc)
      both None b is deep = absurd (cc)

module _ (pages : ℕ → List ℕ) where
  -- a node is placed under itself
  pub here : (l n : ℕ) → IsPlaced pages l n l n
  unfolding places_under
  here l n = root_placed pages l n

  -- what is placed under a child is placed under its parent
  pub placed-up : (l n : ℕ) (b : Branch) → Contains (node_branches (node_in (pages n))) b → (level page : ℕ) → IsPlaced pages l b.child level page → IsPlaced pages (suc l) n level page
  unfolding places_under
  placed-up l n b among level page placed =
      let bs : List Branch = node_branches (node_in (pages n)) in
      let place : Place = record { level = level; page = page } in
      let there : Contains (flat_map (λ (c : Branch). places_of l (tree_at pages l c.child)) bs) place =
      among_lists (λ (c : Branch). places_of l (tree_at pages l c.child)) bs b place among placed in
      among_rest {X = Place} place (record { level = suc l; page = n }) (flat_map (λ (limb : Limb (Tree l)). places_of l limb.below) (map (limb_at pages l) bs))
      (subst (λ (xs : List Place). Contains xs place) (sym (places_are pages l bs)) there)

  lost-up : (live : ℕ → Bool) (reached more : ℕ → ℕ) → ((m : ℕ) → reached m ≤ more m) → (c : ℕ) → IsLost live reached c → IsLost live more c
  lost-up live reached more fewer c (inl dead) = inl dead
  lost-up live reached more fewer c (inr twice) = inr (omega (arith, twice, fewer c))

  module _ {S : Type 0} (entry_box : Entry → Option S) (are_corners : List Entry → ℕ → ℕ → Type 0) (live : ℕ → Bool) (reached more : ℕ → ℕ) (fewer : (m : ℕ) → reached m ≤ more m)
      (parent l n : ℕ) (b : Branch) (among : Contains (node_branches (node_in (pages n))) b) (page : ℕ) where
    up : (level at : ℕ) → IsPlaced pages l b.child level at → IsPlaced pages (suc l) n level at
    up level at placed = placed-up l n b among level at placed

    pub breaks-up : (r : Rule) → Breaks entry_box are_corners pages live reached n l b.child page r → Breaks entry_box are_corners pages live more parent (suc l) n page r
    breaks-up rule.Size none = none
    breaks-up rule.Journal none = none
    breaks-up rule.Profile none = none
    breaks-up rule.Pivot none = none
    breaks-up rule.Page (inl own) = inr (record {
      level = l;
      placed = subst (λ (k : ℕ). IsPlaced pages (suc l) n (suc l) k) (sym own.0) (here (suc l) n);
      branch = b;
      among = subst (λ (k : ℕ). Contains (node_branches (node_in (pages k))) b) (sym own.0) among;
      lost = lost-up live reached more fewer b.child own.1;
    })
    breaks-up rule.Page (inr deep) = inr (record {
      level = deep.level;
      placed = up (suc deep.level) page deep.placed;
      branch = deep.branch;
      among = deep.among;
      lost = lost-up live reached more fewer deep.branch.child deep.lost;
    })
    breaks-up rule.Node is = record { level = is.level; placed = up is.level page is.placed; none = is.none }
    breaks-up rule.Fill is = record {
      level = is.level;
      parent = is.parent;
      placed = up (suc is.level) is.parent is.placed;
      branch = is.branch;
      among = is.among;
      is = is.is;
      few = is.few;
    }
    breaks-up rule.Order (inl is) = inl (record { placed = up 0 page is.placed; disorder = is.disorder })
    breaks-up rule.Order (inr is) = inr (record {
      level = is.level;
      placed = up (suc is.level) page is.placed;
      front = is.front;
      branch = is.branch;
      back = is.back;
      are = is.are;
      misplaced = is.misplaced;
    })
    breaks-up rule.Key is = record { placed = up 0 page is.placed; alive = is.alive; entry = is.entry; among = is.among; none = is.none }
    breaks-up rule.Box is = record {
      level = is.level;
      placed = up (suc is.level) page is.placed;
      branch = is.branch;
      among = is.among;
      boxed = is.boxed;
      other = is.other;
    }
    breaks-up rule.Slot none = none
    breaks-up rule.Match none = none

-- ---- what an error says

pub tells-up : {S : Type 0} (entry_box : Entry → Option S) (are_corners : List Entry → ℕ → ℕ → Type 0) (pages : ℕ → List ℕ) (live : ℕ → Bool) (reached more : ℕ → ℕ) → ((m : ℕ) → reached m ≤ more m)
    → (parent l n : ℕ) (b : Branch) → Contains (node_branches (node_in (pages n))) b → (why : TreeError)
    → TellsBreak entry_box are_corners pages live reached n l b.child why → TellsBreak entry_box are_corners pages live more parent (suc l) n why
tells-up entry_box are_corners pages live reached more fewer parent l n b among (tree.Damaged page r) is = breaks-up pages entry_box are_corners live reached more fewer parent l n b among page r is
tells-up entry_box are_corners pages live reached more fewer parent l n b among tree.Fault is = tt
tells-up entry_box are_corners pages live reached more fewer parent l n b among tree.Memory is = tt

-- ---- what is broken at a node itself

no_leaf : (o : Option Node) → ((entries : List Entry) → o ≡ Some (Leaf entries) → ⊥) → is_node_of zero o ≡ false
no_leaf (Some (Leaf entries)) never = absurd (never entries refl)
no_leaf (Some (Inner branches)) never = refl
no_leaf None never = refl

no_inner : (l : ℕ) (o : Option Node) → ((branches : List Branch) → o ≡ Some (Inner branches) → ⊥) → is_node_of (suc l) o ≡ false
no_inner l (Some (Leaf entries)) never = refl
no_inner l (Some (Inner branches)) never = absurd (never branches refl)
no_inner l None never = refl

-- an entry without a summary, where the list has none
none_found : {S : Type 0} (joined : S → S → S) (entry_box : Entry → Option S) (es : List Entry) → 1 ≤ length es → summary_of joined entry_box es ≡ None
    → (e : Entry) × (Contains es e × (entry_box e ≡ None))
none_found {S} joined entry_box [] some none = absurd (omega (arith, some))
none_found {S} joined entry_box (e ∷ []) some none = (e, (first_among e [], none))
none_found {S} joined entry_box (e ∷ f ∷ es) some none =
    either (entry_box e) (summary_of joined entry_box (f ∷ es)) refl refl none (λ two. none_found joined entry_box (f ∷ es) (omega arith) two)
  where
    either : (a b : Option S) → entry_box e ≡ a → summary_of joined entry_box (f ∷ es) ≡ b → joined_options joined a b ≡ None
        → (summary_of joined entry_box (f ∷ es) ≡ None → (g : Entry) × (Contains (f ∷ es) g × (entry_box g ≡ None))) → (g : Entry) × (Contains (e ∷ f ∷ es) g × (entry_box g ≡ None))
    either None b one two is deep = (e, (first_among e (f ∷ es), one))
    either (Some x) None one two is deep =
        let found = deep two in
        (found.0, (among_rest found.0 e (f ∷ es) found.1.0, found.1.1))
    either (Some x) (Some y) one two is deep = absurd (cc)

module _ {S : Type 0} (joined : S → S → S) (entry_box : Entry → Option S) (keys : S → ℕ × ℕ) (pages : ℕ → List ℕ) (live : ℕ → Bool) (reached : ℕ → ℕ) (parent n : ℕ) where
  abbrev Tells : ℕ → TreeError → Type 0
  Tells l why = TellsBreak entry_box (HasCorners joined entry_box keys) pages live reached parent l n why

  -- the node's page isn't live, or was reached before
  pub lost-tells : (l : ℕ) (why : TreeError) → why ≡ tree.Damaged parent rule.Page → IsLost live reached n → Tells l why
  lost-tells l why is lost = subst (Tells l) (sym is) (inl (refl, lost))

  -- a leaf that breaks a rule
  pub leaf-tells : IsTrue (live n) → (why : TreeError) → (IsLeafBroken joined entry_box n (pages n) why ⊎ (why ≡ tree.Memory)) → Tells 0 why
  leaf-tells alive why (inr is) = subst (Tells 0) (sym is) tt
  leaf-tells alive why (inl (inl other)) = subst (Tells 0) (sym other.0) (record { level = 0; placed = here pages 0 n; none = no_leaf (node_in (pages n)) other.1 })
  leaf-tells alive why (inl (inr (es, (node, inl order)))) =
      subst (Tells 0) (sym order.0)
      (inl (record { placed = here pages 0 n; disorder = λ rising. order.1 (subst IsRising (ap node_entries node) rising) }))
  leaf-tells alive why (inl (inr (es, (node, inr key)))) =
      let found = none_found joined entry_box es key.1 key.2 in
      subst (Tells 0) (sym key.0)
      (record { placed = here pages 0 n; alive = alive; entry = found.0; among = subst (λ (xs : List Entry). Contains xs found.0) (sym (ap node_entries node)) found.1.0; none = found.1.1 })

  -- no inner node
  pub inner-tells : (l : ℕ) (why : TreeError) → (why ≡ tree.Damaged n rule.Node) → ((branches : List Branch) → node_in (pages n) ≡ Some (Inner branches) → ⊥) → Tells (suc l) why
  inner-tells l why is never = subst (Tells (suc l)) (sym is) (record { level = suc l; placed = here pages (suc l) n; none = no_inner l (node_in (pages n)) never })

  -- a branch that doesn't say what is under it
  module _ (l : ℕ) (bs : List Branch) (node : node_in (pages n) ≡ Some (Inner bs)) (i : ℕ) (d : Branch) (below : i < length bs) (among : Contains (node_branches (node_in (pages n))) (get_or bs i d))
      (before under : List Entry) (child : Checked S) (are_before : before ≡ list_under_all pages l (take i bs)) (are_under : under ≡ list_under pages l (get_or bs i d).child)
      (rows : child.rows ≡ rows_in (node_in (pages (get_or bs i d).child))) (summary : summary_of joined entry_box (list_under pages l (get_or bs i d).child) ≡ Some child.summary) where
    pub branch-tells : (why : TreeError) → IsUnmatched keys (least_rows l) n (get_or bs i d) before under child why → Tells (suc l) why
    branch-tells why (inl fill) =
        subst (Tells (suc l)) (sym fill.0)
        (record { level = l; parent = n; placed = here pages (suc l) n; branch = get_or bs i d; among = among; is = refl; few = subst (λ (k : ℕ). k < least_rows l) rows fill.1 })
    branch-tells why (inr (inl order)) =
        let b = get_or bs i d in
        let bad : (HasFirst b.key b.id (list_under pages l b.child) → ⊥) ⊎ (ends_before b.key b.id (list_under_all pages l (take i bs)) ≡ false) =
        elim order.1 [
          | inl first ↦ inl (λ has. first-never b.key b.id under first (subst (HasFirst b.key b.id) (sym are_under) has))
          | inr ends ↦ inr (subst (λ (xs : List Entry). ends_before b.key b.id xs ≡ false) are_before ends)
        ]
        in
        subst (Tells (suc l)) (sym order.0)
        (inr (record {
          level = l;
          placed = here pages (suc l) n;
          front = take i bs;
          branch = b;
          back = drop (i + 1) bs;
          are = ap node_branches node ∙ around bs i d below;
          misplaced = bad;
        }))
    branch-tells why (inr (inr box)) =
        subst (Tells (suc l)) (sym box.0)
        (record {
          level = l;
          placed = here pages (suc l) n;
          branch = get_or bs i d;
          among = among;
          boxed = All-from_recursion (λ (e : Entry). IsSome (entry_box e)) (list_under pages l (get_or bs i d).child)
              (boxes-there joined entry_box (list_under pages l (get_or bs i d).child) child.summary summary);
          other = λ has.
              let both : Some child.summary ≡ Some has.summary = sym summary ∙ has.is in
              let same : child.summary ≡ has.summary = cc in
              box.1 (ap keys same ∙ has.corners);
        })
