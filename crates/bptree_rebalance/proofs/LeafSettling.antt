-- A leaf that has lost an entry, among the branches of its parent: stored, or mended with the leaf behind it or before it.
use Rattle.std.proofs.Common.{◌≡◌, ℕ, suc, ◌+◌, ◌-◌, ◌<◌, ◌≤◌, Bool, List, [], ◌∷◌, ◌++◌, length, take, drop, get_or, sym, ap, subst, ◌∙◌, refl, arith, append_assoc, length-append}
use Rattle.std.specs.Prelude.{IsTrue, IsSome, Option, Some, Result, Ok, Err, IfOk}
use Rattle.std.specs.List.{AllByRecursion}
use Rattle.std.proofs.lemmas.List.{take_more}
use Rattle.page_laws.specs.Pages.{is_live}
use Rattle.page_laws.specs.declared.errors.TreeError.{TreeError}
use Rattle.bptree_node.specs.declared.layout.TheConstants.{LEAST_ENTRIES, MOST_ENTRIES}
use Rattle.bptree_node.specs.declared.rows.Entry.{Entry}
use Rattle.bptree_node.specs.declared.rows.Branch.{Branch}
use Rattle.bptree_node.specs.Lists.{all-front, all-back}
use Rattle.bptree_node.specs.Nodes.{Node, Leaf, node_in}
use Rattle.bptree_node.specs.Summaries.{HasCorners}
use Rattle.bptree_edit.specs.NodesAt.{times, rows_in, list_under_all, pages_under_all, IsBranchOf, AreNodesUnder, AreChildren}
use Rattle.bptree_edit.specs.Parts.{IsLeafPart, branch_of}
use Rattle.bptree_edit.proofs.Branches.{single_list, single_times}
use Rattle.bptree_edit.proofs.Changing.{one-none}
use Rattle.bptree_edit.proofs.Counts.{one_if, one_same, times-none, own_live}
use Rattle.bptree_edit.proofs.Under.{list-leaf, pages-leaf, leaf-of, list_all-cons, list_all-append, times_all-cons, times_all-append, children-front, children-back, children-first, children-others}
use Rattle.bptree_mend.specs.declared.mended.Mended.{Mended}
use Rattle.bptree_mend.specs.Mending.{Mends}
use Rattle.bptree_rebalance.specs.Rows.{list_in, pages_in}
use Rattle.bptree_rebalance.specs.Settling.{child_at, branches_of_mended, list_among, pages_among, HasLostRow, HasStored, HasMended, IsSettled, Settles}
use Rattle.bptree_rebalance.proofs.Among.{among-times, settled-among}
use Rattle.bptree_rebalance.proofs.Leaves.{times-one, times-two, alone-list, alone-times, alone-children, mended-stands, some-mended}
use Rattle.bptree_rebalance.proofs.Places.{drop-next}

pub leaf-pages : (m : ℕ) (pages : ℕ → List ℕ) (es : List Entry) → times m (pages_in pages 0 (Leaf es)) ≡ 0
unfolding pages_in
leaf-pages m pages es = times-none m

pub leaf-entries : (pages : ℕ → List ℕ) (es : List Entry) → list_in pages 0 (Leaf es) ≡ es
unfolding list_in
leaf-entries pages es = refl

pub if-settled : (are_corners : List Entry → ℕ → ℕ → Type 0) (old new : ℕ → List ℕ) (old_free new_free : List ℕ) (l : ℕ) (front : List Branch) (page : ℕ) (node : Node) (back branches : List Branch)
    (has : Type 0) (result : Result Unit TreeError) → IfOk result (λ _. has) → (has → IsSettled are_corners old new old_free new_free l front page node back branches)
    → Settles are_corners old new old_free new_free l front page node back branches result
if-settled are_corners old new old_free new_free l front page node back branches has (Ok x) is then = then is
if-settled are_corners old new old_free new_free l front page node back branches has (Err why) is then = tt

abbrev pub blank : Branch
blank = record { key = 0; id = 0; child = 0; low = 0; high = 0 }

module _ {S : Type 0} (joined : S → S → S) (entry_box : Entry → Option S) (keys : S → ℕ × ℕ) (in_pool : ℕ → Bool) (old : ℕ → List ℕ) (free : List ℕ) (bs : List Branch) (at : ℕ) (es : List Entry)
    (lost : HasLostRow (HasCorners joined entry_box keys) entry_box in_pool old free 0 (take at bs) (child_at bs at) (Leaf es) (drop (at + 1) bs)) where
  abbrev f : List Branch
  f = take at bs

  abbrev b : List Branch
  b = drop (at + 1) bs

  abbrev p : ℕ
  p = child_at bs at

  pages-here : (m : ℕ) → times m (pages_among old 0 f p (Leaf es) b) ≡ times m (pages_under_all old 0 f) + (one_if p m + times m (pages_under_all old 0 b))
  pages-here m = omega (arith, among-times m old 0 f p (Leaf es) b, leaf-pages m old es)

  list-here : list_among old 0 f (Leaf es) b ≡ list_under_all old 0 f ++ (es ++ list_under_all old 0 b)
  list-here = ap (λ (xs : List Entry). list_under_all old 0 f ++ (xs ++ list_under_all old 0 b)) (leaf-entries old es)

  -- the leaf has summaries
  pub own-boxes : AllByRecursion (λ (e : Entry). IsSome (entry_box e)) es
  own-boxes =
      all-front (λ (e : Entry). IsSome (entry_box e)) es (list_under_all old 0 b)
      (all-back (λ (e : Entry). IsSome (entry_box e)) (list_under_all old 0 f) (es ++ list_under_all old 0 b) (subst (AllByRecursion (λ (e : Entry). IsSome (entry_box e))) list-here lost.boxes))

  -- it is stored
  pub stored-settles : (new : ℕ → List ℕ) (new_free : List ℕ) (are : List Branch) → LEAST_ENTRIES ≤ length es
      → HasStored (λ (rows : List Entry). Leaf rows) (IsLeafPart joined entry_box) keys at bs are es old new free new_free
      → IsSettled (HasCorners joined entry_box keys) old new free new_free 0 (take at bs) (child_at bs at) (Leaf es) (drop (at + 1) bs) are
  stored-settles new new_free are enough st =
      let c = branch_of keys st.part in
      let alone : (m : ℕ) → times m (pages_under_all new 0 (c ∷ [])) ≡ one_if p m = alone-times joined entry_box keys new p es st.part st.written.here st.is in
      settled-among (HasCorners joined entry_box keys) old new free new_free 0 f (c ∷ []) b (p ∷ []) es
      (λ m. omega (arith, lost.own.once m, pages-here m, times-one m p))
      (λ m. omega (arith, times-one m p, ap (times m) st.free, alone m))
      (λ m none. st.written.others m (one-none p m (omega (arith, none, alone m))))
      (alone-list joined entry_box keys new p es st.part st.written.here st.is)
      (alone-children joined entry_box keys new p es st.part st.written.here st.is enough)
      lost.before lost.behind f b are p (Leaf es)
      (λ m. omega (arith, pages-here m, times-one m p))
      list-here
      (st.branches ∙ append_assoc f (c ∷ []) b)
      (omega (arith, length-append f (c ∷ b)))

  -- it is mended with a neighbour
  module _ (front back : List Branch) (one two : ℕ) (rows : List Entry)
      (same_pages : (m : ℕ) → times m (pages_among old 0 f p (Leaf es) b) ≡ times m (pages_under_all old 0 front) + ((one_if one m + one_if two m) + times m (pages_under_all old 0 back)))
      (same_list : list_among old 0 f (Leaf es) b ≡ list_under_all old 0 front ++ (rows ++ list_under_all old 0 back))
      (before : AreChildren (HasCorners joined entry_box keys) old 0 front) (behind : AreChildren (HasCorners joined entry_box keys) old 0 back)
      (enough : LEAST_ENTRIES ≤ length rows) (count : length f + length b ≤ length front + (1 + length back)) where
    differ : one ≡ two → ⊥
    differ same = omega (arith, lost.own.once one, same_pages one, one_same one, subst (λ (k : ℕ). one_if k one ≡ 1) same (one_same one))

    pair-settles : (new : ℕ → List ℕ) (new_free : List ℕ) (are : List Branch) (mended : Mended S)
        → Mends (λ (es : List Entry). Leaf es) (IsLeafPart joined entry_box) LEAST_ENTRIES MOST_ENTRIES one two rows old new free new_free (Ok mended)
        → are ≡ front ++ (branches_of_mended keys mended ++ back) → IsSettled (HasCorners joined entry_box keys) old new free new_free 0 f p (Leaf es) b are
    pair-settles new new_free are mended mends is =
        let mid = branches_of_mended keys mended in
        let stands = mended-stands joined entry_box keys new old free new_free one two rows mended enough differ mends in
        settled-among (HasCorners joined entry_box keys) old new free new_free 0 front mid back (one ∷ two ∷ []) rows
        (λ m. omega (arith, lost.own.once m, same_pages m, times-two m one two))
        stands.moved stands.outside stands.list stands.children before behind f b are p (Leaf es)
        (λ m. omega (arith, same_pages m, times-two m one two))
        same_list is
        (omega (arith, count, length-append front (mid ++ back), length-append mid back, some-mended keys mended))

    pair-boxes : AllByRecursion (λ (e : Entry). IsSome (entry_box e)) rows
    pair-boxes =
        all-front (λ (e : Entry). IsSome (entry_box e)) rows (list_under_all old 0 back)
        (all-back (λ (e : Entry). IsSome (entry_box e)) (list_under_all old 0 front) (rows ++ list_under_all old 0 back)
        (subst (AllByRecursion (λ (e : Entry). IsSome (entry_box e))) same_list lost.boxes))

    pair-live : (n : ℕ) → 1 ≤ one_if one n + one_if two n → IsTrue (is_live in_pool free n)
    pair-live n some = own_live in_pool free (pages_among old 0 f p (Leaf es) b) n lost.own (omega (arith, same_pages n, some))

  -- ---- the leaf behind it

  module _ (below : at + 1 < length bs) where
    abbrev c : Branch
    c = get_or bs (at + 1) blank

    abbrev back : List Branch
    back = drop (at + 2) bs

    dropped : b ≡ c ∷ back
    dropped = let next : suc (at + 1) ≡ at + 2 = omega arith in drop-next bs (at + 1) blank below ∙ ap (λ (k : ℕ). c ∷ drop k bs) next

    behind : AreChildren (HasCorners joined entry_box keys) old 0 (c ∷ back)
    behind = subst (AreChildren (HasCorners joined entry_box keys) old 0) dropped lost.behind

    own : IsBranchOf (HasCorners joined entry_box keys) old 0 c × AreNodesUnder (HasCorners joined entry_box keys) old 0 c.child
    own = children-first (HasCorners joined entry_box keys) old 0 c back behind

    -- it is a leaf
    pub next-leaf : (ns : List Entry) × (node_in (old (child_at bs (at + 1))) ≡ Some (Leaf ns))
    next-leaf = leaf-of (HasCorners joined entry_box keys) old c.child own.1

    next-pages : (m : ℕ) → times m (pages_among old 0 f p (Leaf es) b) ≡ times m (pages_under_all old 0 f) + ((one_if p m + one_if c.child m) + times m (pages_under_all old 0 back))
    next-pages m =
        omega (arith, pages-here m, ap (λ (cs : List Branch). times m (pages_under_all old 0 cs)) dropped, times_all-cons m old 0 c back, ap (times m) (pages-leaf old c.child), times-one m c.child)

    module _ (ns : List Entry) (node : node_in (old (child_at bs (at + 1))) ≡ Some (Leaf ns)) where
      next-list : list_among old 0 f (Leaf es) b ≡ list_under_all old 0 f ++ ((es ++ ns) ++ list_under_all old 0 back)
      next-list =
          list-here
          ∙ ap (λ (xs : List Entry). list_under_all old 0 f ++ (es ++ xs))
          (ap (list_under_all old 0) dropped ∙ list_all-cons old 0 c back ∙ ap (λ (xs : List Entry). xs ++ list_under_all old 0 back) (list-leaf old c.child ns node))
          ∙ ap (λ (xs : List Entry). list_under_all old 0 f ++ xs) (sym (append_assoc es ns (list_under_all old 0 back)))

      next-enough : LEAST_ENTRIES ≤ length (es ++ ns)
      next-enough =
          let filled : LEAST_ENTRIES ≤ length ns = subst (λ (o : Option Node). LEAST_ENTRIES ≤ rows_in o) node own.0.filled in
          omega (arith, length-append es ns, filled)

      next-count : length f + length b ≤ length f + (1 + length back)
      next-count = omega (arith, ap (λ (cs : List Branch). length cs) dropped)

      pub next-boxes : AllByRecursion (λ (e : Entry). IsSome (entry_box e)) (es ++ ns)
      next-boxes =
          pair-boxes f back p c.child (es ++ ns) next-pages next-list lost.before (children-others (HasCorners joined entry_box keys) old 0 c back behind) next-enough next-count

      pub next-lives : IsTrue (is_live in_pool free (child_at bs at)) × IsTrue (is_live in_pool free (child_at bs (at + 1)))
      next-lives =
          let live = pair-live f back p c.child (es ++ ns) next-pages next-list lost.before (children-others (HasCorners joined entry_box keys) old 0 c back behind) next-enough next-count in
          (live p (omega (arith, one_same p)), live c.child (omega (arith, one_same c.child)))

      pub next-settles : (new : ℕ → List ℕ) (new_free : List ℕ) (are : List Branch)
          → HasMended (λ (rows : List Entry). Leaf rows) (IsLeafPart joined entry_box) LEAST_ENTRIES MOST_ENTRIES keys at bs are (es ++ ns) old new free new_free
          → IsSettled (HasCorners joined entry_box keys) old new free new_free 0 (take at bs) (child_at bs at) (Leaf es) (drop (at + 1) bs) are
      next-settles new new_free are has =
          pair-settles f back p c.child (es ++ ns) next-pages next-list lost.before (children-others (HasCorners joined entry_box keys) old 0 c back behind) next-enough next-count
          new new_free are has.mended has.mends (has.branches ∙ append_assoc f (branches_of_mended keys has.mended) back)

  -- ---- the leaf before it

  module _ (some : 1 ≤ at) (below : at < length bs) where
    abbrev d : Branch
    d = get_or bs (at - 1) blank

    abbrev front : List Branch
    front = take (at - 1) bs

    up : at - 1 + 1 ≡ at
    up = omega (arith, some)

    taken : f ≡ front ++ d ∷ []
    taken = ap (λ (k : ℕ). take k bs) (sym up) ∙ take_more bs (at - 1) blank (omega (arith, below))

    parts : AreChildren (HasCorners joined entry_box keys) old 0 (front ++ d ∷ [])
    parts = subst (AreChildren (HasCorners joined entry_box keys) old 0) taken lost.before

    prior : IsBranchOf (HasCorners joined entry_box keys) old 0 d × AreNodesUnder (HasCorners joined entry_box keys) old 0 d.child
    prior = children-first (HasCorners joined entry_box keys) old 0 d [] (children-back (HasCorners joined entry_box keys) old 0 front (d ∷ []) parts)

    -- it is a leaf
    pub previous-leaf : (ns : List Entry) × (node_in (old (child_at bs (at - 1))) ≡ Some (Leaf ns))
    previous-leaf = leaf-of (HasCorners joined entry_box keys) old d.child prior.1

    previous-pages : (m : ℕ) → times m (pages_among old 0 f p (Leaf es) b) ≡ times m (pages_under_all old 0 front) + ((one_if d.child m + one_if p m) + times m (pages_under_all old 0 b))
    previous-pages m =
        omega (
          arith,
          pages-here m,
          ap (λ (cs : List Branch). times m (pages_under_all old 0 cs)) taken,
          times_all-append m old 0 front (d ∷ []),
          single_times m old 0 d,
          ap (times m) (pages-leaf old d.child),
          times-one m d.child,
        )

    module _ (ns : List Entry) (node : node_in (old (child_at bs (at - 1))) ≡ Some (Leaf ns)) where
      previous-list : list_among old 0 f (Leaf es) b ≡ list_under_all old 0 front ++ ((ns ++ es) ++ list_under_all old 0 b)
      previous-list =
          list-here
          ∙ ap (λ (xs : List Entry). xs ++ (es ++ list_under_all old 0 b))
          (ap (list_under_all old 0) taken ∙ list_all-append old 0 front (d ∷ []) ∙ ap (λ (xs : List Entry). list_under_all old 0 front ++ xs) (single_list old 0 d ∙ list-leaf old d.child ns node))
          ∙ append_assoc (list_under_all old 0 front) ns (es ++ list_under_all old 0 b)
          ∙ ap (λ (xs : List Entry). list_under_all old 0 front ++ xs) (sym (append_assoc ns es (list_under_all old 0 b)))

      previous-enough : LEAST_ENTRIES ≤ length (ns ++ es)
      previous-enough =
          let filled : LEAST_ENTRIES ≤ length ns = subst (λ (o : Option Node). LEAST_ENTRIES ≤ rows_in o) node prior.0.filled in
          omega (arith, length-append ns es, filled)

      previous-count : length f + length b ≤ length front + (1 + length b)
      previous-count = omega (arith, ap (λ (cs : List Branch). length cs) taken, length-append front (d ∷ []))

      pub previous-boxes : AllByRecursion (λ (e : Entry). IsSome (entry_box e)) (ns ++ es)
      previous-boxes =
          pair-boxes front b d.child p (ns ++ es) previous-pages previous-list (children-front (HasCorners joined entry_box keys) old 0 front (d ∷ []) parts) lost.behind previous-enough previous-count

      pub previous-lives : IsTrue (is_live in_pool free (child_at bs (at - 1))) × IsTrue (is_live in_pool free (child_at bs (at - 1 + 1)))
      previous-lives =
          let live = pair-live front b d.child p (ns ++ es) previous-pages previous-list (children-front (HasCorners joined entry_box keys) old 0 front (d ∷ []) parts) lost.behind previous-enough previous-count in
          (live d.child (omega (arith, one_same d.child)), subst (λ (k : ℕ). IsTrue (is_live in_pool free (child_at bs k))) (sym up) (live p (omega (arith, one_same p))))

      pub previous-settles : (new : ℕ → List ℕ) (new_free : List ℕ) (are : List Branch)
          → HasMended (λ (rows : List Entry). Leaf rows) (IsLeafPart joined entry_box) LEAST_ENTRIES MOST_ENTRIES keys (at - 1) bs are (ns ++ es) old new free new_free
          → IsSettled (HasCorners joined entry_box keys) old new free new_free 0 (take at bs) (child_at bs at) (Leaf es) (drop (at + 1) bs) are
      previous-settles new new_free are has =
          let behind_it : at - 1 + 2 ≡ at + 1 = omega (arith, some) in
          let mid = branches_of_mended keys has.mended in
          pair-settles front b d.child p (ns ++ es) previous-pages previous-list (children-front (HasCorners joined entry_box keys) old 0 front (d ∷ []) parts) lost.behind previous-enough previous-count
          new new_free are has.mended
          (subst (λ (k : ℕ). Mends (λ (rows : List Entry). Leaf rows) (IsLeafPart joined entry_box) LEAST_ENTRIES MOST_ENTRIES d.child (child_at bs k) (ns ++ es) old new free new_free (Ok has.mended)) up has.mends)
          (has.branches ∙ append_assoc front mid (drop (at - 1 + 2) bs) ∙ ap (λ (k : ℕ). front ++ (mid ++ drop k bs)) behind_it)
