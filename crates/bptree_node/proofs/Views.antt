-- What a view of a page shows.
use Rattle.std.proofs.Common.{◌≡◌, ℕ, ◌+◌, ◌*◌, ◌<◌, Bool, true, false, List, length, get_or, slice_index, refl, sym, ap, ◌∙◌, subst, arith}
use Rattle.std.specs.Prelude.{IsTrue, if◌then◌else◌, Option, Some, None}
use Rattle.bptree_node.specs.declared.rows.Entry.{Entry}
use Rattle.bptree_node.specs.declared.rows.Branch.{Branch}
use Rattle.bptree_node.specs.declared.node.NodeView.TheInside.{Inside}
use Rattle.bptree_node.specs.Nodes.{Node, Leaf, Inner, node_in, entry_from, branch_from, entries_in, branches_in, is_leaf_page, is_inner_page, is_leaf, row_count, entries_of, branches_of, IsCount}
use Rattle.bptree_node.specs.Trees.{node_entries}
use Rattle.bptree_node.specs.NodeViews.{node_of, IsView}
use Rattle.bptree_node.specs.NodeLaws.{rows_known, leaf_known, leaf_counts, length-entries_in, length-branches_in, get_or-entries_in, get_or-branches_in}

-- the node of so many rows of a page
abbrev shown : Bool → ℕ → List ℕ → Node
shown leaf count page = if leaf then Leaf (entries_in count page) else Inner (branches_in count page)

counted : (leaf : Bool) (count : ℕ) (page : List ℕ) → count ≡ slice_index page 1 → (if leaf then is_leaf_page page else is_inner_page page) ≡ true
    → (count ≡ row_count (shown leaf count page)) × IsCount count (shown leaf count page)
counted true count page is has = let known = rows_known 1 1 30 16 page has in
    (sym (length-entries_in count page), (omega (arith, is, known.enough), omega (arith, is, known.few)))
counted false count page is has = let known = rows_known 2 2 14 32 page has in
    (sym (length-branches_in count page), (omega (arith, is, known.enough), omega (arith, is, known.few)))

-- a view has as many rows as its page says
pub count_shown : (v : Inside) (node : Node) → node_of v ≡ node → IsView v → (v.count ≡ row_count node) × IsCount v.count node
count_shown v node shows is = subst (λ (n : Node). (v.count ≡ row_count n) × IsCount v.count n) shows (counted v.is_leaf v.count v.page.now is.count is.kind)

-- the place is one of the page, and what is read there is the entry at this place
abbrev pub IsEntryPlace : List ℕ → ℕ → List Entry → Type 0
IsEntryPlace page i entries = (i < 30) × ((e : Entry) → e ≡ entry_from (32 + 16 * i) page → e ≡ get_or entries i e)

entry_placed : (leaf : Bool) (count : ℕ) (page : List ℕ) (i : ℕ) → count ≡ slice_index page 1 → (if leaf then is_leaf_page page else is_inner_page page) ≡ true
    → IsTrue (is_leaf (shown leaf count page)) → i < row_count (shown leaf count page) → IsEntryPlace page i (entries_of (shown leaf count page))
entry_placed true count page i is has leaf below = let known = rows_known 1 1 30 16 page has in
    let within : i < count = omega (arith, below, length-entries_in count page) in
    (omega (arith, within, is, known.few), λ e from. from ∙ sym (get_or-entries_in count page i e within))
entry_placed false count page i is has leaf below = absurd (cc)

-- the entries of a view
pub entry_shown : (v : Inside) (node : Node) (i : ℕ) → node_of v ≡ node → IsView v → IsTrue (is_leaf node) → i < row_count node → IsEntryPlace v.page.now i (entries_of node)
entry_shown v node i shows is =
    subst (λ (n : Node). IsTrue (is_leaf n) → i < row_count n → IsEntryPlace v.page.now i (entries_of n)) shows (entry_placed v.is_leaf v.count v.page.now i is.count is.kind)

-- the place is one of the page, and what is read there is the node's branch
abbrev pub IsBranchPlace : List ℕ → ℕ → Node → Type 0
IsBranchPlace page i node = (i < 14) × ((b : Branch) → b ≡ branch_from (32 + 32 * i) page → b ≡ get_or (branches_of node) i b)

branch_placed : (leaf : Bool) (count : ℕ) (page : List ℕ) (i : ℕ) → count ≡ slice_index page 1 → (if leaf then is_leaf_page page else is_inner_page page) ≡ true
    → is_leaf (shown leaf count page) ≡ false → i < row_count (shown leaf count page) → IsBranchPlace page i (shown leaf count page)
branch_placed true count page i is has inner below = absurd (cc)
branch_placed false count page i is has inner below = let known = rows_known 2 2 14 32 page has in
    let within : i < count = omega (arith, below, length-branches_in count page) in
    (omega (arith, within, is, known.few), λ b from. from ∙ sym (get_or-branches_in count page i b within))

-- the branches of a view
pub branch_shown : (v : Inside) (node : Node) (i : ℕ) → node_of v ≡ node → IsView v → is_leaf node ≡ false → i < row_count node → IsBranchPlace v.page.now i node
branch_shown v node i shows is =
    subst (λ (n : Node). is_leaf n ≡ false → i < row_count n → IsBranchPlace v.page.now i n) shows (branch_placed v.is_leaf v.count v.page.now i is.count is.kind)

leaf_placed : (page : List ℕ) (i : ℕ) (o : Option Node) → node_in page ≡ o → i < length (node_entries o) → IsEntryPlace page i (node_entries o)
leaf_placed page i None is below = absurd (omega (arith, below))
leaf_placed page i (Some (Inner branches)) is below = absurd (omega (arith, below))
leaf_placed page i (Some (Leaf entries)) is below =
    let rows : entries_in (slice_index page 1) page ≡ entries = (leaf_known page entries is).1 in
    let few = leaf_counts page entries is in
    let within : i < slice_index page 1 = omega (arith, below, length-entries_in (slice_index page 1) page, ap length rows) in (
      omega (arith, below, few.1),
      λ e from. from ∙ sym (get_or-entries_in (slice_index page 1) page i e within) ∙ ap (λ (es : List Entry). get_or es i e) rows,
    )

-- the entries of a page, if it is a leaf
pub leaf_shown : (page : List ℕ) (i : ℕ) → i < length (node_entries (node_in page)) → IsEntryPlace page i (node_entries (node_in page))
leaf_shown page i below = leaf_placed page i (node_in page) refl below
