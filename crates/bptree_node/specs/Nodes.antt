-- Node pages, by what their bytes read as and by how they are spelled.
use Rattle.std.specs.Prelude.{◌≡◌, ℕ, ◌+◌, ◌-◌, ◌*◌, ◌^◌, ◌<◌, ◌≤◌, ◌==◌, nat_le, Bool, true, false, ◌&&◌, if◌then◌else◌, List, [], ◌∷◌, ◌++◌, length, map, take, drop, replicate, slice_index, Option, Some, None, All}
use Rattle.std.specs.List.{flat_map, range_with_len}
use Rattle.std.specs.Int.{w32, w64, to_be_bytes}
use Rattle.byteorder.specs.Endian.{big_number}
use Rattle.page_laws.specs.declared.pages.TheConstants.{PAGE_SIZE}
use Rattle.page_laws.specs.Pages.{are_zero}
use Rattle.bptree_node.specs.declared.layout.TheConstants.{LEAF, INNER, ROWS_AT, ENTRY_SIZE, BRANCH_SIZE, MOST_ENTRIES, MOST_BRANCHES}
use Rattle.bptree_node.specs.declared.rows.Entry.{Entry}
use Rattle.bptree_node.specs.declared.rows.Branch.{Branch}

-- a node: its entries, or its branches
pub data Node : Type 0 where
  Leaf : List Entry → Node
  Inner : List Branch → Node

abbrev pub is_leaf : Node → Bool
is_leaf (Leaf entries) = true
is_leaf (Inner branches) = false

abbrev pub entries_of : Node → List Entry
entries_of (Leaf entries) = entries
entries_of (Inner branches) = []

abbrev pub branches_of : Node → List Branch
branches_of (Leaf entries) = []
branches_of (Inner branches) = branches

abbrev pub row_count : Node → ℕ
row_count (Leaf entries) = length entries
row_count (Inner branches) = length branches

-- the number is one of rows that a node of this kind may have
abbrev pub IsCount : ℕ → Node → Type 0
IsCount count (Leaf entries) = (1 ≤ count) × (count ≤ MOST_ENTRIES)
IsCount count (Inner branches) = (2 ≤ count) × (count ≤ MOST_BRANCHES)

-- ---- as it is read

-- the number in the eight bytes from a place on, and in four
unfoldable pub long_at : ℕ → List ℕ → ℕ
long_at at page = big_number 8 (drop at page)

unfoldable pub word_at : ℕ → List ℕ → ℕ
word_at at page = big_number 4 (drop at page)

-- the entry whose bytes begin at a place: key, id, slot
abbrev pub entry_from : ℕ → List ℕ → Entry
entry_from at page = record { key = long_at at page; id = word_at (at + 8) page; slot = word_at (at + 12) page }

-- the branch whose bytes begin at a place: key, id, child, low corner, high corner
abbrev pub branch_from : ℕ → List ℕ → Branch
branch_from at page = record {
  key = long_at at page;
  id = word_at (at + 8) page;
  child = word_at (at + 12) page;
  low = long_at (at + 16) page;
  high = long_at (at + 24) page;
}

-- the first so many entries of a page
unfoldable pub entries_in : ℕ → List ℕ → List Entry
entries_in count page = map (λ i. entry_from (ROWS_AT + ENTRY_SIZE * i) page) (range_with_len 0 count)

-- the first so many branches of a page
unfoldable pub branches_in : ℕ → List ℕ → List Branch
branches_in count page = map (λ i. branch_from (ROWS_AT + BRANCH_SIZE * i) page) (range_with_len 0 count)

-- whether a page has this kind, a number of rows within these bounds, and zeros wherever no row is
unfoldable pub has_rows : (kind least most size : ℕ) → List ℕ → Bool
has_rows kind least most size page =
    (slice_index page 0 == kind) && nat_le least (slice_index page 1) && nat_le (slice_index page 1) most
    && are_zero (take (ROWS_AT - 2) (drop 2 page)) && are_zero (drop (ROWS_AT + size * slice_index page 1) page)

abbrev pub is_leaf_page : List ℕ → Bool
is_leaf_page page = has_rows LEAF 1 MOST_ENTRIES ENTRY_SIZE page

abbrev pub is_inner_page : List ℕ → Bool
is_inner_page page = has_rows INNER 2 MOST_BRANCHES BRANCH_SIZE page

-- the node that a page is
unfoldable pub node_in : List ℕ → Option Node
node_in page =
    if is_leaf_page page then Some (Leaf (entries_in (slice_index page 1) page))
    else if is_inner_page page then Some (Inner (branches_in (slice_index page 1) page))
    else None

-- ---- as it is spelled

unfoldable pub entry_bytes : Entry → List ℕ
entry_bytes e = to_be_bytes w64 e.key ++ to_be_bytes w32 e.id ++ to_be_bytes w32 e.slot

unfoldable pub branch_bytes : Branch → List ℕ
branch_bytes b = to_be_bytes w64 b.key ++ to_be_bytes w32 b.id ++ to_be_bytes w32 b.child ++ to_be_bytes w64 b.low ++ to_be_bytes w64 b.high

-- a page of this kind with so many rows, their bytes, and zeros wherever no row is
unfoldable pub spelled : ℕ → ℕ → List ℕ → List ℕ
spelled kind count rows = kind ∷ count ∷ replicate (ROWS_AT - 2) 0 ++ rows ++ replicate (PAGE_SIZE - ROWS_AT - length rows) 0

-- the page of a leaf, and of an inner node
abbrev pub leaf_page : List Entry → List ℕ
leaf_page entries = spelled LEAF (length entries) (flat_map entry_bytes entries)

abbrev pub inner_page : List Branch → List ℕ
inner_page branches = spelled INNER (length branches) (flat_map branch_bytes branches)

-- ---- what fits

-- an entry's fields fit their bytes
pub record FitsEntry (e : Entry) : Type 0 where
  pub key : e.key < 2 ^ 64
  pub id : e.id < 2 ^ 32
  pub slot : e.slot < 2 ^ 32

-- a branch's fields fit their bytes
pub record FitsBranch (b : Branch) : Type 0 where
  pub key : b.key < 2 ^ 64
  pub id : b.id < 2 ^ 32
  pub child : b.child < 2 ^ 32
  pub low : b.low < 2 ^ 64
  pub high : b.high < 2 ^ 64

-- as many entries as a leaf may have, which fit
pub record AreEntries (entries : List Entry) : Type 0 where
  pub some : 1 ≤ length entries
  pub few : length entries ≤ MOST_ENTRIES
  pub fit : All FitsEntry entries

-- as many branches as an inner node may have, which fit
pub record AreBranches (branches : List Branch) : Type 0 where
  pub some : 2 ≤ length branches
  pub few : length branches ≤ MOST_BRANCHES
  pub fit : All FitsBranch branches

-- the bytes of a page
pub record IsPage (page : List ℕ) : Type 0 where
  pub len : length page ≡ PAGE_SIZE
  pub bytes : All (λ b. b < 256) page
