-- Laws of the tables of slots.
use Rattle.std.proofs.Common.{◌≡◌, inl, inr, ℕ, zero, suc, ◌+◌, ◌≤◌, ◌<◌, ◌==◌, Bool, true, false, cond, not, ◌&&◌, List, [], ◌∷◌, ◌++◌, length, map, get_or, refl, sym, ap, subst, ◌∙◌, arith}
use Rattle.std.specs.Prelude.{◌%◌, nat_lt, Some, None, if◌then◌else◌, take, drop, slice_index}
use Rattle.std.specs.List.{AllByRecursion, IsDistinct, cons_option, filter}
use Rattle.std.specs.List.Sorted.{IsPermutation}
use Rattle.std.specs.Map.{keys_of}
use Rattle.std.specs.Ordering.{is_eq, eq_by_cmp, nat_cmp}
use Rattle.std.specs.Cmp.{unsigned_tied, tied_then}
use Rattle.std.proofs.lemmas.Bool.{cases_eq, false≢true}
use Rattle.std.proofs.lemmas.Bool.Decides.{nat_tests}
use Rattle.std.proofs.lemmas.List.Elements.{All-from_recursion}
use Rattle.std.proofs.lemmas.List.Sorted.{IsPermutation-refl, IsPermutation-sym, IsPermutation-cons, IsPermutation-trans, IsPermutation-map, IsPermutation-middle, IsPermutation-append, IsPermutation-append_right, All-permutation, length_permutation}
use Rattle.std.proofs.lemmas.Cmp.{nat_eq_equiv}
use Rattle.std.proofs.lemmas.Map.Keys.{IsDistinct-from_sorted, IsDistinct-head, IsDistinct-tail, IsDistinct-cons, IsDistinct-IsPermutation, apart_from_distinct}
use Rattle.std.proofs.lemmas.List.{length-map, get_or-map}
use Rattle.answer_lists.specs.Order.{sorted_by}
use Rattle.answer_lists.specs.OrderLaws.{sorted_by-permutation}
use Rattle.answer_lists.specs.Permutations.{permutation-filter, permutation-filter_map}
use Rattle.metrics_builtin.specs.declared.Space.{Space}
use Rattle.spb_defs.specs.Scans.{Entry}
use Rattle.spb_defs.specs.State.{Key, Members, key_cmp}
use Rattle.scan_laws.specs.Tables.{HasDistinctEntryIds, key_before, keyed_entries, keyed_tables, members_of}
use Rattle.scan_laws.specs.Members.{key_order, members_of-rising}
use Rattle.scan_laws.specs.Sorted.{distinct-moved, sorted_by-same_keys}
use Rattle.object_file.specs.Slots.{Slot, Free, Holds, Broken, slot_of, slot_bytes, is_filled_slot, id_in}
use Rattle.object_file.specs.declared.slots.TheConstants.{OBJECT_AT, COLLECTIONS, FREE_MARK}
use Rattle.object_file.specs.declared.file.TheConstants.{SLOTS_PER_PAGE}
use Rattle.object_file.specs.ObjectFile.{slot_at, slot_page, SetsSlot}
use Rattle.store_check.specs.Stands.{Placed, member_of, placed_in, placed, placed_members, IsReadable, HoldsMembers}
use Rattle.slot_laws.specs.SlotTables.{SlotRow, entries_of, row_in, slot_rows, IsTableIn, IsTableOf, slot_table, AreTablesOf, GainsRow, HaveDistinctIds, AreInSlots}
use Rattle.slot_laws.specs.PlacedLaws.{not_free, placed_here, IsInSlot, all_in_slots}
use Rattle.slot_laws.specs.ChangeLaws.{exact_keys, HasDistinctMembers, filled_placed, cleared_placed}

-- ---- the rows of a list of what is placed

same_number : (d c : ℕ) → d ≡ c → (c == d) ≡ true
same_number d c e = grind (arith, nat_tests, e)

other_number : (d c : ℕ) → (d ≡ c → ⊥) → (c == d) ≡ false
other_number d c other = grind (arith, nat_tests, other)

the_number : (c d : ℕ) → (c == d) ≡ true → c ≡ d
the_number c d is = grind (arith, nat_tests, is)

-- the row of what is placed
abbrev pub row_of : Placed → SlotRow
row_of p = (p.slot, (p.id, p.object))

rows_here : (d : ℕ) (p : Placed) (ps : List Placed) → d ≡ p.collection → slot_rows d (p ∷ ps) ≡ row_of p ∷ slot_rows d ps
unfolding slot_rows
rows_here d p ps e = ap (λ b. cons_option (if b then Some (row_of p) else None) (slot_rows d ps)) (same_number d p.collection e)

rows_past : (d : ℕ) (p : Placed) (ps : List Placed) → (d ≡ p.collection → ⊥) → slot_rows d (p ∷ ps) ≡ slot_rows d ps
unfolding slot_rows
rows_past d p ps other = ap (λ b. cons_option (if b then Some (row_of p) else None) (slot_rows d ps)) (other_number d p.collection other)

rows_moved : (c : ℕ) (ps qs : List Placed) → IsPermutation ps qs → IsPermutation (slot_rows c ps) (slot_rows c qs)
unfolding slot_rows
rows_moved c ps qs moved = permutation-filter_map (row_in c) ps qs moved

pub rows_none : (c : ℕ) → slot_rows c [] ≡ []
unfolding slot_rows
rows_none c = refl

-- ---- all rows are the members

-- the members of n collections from d on
keyed_rows : ℕ → ℕ → List Placed → Members
keyed_rows d zero ps = []
keyed_rows d (suc n) ps = keyed_entries d (entries_of (slot_rows d ps)) ++ keyed_rows (suc d) n ps

abbrev keyed_table : ℕ → List SlotRow → Members
keyed_table d table = keyed_entries d (entries_of table)

keyed_past : (d n : ℕ) (p : Placed) (ps : List Placed) → p.collection < d → keyed_rows d n (p ∷ ps) ≡ keyed_rows d n ps
unfolding keyed_rows
keyed_past d zero p ps below = refl
keyed_past d (suc n) p ps below =
    ap (λ rows. keyed_table d rows ++ keyed_rows (suc d) n (p ∷ ps)) (rows_past d p ps (λ e. omega (arith, below, e)))
    ∙ ap (λ more. keyed_table d (slot_rows d ps) ++ more) (keyed_past (suc d) n p ps (omega (arith, below)))

member_is : (d : ℕ) (p : Placed) → d ≡ p.collection → ◌≡◌ {A = Key × List ℕ} ((d, p.id), p.object) (member_of p)
member_is d p e = ap (λ k. ((k, p.id), p.object)) e

keyed_more : (d n : ℕ) (p : Placed) (ps : List Placed) → d ≤ p.collection → p.collection < d + n
    → IsPermutation (keyed_rows d n (p ∷ ps)) (member_of p ∷ keyed_rows d n ps)
unfolding keyed_rows
keyed_more d zero p ps least below = absurd (omega (arith, least, below))
keyed_more d (suc n) p ps least below = elim (cases_eq d p.collection) [
  | inl here ↦
      let front : (keyed_table d (slot_rows d (p ∷ ps)) ++ keyed_rows (suc d) n (p ∷ ps)) ≡ (member_of p ∷ (keyed_table d (slot_rows d ps) ++ keyed_rows (suc d) n ps)) =
      ap (λ rows. keyed_table d rows ++ keyed_rows (suc d) n (p ∷ ps)) (rows_here d p ps here)
      ∙ ap (λ m. m ∷ (keyed_table d (slot_rows d ps) ++ keyed_rows (suc d) n (p ∷ ps))) (member_is d p here)
      ∙ ap (λ more. member_of p ∷ (keyed_table d (slot_rows d ps) ++ more)) (keyed_past (suc d) n p ps (omega (arith, here))) in
      subst (IsPermutation (keyed_table d (slot_rows d (p ∷ ps)) ++ keyed_rows (suc d) n (p ∷ ps))) front (IsPermutation-refl _)
  | inr other ↦ subst (λ rows. IsPermutation (keyed_table d rows ++ keyed_rows (suc d) n (p ∷ ps)) (member_of p ∷ (keyed_table d (slot_rows d ps) ++ keyed_rows (suc d) n ps)))
      (sym (rows_past d p ps other))
      (IsPermutation-trans _ _ _
      (IsPermutation-append_right (keyed_table d (slot_rows d ps)) (keyed_rows (suc d) n (p ∷ ps)) (member_of p ∷ keyed_rows (suc d) n ps)
      (keyed_more (suc d) n p ps (omega (arith, least, other)) (omega (arith, below))))
      (IsPermutation-middle (keyed_table d (slot_rows d ps)) (member_of p) (keyed_rows (suc d) n ps)))
]

keyed_empty : (d n : ℕ) → keyed_rows d n [] ≡ []
unfolding keyed_rows
keyed_empty d zero = refl
keyed_empty d (suc n) = ap (λ rows. keyed_table d rows ++ keyed_rows (suc d) n []) (rows_none d) ∙ keyed_empty (suc d) n

-- what is placed is of one of the four collections
abbrev pub AreInCollections : List Placed → Type 0
AreInCollections ps = AllByRecursion (λ p. p.collection < 4) ps

all_keyed : (ps : List Placed) → AreInCollections ps → IsPermutation (map member_of ps) (keyed_rows 0 4 ps)
all_keyed [] all = subst (IsPermutation []) (sym (keyed_empty 0 4)) (IsPermutation-refl [])
all_keyed (p ∷ ps) all = IsPermutation-trans _ _ _
    (IsPermutation-cons (member_of p) (map member_of ps) (keyed_rows 0 4 ps) (all_keyed ps all.1))
    (IsPermutation-sym (keyed_rows 0 4 (p ∷ ps)) (member_of p ∷ keyed_rows 0 4 ps) (keyed_more 0 4 p ps (omega arith) all.0))

-- four tables in any order
four_tables : (ps : List Placed) (tables : List (List SlotRow)) → length tables ≡ 4 → ((c : ℕ) → c < 4 → IsPermutation (slot_table tables c) (slot_rows c ps))
    → IsPermutation (keyed_tables 0 (map entries_of tables)) (keyed_rows 0 4 ps)
unfolding keyed_rows
four_tables ps (a ∷ b ∷ c ∷ d ∷ []) long each = joined 0 a ps _ _ (each 0 (omega arith))
    (joined 1 b ps _ _ (each 1 (omega arith)) (joined 2 c ps _ _ (each 2 (omega arith)) (joined 3 d ps _ _ (each 3 (omega arith)) (IsPermutation-refl []))))
  where
    joined : (d : ℕ) (table : List SlotRow) (ps : List Placed) (us vs : Members) → IsPermutation table (slot_rows d ps) → IsPermutation us vs
        → IsPermutation (keyed_table d table ++ us) (keyed_table d (slot_rows d ps) ++ vs)
    joined d table ps us vs moved rest = IsPermutation-append _ _ _ _
        (IsPermutation-map (λ (row : Entry). ((d, row.0), row.1)) (entries_of table) (entries_of (slot_rows d ps))
        (IsPermutation-map (λ (row : SlotRow). row.1) table (slot_rows d ps) moved)) rest
four_tables ps [] long each = absurd (omega (arith, long))
four_tables ps (a ∷ []) long each = absurd (omega (arith, long))
four_tables ps (a ∷ b ∷ []) long each = absurd (omega (arith, long))
four_tables ps (a ∷ b ∷ c ∷ []) long each = absurd (omega (arith, long))
four_tables ps (a ∷ b ∷ c ∷ d ∷ e ∷ rest) long each = absurd (omega (arith, long))

-- ---- the collections of slots

front : (a b c d : Bool) → (a && b && c && d) ≡ true → a ≡ true
front true b c d is = refl
front false b c d is = absurd (false≢true is)

holds_if : (free filled : Bool) (k i c id : ℕ) (bytes object : List ℕ) → (if free then Free else if filled then Holds k i bytes else Broken) ≡ Holds c id object
    → (k ≡ c) × (filled ≡ true)
holds_if true filled k i c id bytes object e = absurd cc
holds_if false true k i c id bytes object e = let same : k ≡ c = cc in (same, refl)
holds_if false false k i c id bytes object e = absurd cc

below_four : (k c : ℕ) → nat_lt k COLLECTIONS ≡ true → k ≡ c → c < 4
below_four k c is e = grind (arith, nat_tests, is, e)

collection_of : (bytes : List ℕ) (c id : ℕ) (object : List ℕ) → slot_of bytes ≡ Holds c id object → c < 4
unfolding slot_of
collection_of bytes c id object e =
    let parts = holds_if (slice_index bytes 0 == FREE_MARK) (is_filled_slot bytes) (slice_index bytes 0) (id_in bytes) c id
    (take (slice_index bytes 1) (drop OBJECT_AT bytes)) object e in
    below_four (slice_index bytes 0) c (front _ _ _ _ parts.1) parts.0

-- a filled slot is of one of the four collections
pub slots_are_of_collections : (home : ℕ → List ℕ) (slot c id : ℕ) (object : List ℕ) → slot_at home slot ≡ Holds c id object → c < 4
slots_are_of_collections home slot c id object filled = collection_of (slot_bytes (home (slot_page slot)) (slot % SLOTS_PER_PAGE)) c id object filled

all_collections : (cap : ℕ) (home : ℕ → List ℕ) (ps : List Placed) → AllByRecursion (IsInSlot cap (slot_at home)) ps → AreInCollections ps
all_collections cap home [] all = tt
all_collections cap home (p ∷ ps) all = (slots_are_of_collections home p.slot p.collection p.id p.object all.0.1, all_collections cap home ps all.1)

-- ---- tables and members

tables_keyed : (cap : ℕ) (home : ℕ → List ℕ) (tables : List (List SlotRow)) → length tables ≡ 4 → AreTablesOf cap home tables
    → IsPermutation (placed_members cap home) (keyed_tables 0 (map entries_of tables))
tables_keyed cap home tables long are = IsPermutation-trans _ _ _
    (all_keyed (placed cap home) (all_collections cap home (placed cap home) (all_in_slots cap (slot_at home))))
    (IsPermutation-sym _ _ (four_tables (placed cap home) tables long are))

-- the tables give the members
pub tables_give_members : (space : Space) (cap : ℕ) (home : ℕ → List ℕ) (members : Members) (tables : List (List SlotRow)) → HoldsMembers space cap home members
    → length tables ≡ 4 → AreTablesOf cap home tables → members ≡ members_of (map entries_of tables)
unfolding members_of
tables_give_members space cap home members tables holds long are =
    holds.members_are
    ∙ sorted_by-same_keys key_order exact_keys (placed_members cap home) (keyed_tables 0 (map entries_of tables)) (tables_keyed cap home tables long are) holds.distinct

each_distinct : (tables : List (List SlotRow)) → length tables ≡ 4 → HaveDistinctIds tables → AllByRecursion HasDistinctEntryIds (map entries_of tables)
each_distinct (a ∷ b ∷ c ∷ d ∷ []) long each = (each 0 (omega arith), (each 1 (omega arith), (each 2 (omega arith), (each 3 (omega arith), tt))))
each_distinct [] long each = absurd (omega (arith, long))
each_distinct (a ∷ []) long each = absurd (omega (arith, long))
each_distinct (a ∷ b ∷ []) long each = absurd (omega (arith, long))
each_distinct (a ∷ b ∷ c ∷ []) long each = absurd (omega (arith, long))
each_distinct (a ∷ b ∷ c ∷ d ∷ e ∷ rest) long each = absurd (omega (arith, long))

distinct_from_tables : (cap : ℕ) (home : ℕ → List ℕ) (tables : List (List SlotRow)) → length tables ≡ 4 → AreTablesOf cap home tables → HaveDistinctIds tables
    → IsDistinct (eq_by_cmp key_cmp) (keys_of (placed_members cap home))
unfolding members_of
distinct_from_tables cap home tables long are each =
    let all = keyed_tables 0 (map entries_of tables) in
    let sorted = IsDistinct-from_sorted key_cmp (keys_of (members_of (map entries_of tables))) (members_of-rising (map entries_of tables) (each_distinct tables long each)) in
    distinct-moved key_order all (placed_members cap home) (IsPermutation-sym _ _ (tables_keyed cap home tables long are))
    (distinct-moved key_order (sorted_by key_before all) all (sorted_by-permutation key_before all) sorted)

-- readable slots hold the members that their tables give, if no two rows of a table have the same id
pub read_slots_are_members : (space : Space) (cap : ℕ) (home : ℕ → List ℕ) (tables : List (List SlotRow))
    → ((slot : ℕ) → slot < cap → IsReadable space (slot_at home slot)) → length tables ≡ 4 → AreTablesOf cap home tables → HaveDistinctIds tables
    → HoldsMembers space cap home (members_of (map entries_of tables))
unfolding members_of
read_slots_are_members space cap home tables readable long are each =
    let distinct = distinct_from_tables cap home tables long are each in
    record {
      readable = readable;
      distinct = distinct;
      members_are = sym (sorted_by-same_keys key_order exact_keys (placed_members cap home) (keyed_tables 0 (map entries_of tables))
          (tables_keyed cap home tables long are) distinct);
    }

-- ---- the ids of a table

abbrev ids_of : List SlotRow → List ℕ
ids_of table = map (λ row. row.1.0) table

abbrev Apart : Key → List Placed → Type 0
Apart key ps = AllByRecursion (λ k. eq_by_cmp key_cmp key k ≡ false) (keys_of (map member_of ps))

key_is : (c id d i : ℕ) → eq_by_cmp key_cmp (c, id) (d, i) ≡ ((c == d) && (id == i))
key_is c id d i = sym (tied_then (nat_cmp c d) (nat_cmp id i)) ∙ ap (λ b. b && is_eq (nat_cmp id i)) (unsigned_tied c d)
    ∙ ap (λ b. (c == d) && b) (unsigned_tied id i)

ids_differ : (c id d i : ℕ) → c ≡ d → eq_by_cmp key_cmp (c, id) (d, i) ≡ false → (id == i) ≡ false
ids_differ c id d i e differ = by (sym (key_is c id d i) ∙ differ)
  where
    by : ((c == d) && (id == i)) ≡ false → (id == i) ≡ false
    by is = grind (arith, nat_tests, e, is)

apart_ids : (c id d : ℕ) (ps : List Placed) → c ≡ d → Apart (c, id) ps → AllByRecursion (λ i. (id == i) ≡ false) (ids_of (slot_rows d ps))
apart_ids c id d [] e apart = subst (λ rows. AllByRecursion (λ i. (id == i) ≡ false) (ids_of rows)) (sym (rows_none d)) tt
apart_ids c id d (p ∷ ps) e apart = elim (cases_eq d p.collection) [
  | inl here ↦ subst (λ rows. AllByRecursion (λ i. (id == i) ≡ false) (ids_of rows)) (sym (rows_here d p ps here))
      (ids_differ c id p.collection p.id (e ∙ here) apart.0, apart_ids c id d ps e apart.1)
  | inr other ↦ subst (λ rows. AllByRecursion (λ i. (id == i) ≡ false) (ids_of rows)) (sym (rows_past d p ps other)) (apart_ids c id d ps e apart.1)
]

no_ids : IsDistinct (λ (a : ℕ) (b : ℕ). a == b) []
unfolding IsDistinct
no_ids = tt

distinct_ids : (c : ℕ) (ps : List Placed) → HasDistinctMembers ps → IsDistinct (λ a b. a == b) (ids_of (slot_rows c ps))
distinct_ids c [] distinct = subst (λ rows. IsDistinct (λ a b. a == b) (ids_of rows)) (sym (rows_none c)) no_ids
distinct_ids c (p ∷ ps) distinct =
    let rest : HasDistinctMembers ps = IsDistinct-tail (eq_by_cmp key_cmp) (p.collection, p.id) (keys_of (map member_of ps)) distinct in
    elim (cases_eq c p.collection) [
      | inl here ↦ subst (λ rows. IsDistinct (λ a b. a == b) (ids_of rows)) (sym (rows_here c p ps here))
          (IsDistinct-cons (λ a b. a == b) p.id (ids_of (slot_rows c ps)) (apart_ids p.collection p.id c ps (sym here)
          (IsDistinct-head (eq_by_cmp key_cmp) (p.collection, p.id) (keys_of (map member_of ps)) distinct)) (distinct_ids c ps rest))
      | inr other ↦ subst (λ rows. IsDistinct (λ a b. a == b) (ids_of rows)) (sym (rows_past c p ps other)) (distinct_ids c ps rest)
    ]

id_twice : (n m : ℕ) → n ≡ m → (n == m) ≡ true
id_twice n m e = grind (arith, nat_tests, e)

-- rows of distinct ids
entries_differ : (table : List SlotRow) → IsDistinct (λ a b. a == b) (ids_of table) → HasDistinctEntryIds (entries_of table)
entries_differ table apart = λ i j d less inside same.
    let long : length (entries_of table) ≡ length table = length-map table (λ (row : SlotRow). row.1) in
    let many : length (ids_of table) ≡ length table = length-map table (λ (row : SlotRow). row.1.0) in
    let left : get_or (ids_of table) i d.0 ≡ (get_or (entries_of table) i d).0 =
    get_or-map (λ (row : SlotRow). row.1.0) table i (0, d) d.0 (omega (arith, less, inside, long))
    ∙ ap (λ (e : Entry). e.0) (sym (get_or-map (λ (row : SlotRow). row.1) table i (0, d) d (omega (arith, less, inside, long)))) in
    let right : get_or (ids_of table) j d.0 ≡ (get_or (entries_of table) j d).0 =
    get_or-map (λ (row : SlotRow). row.1.0) table j (0, d) d.0 (omega (arith, inside, long))
    ∙ ap (λ (e : Entry). e.0) (sym (get_or-map (λ (row : SlotRow). row.1) table j (0, d) d (omega (arith, inside, long)))) in
    false≢true (sym (apart_from_distinct (λ a b. a == b) (ids_of table) i j d.0 apart less (omega (arith, inside, long, many)))
    ∙ id_twice (get_or (ids_of table) i d.0) (get_or (ids_of table) j d.0) (left ∙ same ∙ sym right))

-- no two rows of a table have the same id
pub table_ids_differ : (space : Space) (cap c : ℕ) (home : ℕ → List ℕ) (members : Members) (table : List SlotRow) → HoldsMembers space cap home members
    → IsTableOf cap home c table → HasDistinctEntryIds (entries_of table)
table_ids_differ space cap c home members table holds is =
    entries_differ table (IsDistinct-IsPermutation (λ a b. a == b) nat_eq_equiv.symm (ids_of (slot_rows c (placed cap home))) (ids_of table)
    (IsPermutation-map (λ (row : SlotRow). row.1.0) (slot_rows c (placed cap home)) table (IsPermutation-sym table (slot_rows c (placed cap home)) is))
    (distinct_ids c (placed cap home) holds.distinct))

-- ---- the slots of rows

abbrev Sits : ℕ → (ℕ → Slot) → ℕ → SlotRow → Type 0
Sits cap slots c row = (row.0 < cap) × (slots row.0 ≡ Holds c row.1.0 row.1.1)

sitting : (cap : ℕ) (slots : ℕ → Slot) (c : ℕ) (ps : List Placed) → AllByRecursion (IsInSlot cap slots) ps → AllByRecursion (Sits cap slots c) (slot_rows c ps)
sitting cap slots c [] all = subst (AllByRecursion (Sits cap slots c)) (sym (rows_none c)) tt
sitting cap slots c (p ∷ ps) all = elim (cases_eq c p.collection) [
  | inl here ↦ subst (AllByRecursion (Sits cap slots c)) (sym (rows_here c p ps here))
      ((all.0.0, all.0.1 ∙ ap (λ d. Holds d p.id p.object) (sym here)), sitting cap slots c ps all.1)
  | inr other ↦ subst (AllByRecursion (Sits cap slots c)) (sym (rows_past c p ps other)) (sitting cap slots c ps all.1)
]

-- the slot of each row of a table holds it
pub rows_are_in_slots : (cap : ℕ) (slots : ℕ → Slot) (c : ℕ) (table : List SlotRow) → IsTableIn cap slots c table → AreInSlots cap slots c table
rows_are_in_slots cap slots c table is =
    All-permutation (Sits cap slots c) (slot_rows c (placed_in cap slots)) table (IsPermutation-sym table (slot_rows c (placed_in cap slots)) is)
    (All-from_recursion (Sits cap slots c) (slot_rows c (placed_in cap slots)) (sitting cap slots c (placed_in cap slots) (all_in_slots cap slots)))

-- ---- one row more or less

module _ {A : Type 0} (test : A → Bool) where
  -- if none passes, all are kept
  none_passes : (xs : List A) → length (filter test xs) ≡ 0 → filter (λ x. not (test x)) xs ≡ xs
  none_passes [] e = refl
  none_passes (x ∷ xs) e =
      let parts = none_first (test x) x (filter test xs) e in
      ap (λ b. cond (not b) (x ∷ filter (λ y. not (test y)) xs) (filter (λ y. not (test y)) xs)) parts.0
      ∙ ap (λ l. x ∷ l) (none_passes xs parts.1)
    where
      none_first : (b : Bool) (y : A) (ys : List A) → length (cond b (y ∷ ys) ys) ≡ 0 → (b ≡ false) × (length ys ≡ 0)
      none_first true y ys e = absurd (omega (arith, e))
      none_first false y ys e = (refl, e)

  fail_all : (xs : List A) → AllByRecursion (λ x. test x ≡ false) xs → filter test xs ≡ []
  fail_all [] all = refl
  fail_all (x ∷ xs) all = ap (λ b. cond b (x ∷ filter test xs) (filter test xs)) all.0 ∙ fail_all xs all.1

  -- the only item that passes may be left out
  cancelled : (a : A) (xs ys : List A) → test a ≡ true → AllByRecursion (λ y. test y ≡ false) ys → IsPermutation (a ∷ xs) (a ∷ ys) → IsPermutation xs ys
  cancelled a xs ys is all moved =
      let few_left : filter test (a ∷ ys) ≡ a ∷ [] = ap (λ b. cond b (a ∷ filter test ys) (filter test ys)) is ∙ ap (λ l. a ∷ l) (fail_all ys all) in
      let many : filter test (a ∷ xs) ≡ a ∷ filter test xs = ap (λ b. cond b (a ∷ filter test xs) (filter test xs)) is in
      let one : length (filter test (a ∷ ys)) ≡ length (filter test (a ∷ xs)) = length_permutation _ _ (permutation-filter test (a ∷ xs) (a ∷ ys) moved) in
      let left : length (filter test (a ∷ ys)) ≡ 1 = ap length few_left in
      let right : length (filter test (a ∷ xs)) ≡ suc (length (filter test xs)) = ap length many in
      let none : length (filter test xs) ≡ 0 = omega (arith, one, left, right) in
      let nothing : length (filter test ys) ≡ 0 = ap length (fail_all ys all) in
      let xs_kept : filter (λ x. not (test x)) (a ∷ xs) ≡ xs =
      ap (λ b. cond (not b) (a ∷ filter (λ x. not (test x)) xs) (filter (λ x. not (test x)) xs)) is ∙ none_passes xs none in
      let ys_kept : filter (λ x. not (test x)) (a ∷ ys) ≡ ys =
      ap (λ b. cond (not b) (a ∷ filter (λ x. not (test x)) ys) (filter (λ x. not (test x)) ys)) is ∙ none_passes ys nothing in
      subst (λ l. IsPermutation l ys) xs_kept (subst (IsPermutation (filter (λ x. not (test x)) (a ∷ xs))) ys_kept
      (permutation-filter (λ x. not (test x)) (a ∷ xs) (a ∷ ys) moved))

-- the table of a collection with what is placed in one more slot
pub table_more : (c : ℕ) (p : Placed) (ps qs : List Placed) (table more : List SlotRow) → c ≡ p.collection → IsPermutation qs (p ∷ ps)
    → IsPermutation table (slot_rows c ps) → IsPermutation more (row_of p ∷ table) → IsPermutation more (slot_rows c qs)
table_more c p ps qs table more e moved is gained = IsPermutation-trans _ _ _ gained (IsPermutation-trans _ _ _
    (IsPermutation-cons (row_of p) table (slot_rows c ps) is)
    (subst (λ rows. IsPermutation rows (slot_rows c qs)) (rows_here c p ps e) (rows_moved c (p ∷ ps) qs (IsPermutation-sym qs (p ∷ ps) moved))))

-- and the others
pub table_same : (c : ℕ) (p : Placed) (ps qs : List Placed) → (c ≡ p.collection → ⊥) → IsPermutation qs (p ∷ ps) → IsPermutation (slot_rows c qs) (slot_rows c ps)
table_same c p ps qs other moved = subst (IsPermutation (slot_rows c qs)) (rows_past c p ps other) (rows_moved c qs (p ∷ ps) moved)

-- a filled slot is one row more
pub filling_adds_a_row : (cap slot c id : ℕ) (object : List ℕ) (old new : ℕ → List ℕ) (tables more : List (List SlotRow)) → AreTablesOf cap old tables
    → slot < cap → slot_at old slot ≡ Free → SetsSlot slot (Holds c id object) old new → GainsRow c (slot, (id, object)) tables more
    → AreTablesOf cap new more
filling_adds_a_row cap slot c id object old new tables more are below free sets gains = λ d inside.
    let p = placed_here slot c id object in
    let moved = filled_placed cap slot c id object old new below free sets in
    elim (cases_eq d c) [
      | inl here ↦ subst (λ k. IsTableOf cap new k (slot_table more k)) (sym here)
          (table_more c p (placed cap old) (placed cap new) (slot_table tables c) (slot_table more c) refl moved (are c (subst (λ k. k < 4) here inside)) gains.here)
      | inr other ↦ subst (λ table. IsTableOf cap new d table) (sym (gains.others d other))
          (IsPermutation-trans _ _ _ (are d inside) (IsPermutation-sym _ _ (table_same d p (placed cap old) (placed cap new) other moved)))
    ]

elsewhere : (slots : ℕ → Slot) (slot cap c : ℕ) (rows : List SlotRow) → slots slot ≡ Free → AllByRecursion (Sits cap slots c) rows
    → AllByRecursion (λ row. (row.0 == slot) ≡ false) rows
elsewhere slots slot cap c [] free all = tt
elsewhere slots slot cap c (row ∷ rows) free all = (
  other_number slot row.0 (λ e. not_free c row.1.0 row.1.1 (sym free ∙ ap slots e ∙ all.0.1)),
  elsewhere slots slot cap c rows free all.1,
)

-- a cleared slot is one row less
pub clearing_takes_a_row : (cap slot c id : ℕ) (object : List ℕ) (old new : ℕ → List ℕ) (tables fewer : List (List SlotRow)) → AreTablesOf cap old tables
    → slot < cap → slot_at old slot ≡ Holds c id object → SetsSlot slot Free old new → GainsRow c (slot, (id, object)) fewer tables
    → AreTablesOf cap new fewer
clearing_takes_a_row cap slot c id object old new tables fewer are below filled sets gains = λ d inside.
    let p = placed_here slot c id object in
    let moved = cleared_placed cap slot c id object old new below filled sets in
    elim (cases_eq d c) [
      | inl here ↦
          let whole : IsPermutation (slot_table tables c) (row_of p ∷ slot_rows c (placed cap new)) = IsPermutation-trans _ _ _ (are c (subst (λ k. k < 4) here inside))
          (subst (IsPermutation (slot_rows c (placed cap old))) (rows_here c p (placed cap new) refl) (rows_moved c (placed cap old) (p ∷ placed cap new) moved)) in
          subst (λ k. IsTableOf cap new k (slot_table fewer k)) (sym here)
          (cancelled (λ (row : SlotRow). row.0 == slot) (row_of p) (slot_table fewer c) (slot_rows c (placed cap new)) (same_number slot slot refl)
          (elsewhere (slot_at new) slot cap c (slot_rows c (placed cap new)) sets.here (sitting cap (slot_at new) c (placed cap new) (all_in_slots cap (slot_at new))))
          (IsPermutation-trans _ _ _ (IsPermutation-sym (slot_table tables c) (row_of p ∷ slot_table fewer c) gains.here) whole))
      | inr other ↦ subst (λ table. IsTableOf cap new d table) (gains.others d other)
          (IsPermutation-trans _ _ _ (are d inside) (table_same d p (placed cap new) (placed cap old) other moved))
    ]
