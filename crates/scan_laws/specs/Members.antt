-- The members that tables of rows hold: what is found, added, taken out, counted and scanned.
use Rattle.std.proofs.Common.{◌≡◌, ◌≢◌, ℕ, zero, suc, ◌+◌, ◌<◌, Bool, true, false, cond, List, [], ◌∷◌, ◌++◌, length, get_or, refl, sym, ap, subst, ◌∙◌, length-append, arith}
use Rattle.std.specs.Prelude.{◌==◌, ◌&&◌, not, Option, Some, None, if◌then◌else◌, sum_by}
use Rattle.std.specs.List.{AllByRecursion, IsDistinct, cons_option}
use Rattle.std.specs.List.Sorted.{IsPermutation, IsStrictlySortedBy}
use Rattle.std.specs.Map.{keys_of, lookup}
use Rattle.std.specs.BTreeMap.{is_at}
use Rattle.std.specs.Ordering.{is_eq, eq_by_cmp, nat_cmp}
use Rattle.std.specs.Cmp.{IsTotalOrder, unsigned_tied, tied_then}
use Rattle.std.proofs.lemmas.Cmp.{then_total, on_total, nat_cmp_total}
use Rattle.std.proofs.lemmas.Bool.Decides.{nat_tests}
use Rattle.std.proofs.lemmas.List.{length-map}
use Rattle.std.proofs.lemmas.List.Sums.{sum_by-cons}
use Rattle.std.proofs.lemmas.List.Sorted.{IsPermutation-refl, IsPermutation-sym, IsPermutation-cons, IsPermutation-trans, IsPermutation-map, IsPermutation-middle, IsPermutation-to_front, IsPermutation-append_left, IsPermutation-append_right, length_permutation}
use Rattle.std.proofs.lemmas.Map.Keys.{IsDistinct-head, IsDistinct-cons}
use Rattle.std.proofs.lemmas.Map.Lookups.{CmpEqualImpliesEq, exact_pairs, exact_unsigned}
use Rattle.answer_lists.specs.Order.{sorted_by}
use Rattle.answer_lists.specs.OrderLaws.{sorted_by-permutation}
use Rattle.answer_lists.specs.Permutations.{permutation-filter_map}
use Rattle.spb_defs.specs.Scans.{Entry}
use Rattle.spb_defs.specs.State.{Key, Members, key_cmp, with_object, without_object, member_count, entry_in, entries_in}
use Rattle.scan_laws.specs.Sorted.{lookup-absent, absent-lookup, remove_entry-absent, lookup-sorted_by, distinct-moved, sorted_by-same_keys, sorted_by-inserted, sorted_by-removed, rising-sorted_by}
use Rattle.scan_laws.specs.Tables.{HasDistinctEntryIds, key_before, keyed_entries, keyed_tables, members_of, table_at, with_table, object_with_id, entries_without}

-- keys are totally ordered
pub key_order : IsTotalOrder key_cmp
key_order = then_total (on_total (λ (k : Key). k.0) nat_cmp_total) (on_total (λ (k : Key). k.1) nat_cmp_total)

-- keys that compare as equal are one
exact_keys : CmpEqualImpliesEq key_cmp
exact_keys = exact_pairs nat_cmp nat_cmp exact_unsigned exact_unsigned

abbrev at : ℕ → ℕ → Key → Bool
at c id = is_at (key_cmp (c, id))

-- ---- tests of keys

at_is : (c id d i : ℕ) → at c id (d, i) ≡ ((c == d) && (id == i))
at_is c id d i = sym (tied_then (nat_cmp c d) (nat_cmp id i)) ∙ ap (λ b. b && is_eq (nat_cmp id i)) (unsigned_tied c d)
    ∙ ap (λ b. (c == d) && b) (unsigned_tied id i)

id_test : (c id d i : ℕ) → c ≡ d → ((c == d) && (id == i)) ≡ (i == id)
id_test c id d i e = grind (arith, nat_tests)

other_test : (c id d i : ℕ) → c ≢ d → ((c == d) && (id == i)) ≡ false
other_test c id d i other = grind (arith, nat_tests)

at_same : (c id d i : ℕ) → c ≡ d → at c id (d, i) ≡ (i == id)
at_same c id d i e = at_is c id d i ∙ id_test c id d i e

at_other : (c id d i : ℕ) → c ≢ d → at c id (d, i) ≡ false
at_other c id d i other = at_is c id d i ∙ other_test c id d i other

-- ---- what is found

found_here : (c id d : ℕ) (rows : List Entry) (rest : Members) → c ≡ d → lookup (at c id) rest ≡ None
    → lookup (at c id) (keyed_entries d rows ++ rest) ≡ object_with_id rows id
found_here c id d [] rest e none = none
found_here c id d (row ∷ rows) rest e none =
    ap (λ b. cond b (Some row.1) (lookup (at c id) (keyed_entries d rows ++ rest))) (at_same c id d row.0 e)
    ∙ ap (λ more. cond (row.0 == id) (Some row.1) more) (found_here c id d rows rest e none)

found_past : (c id d : ℕ) (rows : List Entry) (rest : Members) → c ≢ d → lookup (at c id) (keyed_entries d rows ++ rest) ≡ lookup (at c id) rest
found_past c id d [] rest other = refl
found_past c id d (row ∷ rows) rest other =
    ap (λ b. cond b (Some row.1) (lookup (at c id) (keyed_entries d rows ++ rest))) (at_other c id d row.0 other) ∙ found_past c id d rows rest other

found_later : (c id d : ℕ) (tables : List (List Entry)) → c < d → lookup (at c id) (keyed_tables d tables) ≡ None
found_later c id d [] below = refl
found_later c id d (rows ∷ tables) below =
    found_past c id d rows (keyed_tables (suc d) tables) (λ e. omega arith) ∙ found_later c id (suc d) tables (omega arith)

found_from : (c id d k : ℕ) (tables : List (List Entry)) → c ≡ d + k → lookup (at c id) (keyed_tables d tables) ≡ object_with_id (table_at tables k) id
found_from c id d k [] e = refl
found_from c id d zero (rows ∷ tables) e = found_here c id d rows (keyed_tables (suc d) tables) (omega arith) (found_later c id (suc d) tables (omega arith))
found_from c id d (suc k) (rows ∷ tables) e =
    found_past c id d rows (keyed_tables (suc d) tables) (λ same. omega arith) ∙ found_from c id (suc d) k tables (omega arith)

found_in : (c id : ℕ) (tables : List (List Entry)) → lookup (at c id) (keyed_tables 0 tables) ≡ object_with_id (table_at tables c) id
found_in c id tables = found_from c id 0 c tables (omega arith)

-- the object under a key is that of the first row of the collection's table with the id
pub object_at-members_of : (tables : List (List Entry)) (c id : ℕ)
    → lookup (is_at (key_cmp (c, id))) (members_of tables) ≡ object_with_id (table_at tables c) id
unfolding members_of
object_at-members_of tables c id = lookup-sorted_by key_order (c, id) (keyed_tables 0 tables) ∙ found_in c id tables

-- ---- the rows of a collection

rows_here : (c d : ℕ) (rows : List Entry) (rest : Members) → (d == c) ≡ true → entries_in rest c ≡ [] → entries_in (keyed_entries d rows ++ rest) c ≡ rows
unfolding entries_in
rows_here c d [] rest same none = none
rows_here c d (row ∷ rows) rest same none =
    ap (λ b. cons_option (if b then Some (row.0, row.1) else None) (entries_in (keyed_entries d rows ++ rest) c)) same
    ∙ ap (λ more. row ∷ more) (rows_here c d rows rest same none)

rows_past : (c d : ℕ) (rows : List Entry) (rest : Members) → (d == c) ≡ false → entries_in (keyed_entries d rows ++ rest) c ≡ entries_in rest c
unfolding entries_in
rows_past c d [] rest other = refl
rows_past c d (row ∷ rows) rest other =
    ap (λ b. cons_option (if b then Some (row.0, row.1) else None) (entries_in (keyed_entries d rows ++ rest) c)) other ∙ rows_past c d rows rest other

same_number : (c d : ℕ) → c ≡ d → (d == c) ≡ true
same_number c d e = grind (arith, nat_tests)

other_number : (c d : ℕ) → c < d → (d == c) ≡ false
other_number c d below = grind (arith, nat_tests)

further_number : (c d k : ℕ) → c ≡ d + suc k → (d == c) ≡ false
further_number c d k e = grind (arith, nat_tests)

rows_later : (c d : ℕ) (tables : List (List Entry)) → c < d → entries_in (keyed_tables d tables) c ≡ []
unfolding entries_in
rows_later c d [] below = refl
rows_later c d (rows ∷ tables) below =
    rows_past c d rows (keyed_tables (suc d) tables) (other_number c d below) ∙ rows_later c (suc d) tables (omega arith)

rows_from : (c d k : ℕ) (tables : List (List Entry)) → c ≡ d + k → entries_in (keyed_tables d tables) c ≡ table_at tables k
unfolding entries_in
rows_from c d k [] e = refl
rows_from c d zero (rows ∷ tables) e = rows_here c d rows (keyed_tables (suc d) tables) (same_number c d (omega arith))
    (rows_later c (suc d) tables (omega arith))
rows_from c d (suc k) (rows ∷ tables) e =
    rows_past c d rows (keyed_tables (suc d) tables) (further_number c d k e) ∙ rows_from c (suc d) k tables (omega arith)

IsPermutation-entries_in : (c : ℕ) (xs ys : Members) → IsPermutation xs ys → IsPermutation (entries_in xs c) (entries_in ys c)
unfolding entries_in
IsPermutation-entries_in c xs ys h = permutation-filter_map (entry_in c) xs ys h

-- a collection's rows are those of its table, in another order
pub entries_in-members_of : (tables : List (List Entry)) (c : ℕ) → IsPermutation (entries_in (members_of tables) c) (table_at tables c)
unfolding members_of
entries_in-members_of tables c =
    subst (IsPermutation (entries_in (sorted_by key_before (keyed_tables 0 tables)) c)) (rows_from c 0 c tables (omega arith))
    (IsPermutation-entries_in c (sorted_by key_before (keyed_tables 0 tables)) (keyed_tables 0 tables)
    (sorted_by-permutation key_before (keyed_tables 0 tables)))

-- ---- counts

length_if : (b : Bool) (row : Entry) (rows : List Entry) → length (cons_option (if b then Some row else None) rows) ≡ cond b 1 0 + length rows
length_if true row rows = omega arith
length_if false row rows = omega arith

length-entries_in : (c : ℕ) (members : Members) → length (entries_in members c) ≡ member_count members c
unfolding entries_in
length-entries_in c [] = refl
length-entries_in c (e ∷ es) =
    let a = length_if (e.0.0 == c) (e.0.1, e.1) (entries_in es c) in
    let b = sum_by-cons (λ (member : Key × List ℕ). cond (member.0.0 == c) 1 0) e es in
    let d = length-entries_in c es in omega (arith, a, b, d)

-- a collection has as many members as its table has rows
pub member_count-members_of : (tables : List (List Entry)) (c : ℕ) → member_count (members_of tables) c ≡ length (table_at tables c)
member_count-members_of tables c =
    sym (length-entries_in c (members_of tables))
    ∙ sym (length_permutation (entries_in (members_of tables) c) (table_at tables c) (entries_in-members_of tables c))

length-keyed_tables : (c : ℕ) (tables : List (List Entry)) → length (keyed_tables c tables) ≡ sum_by length tables
length-keyed_tables c [] = refl
length-keyed_tables c (rows ∷ tables) =
    let a = length-append (keyed_entries c rows) (keyed_tables (suc c) tables) in
    let b : length (keyed_entries c rows) ≡ length rows = length-map rows (λ (row : Entry). ((c, row.0), row.1)) in
    let d = length-keyed_tables (suc c) tables in
    let e = sum_by-cons length rows tables in omega (arith, a, b, d, e)

-- there are as many members as all tables have rows
pub length-members_of : (tables : List (List Entry)) → length (members_of tables) ≡ sum_by length tables
unfolding members_of
length-members_of tables =
    sym (length_permutation (sorted_by key_before (keyed_tables 0 tables)) (keyed_tables 0 tables) (sorted_by-permutation key_before (keyed_tables 0 tables)))
    ∙ length-keyed_tables 0 tables

-- without rows there are no members
pub members_of-none : members_of ([] ∷ [] ∷ [] ∷ [] ∷ []) ≡ []
unfolding members_of sorted_by
members_of-none = refl

-- ---- each key once

abbrev Apart : Key → Members → Type 0
Apart key members = AllByRecursion (λ k. eq_by_cmp key_cmp key k ≡ false) (keys_of members)

-- the collections are at least this one
abbrev From : ℕ → Members → Type 0
From d members = AllByRecursion (λ (k : Key). d < suc k.0) (keys_of members)

ids_differ : (c id i : ℕ) → id ≢ i → ((c == c) && (id == i)) ≡ false
ids_differ c id i other = grind (arith, nat_tests)

apart_rest : (c id : ℕ) (members : Members) → From (suc c) members → Apart (c, id) members
apart_rest c id [] h = tt
apart_rest c id (e ∷ es) h = let above : suc c < suc e.0.0 = h.0 in (at_other c id e.0.0 e.0.1 (λ same. omega (arith, above)), apart_rest c id es h.1)

apart_rows : (c id : ℕ) (rows : List Entry) (rest : Members) → ((k : ℕ) (d : Entry) → k < length rows → id ≢ (get_or rows k d).0) → From (suc c) rest
    → Apart (c, id) (keyed_entries c rows ++ rest)
apart_rows c id [] rest h from = apart_rest c id rest from
apart_rows c id (row ∷ rows) rest h from =
    (at_is c id c row.0 ∙ ids_differ c id row.0 (h 0 row (omega arith)), apart_rows c id rows rest (λ k d below. h (suc k) d (omega (arith, below))) from)

distinct_rows : (c : ℕ) (rows : List Entry) (rest : Members) → HasDistinctEntryIds rows → From (suc c) rest → IsDistinct (eq_by_cmp key_cmp) (keys_of rest)
    → IsDistinct (eq_by_cmp key_cmp) (keys_of (keyed_entries c rows ++ rest))
distinct_rows c [] rest ids from distinct = distinct
distinct_rows c (row ∷ rows) rest ids from distinct =
    IsDistinct-cons (eq_by_cmp key_cmp) (c, row.0) (keys_of (keyed_entries c rows ++ rest))
    (apart_rows c row.0 rows rest (λ k d below. ids 0 (suc k) d (omega arith) (omega (arith, below))) from)
    (distinct_rows c rows rest (λ i j d less below. ids (suc i) (suc j) d (omega (arith, less)) (omega (arith, below))) from distinct)

from_weaker : (d : ℕ) (members : Members) → From (suc d) members → From d members
from_weaker d [] h = tt
from_weaker d (e ∷ es) h = let above : suc d < suc e.0.0 = h.0 in (omega (arith, above), from_weaker d es h.1)

from_rows : (c : ℕ) (rows : List Entry) (rest : Members) → From c rest → From c (keyed_entries c rows ++ rest)
from_rows c [] rest h = h
from_rows c (row ∷ rows) rest h = (omega arith, from_rows c rows rest h)

from_tables : (c : ℕ) (tables : List (List Entry)) → From c (keyed_tables c tables)
from_tables c [] = tt
from_tables c (rows ∷ tables) = from_rows c rows (keyed_tables (suc c) tables) (from_weaker c (keyed_tables (suc c) tables) (from_tables (suc c) tables))

distinct_from : (c : ℕ) (tables : List (List Entry)) → AllByRecursion HasDistinctEntryIds tables
    → IsDistinct (eq_by_cmp key_cmp) (keys_of (keyed_tables c tables))
unfolding IsDistinct
distinct_from c [] ids = tt
distinct_from c (rows ∷ tables) ids = distinct_rows c rows (keyed_tables (suc c) tables) ids.0 (from_tables (suc c) tables) (distinct_from (suc c) tables ids.1)

-- the members are in ascending order of their keys
pub members_of-rising : (tables : List (List Entry)) → AllByRecursion HasDistinctEntryIds tables → IsStrictlySortedBy key_cmp (keys_of (members_of tables))
unfolding members_of
members_of-rising tables ids = rising-sorted_by key_order (keyed_tables 0 tables) (distinct_from 0 tables ids)

-- ---- one row more in a table

abbrev entry : ℕ → Entry → Key × List ℕ
entry c row = ((c, row.0), row.1)

longer_from : (c d k : ℕ) (tables : List (List Entry)) (row : Entry) (old new : List Entry) → c ≡ d + k → k < length tables → IsPermutation old (row ∷ new)
    → IsPermutation (keyed_tables d (with_table tables k old)) (entry c row ∷ keyed_tables d (with_table tables k new))
longer_from c d k [] row old new e below h = absurd (omega arith)
longer_from c d zero (rows ∷ tables) row old new e below h =
    let same : d ≡ c = omega arith in
    let moved = IsPermutation-append_left (keyed_tables (suc d) tables) (keyed_entries d old) (keyed_entries d (row ∷ new))
    (IsPermutation-map (entry d) old (row ∷ new) h) in
    subst (λ n. IsPermutation (keyed_entries d old ++ keyed_tables (suc d) tables) (entry n row ∷ (keyed_entries d new ++ keyed_tables (suc d) tables)))
    same moved
longer_from c d (suc k) (rows ∷ tables) row old new e below h =
    IsPermutation-trans _ _ _
    (IsPermutation-append_right (keyed_entries d rows) (keyed_tables (suc d) (with_table tables k old))
    (entry c row ∷ keyed_tables (suc d) (with_table tables k new))
    (longer_from c (suc d) k tables row old new (omega arith) (omega arith) h))
    (IsPermutation-middle (keyed_entries d rows) (entry c row) (keyed_tables (suc d) (with_table tables k new)))

longer : (c : ℕ) (tables : List (List Entry)) (row : Entry) (old new : List Entry) → c < length tables → IsPermutation old (row ∷ new)
    → IsPermutation (keyed_tables 0 (with_table tables c old)) (entry c row ∷ keyed_tables 0 (with_table tables c new))
longer c tables row old new below h = longer_from c 0 c tables row old new (omega arith) below h

-- the tables with a table that they have
pub with_table-itself : (tables : List (List Entry)) (c : ℕ) → with_table tables c (table_at tables c) ≡ tables
with_table-itself [] c = refl
with_table-itself (rows ∷ tables) zero = refl
with_table-itself (rows ∷ tables) (suc c) = ap (λ more. rows ∷ more) (with_table-itself tables c)

-- a table with one row more under another id is the members with one object more
pub members_of-more : (tables : List (List Entry)) (c id : ℕ) (object : List ℕ) (rows : List Entry) → AllByRecursion HasDistinctEntryIds tables
    → c < length tables → object_with_id (table_at tables c) id ≡ None → IsPermutation rows ((id, object) ∷ table_at tables c)
    → members_of (with_table tables c rows) ≡ with_object (members_of tables) c id object
unfolding members_of
members_of-more tables c id object rows ids below none h =
    let all : Members = keyed_tables 0 tables in
    let absent : lookup (at c id) all ≡ None = found_in c id tables ∙ none in
    let grown : IsPermutation (keyed_tables 0 (with_table tables c rows)) (((c, id), object) ∷ all) =
    subst (λ ts. IsPermutation (keyed_tables 0 (with_table tables c rows)) (((c, id), object) ∷ keyed_tables 0 ts)) (with_table-itself tables c)
    (longer c tables (id, object) rows (table_at tables c) below h) in
    let distinct : IsDistinct (eq_by_cmp key_cmp) (keys_of (((c, id), object) ∷ all)) =
    IsDistinct-cons (eq_by_cmp key_cmp) (c, id) (keys_of all) (absent-lookup (at c id) all absent) (distinct_from 0 tables ids) in
    sym (sorted_by-same_keys key_order exact_keys (((c, id), object) ∷ all) (keyed_tables 0 (with_table tables c rows))
    (IsPermutation-sym (keyed_tables 0 (with_table tables c rows)) (((c, id), object) ∷ all) grown) distinct)
    ∙ sorted_by-inserted key_order (c, id) object all absent

-- the same if the row is last
pub members_of-added : (tables : List (List Entry)) (c id : ℕ) (object : List ℕ) → AllByRecursion HasDistinctEntryIds tables → c < length tables
    → object_with_id (table_at tables c) id ≡ None
    → members_of (with_table tables c (table_at tables c ++ (id, object) ∷ [])) ≡ with_object (members_of tables) c id object
members_of-added tables c id object ids below none =
    members_of-more tables c id object (table_at tables c ++ (id, object) ∷ []) ids below none (IsPermutation-to_front (table_at tables c) (id, object))

-- ---- one row less in a table

one_id : (a b id : ℕ) → (a == id) ≡ true → (b == id) ≡ true → a ≡ b
one_id a b id h k = grind (arith, nat_tests)

same_id : (a b id : ℕ) → (a == id) ≡ true → a ≢ b → not (b == id) ≡ true
same_id a b id h other = grind (arith, nat_tests)

-- rows of other ids are all kept
kept : (rows : List Entry) (id n : ℕ) → (n == id) ≡ true → ((k : ℕ) (d : Entry) → k < length rows → n ≢ (get_or rows k d).0) → entries_without rows id ≡ rows
kept [] id n e apart = refl
kept (row ∷ rows) id n e apart =
    ap (λ b. cond b (row ∷ entries_without rows id) (entries_without rows id)) (same_id n row.0 id e (apart 0 row (omega arith)))
    ∙ ap (λ more. row ∷ more) (kept rows id n e (λ k d below. apart (suc k) d (omega (arith, below))))

-- if the id isn't found, all rows are kept
absent_if : (b : Bool) (row : Entry) (rows others : List Entry) (rest : Option (List ℕ)) → cond b (Some row.1) rest ≡ None → (rest ≡ None → others ≡ rows)
    → cond (not b) (row ∷ others) others ≡ row ∷ rows
absent_if true row rows others rest none more = cc
absent_if false row rows others rest none more = ap (λ l. row ∷ l) (more none)

entries_without-absent : (rows : List Entry) (id : ℕ) → object_with_id rows id ≡ None → entries_without rows id ≡ rows
entries_without-absent [] id none = refl
entries_without-absent (row ∷ rows) id none =
    absent_if (row.0 == id) row rows (entries_without rows id) (object_with_id rows id) none (entries_without-absent rows id)

the_id : (a id : ℕ) → (a == id) ≡ true → a ≡ id
the_id a id h = grind (arith, nat_tests)

row_is : (row : Entry) (id : ℕ) (object : List ℕ) → row.0 ≡ id → row.1 ≡ object → ◌≡◌ {A = Entry} (id, object) row
row_is row id object e f = λ i. (sym e i, sym f i)

-- if it is found, its row is the only one that isn't kept
split_if : (b : Bool) (row : Entry) (rows others : List Entry) (id : ℕ) (object : List ℕ) (rest : Option (List ℕ)) → (row.0 == id) ≡ b
    → cond b (Some row.1) rest ≡ Some object
    → ((row.0 == id) ≡ true → others ≡ rows) → (rest ≡ Some object → IsPermutation rows ((id, object) ∷ others))
    → IsPermutation (row ∷ rows) ((id, object) ∷ cond (not b) (row ∷ others) others)
split_if true row rows others id object rest is here whole more =
    let object_is : row.1 ≡ object = cc in
    let one : (row ∷ rows) ≡ ((id, object) ∷ others) = ap (λ r. r ∷ rows) (sym (row_is row id object (the_id row.0 id is) object_is))
    ∙ ap (λ l. (id, object) ∷ l) (sym (whole is)) in
    subst (IsPermutation (row ∷ rows)) one (IsPermutation-refl (row ∷ rows))
split_if false row rows others id object rest is here whole more =
    IsPermutation-trans _ _ _ (IsPermutation-cons row rows ((id, object) ∷ others) (more here)) (IsPermutation-middle (row ∷ []) (id, object) others)

entries_without-split : (rows : List Entry) (id : ℕ) (object : List ℕ) → HasDistinctEntryIds rows → object_with_id rows id ≡ Some object
    → IsPermutation rows ((id, object) ∷ entries_without rows id)
entries_without-split [] id object ids here = cc
entries_without-split (row ∷ rows) id object ids here =
    split_if (row.0 == id) row rows (entries_without rows id) id object (object_with_id rows id) refl here
    (λ is. kept rows id row.0 is (λ k d below. ids 0 (suc k) d (omega arith) (omega (arith, below))))
    (entries_without-split rows id object (λ i j d less below. ids (suc i) (suc j) d (omega (arith, less)) (omega (arith, below))))

-- tables of which one has its rows in another order
moved_from : (d k : ℕ) (tables : List (List Entry)) (rows : List Entry) → IsPermutation (table_at tables k) rows
    → IsPermutation (keyed_tables d tables) (keyed_tables d (with_table tables k rows))
moved_from d k [] rows h = IsPermutation-refl []
moved_from d zero (first ∷ tables) rows h =
    IsPermutation-append_left (keyed_tables (suc d) tables) (keyed_entries d first) (keyed_entries d rows) (IsPermutation-map (entry d) first rows h)
moved_from d (suc k) (first ∷ tables) rows h =
    IsPermutation-append_right (keyed_entries d first) (keyed_tables (suc d) tables) (keyed_tables (suc d) (with_table tables k rows))
    (moved_from (suc d) k tables rows h)

removed_by : (tables : List (List Entry)) (c id : ℕ) (rows : List Entry) (found : Option (List ℕ)) → AllByRecursion HasDistinctEntryIds tables
    → c < length tables → HasDistinctEntryIds (table_at tables c) → object_with_id (table_at tables c) id ≡ found
    → IsPermutation (entries_without (table_at tables c) id) rows
    → sorted_by key_before (keyed_tables 0 (with_table tables c rows)) ≡ without_object (sorted_by key_before (keyed_tables 0 tables)) c id
removed_by tables c id rows None all below ids is h =
    let none : lookup (at c id) (keyed_tables 0 tables) ≡ None = found_in c id tables ∙ is in
    let moved : IsPermutation (table_at tables c) rows = subst (λ l. IsPermutation l rows) (entries_without-absent (table_at tables c) id is) h in
    sym (sorted_by-same_keys key_order exact_keys (keyed_tables 0 tables) (keyed_tables 0 (with_table tables c rows)) (moved_from 0 c tables rows moved)
    (distinct_from 0 tables all))
    ∙ sym (remove_entry-absent (at c id) (sorted_by key_before (keyed_tables 0 tables)) (lookup-sorted_by key_order (c, id) (keyed_tables 0 tables) ∙ none))
removed_by tables c id rows (Some object) all below ids is h =
    let split : IsPermutation (table_at tables c) ((id, object) ∷ rows) =
    IsPermutation-trans (table_at tables c) ((id, object) ∷ entries_without (table_at tables c) id) ((id, object) ∷ rows)
    (entries_without-split (table_at tables c) id object ids is) (IsPermutation-cons (id, object) (entries_without (table_at tables c) id) rows h) in
    let rest : Members = keyed_tables 0 (with_table tables c rows) in
    let moved : IsPermutation (keyed_tables 0 tables) (((c, id), object) ∷ rest) =
    subst (λ ts. IsPermutation (keyed_tables 0 ts) (((c, id), object) ∷ rest)) (with_table-itself tables c)
    (longer c tables (id, object) (table_at tables c) rows below split) in
    let distinct : IsDistinct (eq_by_cmp key_cmp) (keys_of (((c, id), object) ∷ rest)) =
    distinct-moved key_order (keyed_tables 0 tables) (((c, id), object) ∷ rest) moved (distinct_from 0 tables all) in
    let none : lookup (at c id) rest ≡ None = lookup-absent (at c id) rest (IsDistinct-head (eq_by_cmp key_cmp) (c, id) (keys_of rest) distinct) in
    let same = sorted_by-same_keys key_order exact_keys (keyed_tables 0 tables) (((c, id), object) ∷ rest) moved (distinct_from 0 tables all) in
    sym (sorted_by-removed key_order (c, id) object rest none) ∙ ap (λ es. without_object es c id) (sym same)

ids_at : (tables : List (List Entry)) (c : ℕ) → AllByRecursion HasDistinctEntryIds tables → c < length tables → HasDistinctEntryIds (table_at tables c)
ids_at [] c ids below = absurd (omega arith)
ids_at (rows ∷ tables) zero ids below = ids.0
ids_at (rows ∷ tables) (suc c) ids below = ids_at tables c ids.1 (omega (arith, below))

-- a table without an id, in whatever order, is the members without the object under the key, if there was one
pub members_of-removed : (tables : List (List Entry)) (c id : ℕ) (rows : List Entry) → AllByRecursion HasDistinctEntryIds tables → c < length tables
    → IsPermutation (entries_without (table_at tables c) id) rows
    → members_of (with_table tables c rows) ≡ without_object (members_of tables) c id
unfolding members_of
members_of-removed tables c id rows ids below h =
    removed_by tables c id rows (object_with_id (table_at tables c) id) ids below (ids_at tables c ids below) refl h
