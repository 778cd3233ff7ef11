-- The entries of a collection when one slot more is filled, or one less.
use Rattle.std.proofs.Common.{◌≡◌, ℕ, ◌==◌, Bool, true, false, cond, List, [], ◌∷◌, ◌++◌, map, refl, sym, ap, subst, ◌∙◌, arith}
use Rattle.std.specs.Prelude.{IsTrue, ◌&&◌, if◌then◌else◌}
use Rattle.std.specs.List.{AllByRecursion}
use Rattle.std.specs.List.Sorted.{IsPermutation}
use Rattle.std.proofs.lemmas.Bool.Decides.{nat_tests}
use Rattle.std.proofs.lemmas.List.Sorted.{IsPermutation-refl, IsPermutation-sym, IsPermutation-cons, IsPermutation-trans, IsPermutation-map, IsPermutation-middle}
use Rattle.answer_lists.specs.Order.{sorted_by, with_inserted}
use Rattle.answer_lists.specs.OrderLaws.{HasDistinctKeys, sorted_by-permutation, permutation-sorted_by, distinct-permutation, arranged_by-same, arranged_by-unique}
use Rattle.answer_lists.specs.Permutations.{permutation-filter}
use Rattle.bptree_node.specs.declared.rows.Entry.{Entry}
use Rattle.bptree_node.specs.EntryLaws.{AreBefore}
use Rattle.bptree_node.specs.Trees.{is_entry, goes_before, IsRising}
use Rattle.bptree_edit.specs.Changes.{IsWith}
use Rattle.store_check.specs.Stands.{Placed}
use Rattle.tree_state.specs.TreeEntries.{entry_before, in_collection}
use Rattle.tree_lists.specs.Lists.{entry_of, collection_entries}
use Rattle.tree_lists.proofs.Orders.{place_of, place_before, place_order, rising-in_order, rising-distinct}

same_number : (d c : ℕ) → d ≡ c → (d == c) ≡ true
same_number d c e = grind (arith, nat_tests, e)

other_number : (d c : ℕ) → (d ≡ c → ⊥) → (d == c) ≡ false
other_number d c other = grind (arith, nat_tests, other)

-- one list is in its own order
permutation-same : {A : Type 0} (xs ys : List A) → xs ≡ ys → IsPermutation xs ys
permutation-same xs ys e = subst (IsPermutation xs) e (IsPermutation-refl xs)

-- what is placed of a collection, with one item in front
here : (c : ℕ) (p : Placed) (ps : List Placed) → p.collection ≡ c → in_collection c (p ∷ ps) ≡ p ∷ in_collection c ps
here c p ps is = ap (λ b. cond b (p ∷ in_collection c ps) (in_collection c ps)) (same_number p.collection c is)

past : (c : ℕ) (p : Placed) (ps : List Placed) → (p.collection ≡ c → ⊥) → in_collection c (p ∷ ps) ≡ in_collection c ps
past c p ps other = ap (λ b. cond b (p ∷ in_collection c ps) (in_collection c ps)) (other_number p.collection c other)

module _ (key_of : ℕ → List ℕ → ℕ) (c : ℕ) where
  -- the entries, in the order of the slots
  abbrev pub entries : List Placed → List Entry
  entries ps = map (entry_of key_of) (in_collection c ps)

  pub entries_moved : (ps qs : List Placed) → IsPermutation ps qs → IsPermutation (entries ps) (entries qs)
  entries_moved ps qs moved =
      IsPermutation-map (entry_of key_of) (in_collection c ps) (in_collection c qs) (permutation-filter (λ (p : Placed). p.collection == c) ps qs moved)

  pub entries_here : (p : Placed) (ps : List Placed) → p.collection ≡ c → entries (p ∷ ps) ≡ entry_of key_of p ∷ entries ps
  entries_here p ps is = ap (map (entry_of key_of)) (here c p ps is)

  entries_past : (p : Placed) (ps : List Placed) → (p.collection ≡ c → ⊥) → entries (p ∷ ps) ≡ entries ps
  entries_past p ps other = ap (map (entry_of key_of)) (past c p ps other)

  -- entries that rise differ, in any order
  distinct : (ps : List Placed) → IsRising (collection_entries key_of c ps) → HasDistinctKeys place_of (entries ps)
  distinct ps rising = distinct-permutation place_before place_order place_of (collection_entries key_of c ps) (map (entry_of key_of) (in_collection c ps))
      (sorted_by-permutation entry_before (map (entry_of key_of) (in_collection c ps)))
      (rising-distinct (collection_entries key_of c ps) rising)

  -- an object more: the rising list with its entry is that of all
  pub filled-entries : (p : Placed) (ps qs : List Placed) (new : List Entry) → p.collection ≡ c → IsPermutation qs (p ∷ ps)
      → IsWith (entry_of key_of p) (collection_entries key_of c ps) new → IsRising new → new ≡ collection_entries key_of c qs
  filled-entries p ps qs new is moved more rising =
      let e = entry_of key_of p in
      let all : IsPermutation (entries qs) new =
      IsPermutation-trans (entries qs) (entries (p ∷ ps)) new (entries_moved qs (p ∷ ps) moved)
      (IsPermutation-trans (entries (p ∷ ps)) (e ∷ entries ps) new (permutation-same (entries (p ∷ ps)) (e ∷ entries ps) (entries_here p ps is))
      (IsPermutation-trans (e ∷ entries ps) (e ∷ collection_entries key_of c ps) new
      (IsPermutation-cons e (entries ps) (collection_entries key_of c ps) (permutation-sorted_by entry_before (entries ps)))
      (IsPermutation-trans (e ∷ collection_entries key_of c ps) (e ∷ (more.before ++ more.after)) new
      (permutation-same (e ∷ collection_entries key_of c ps) (e ∷ (more.before ++ more.after)) (ap (λ es. e ∷ es) more.were))
      (IsPermutation-trans (e ∷ (more.before ++ more.after)) (more.before ++ e ∷ more.after) new
      (IsPermutation-sym (more.before ++ e ∷ more.after) (e ∷ (more.before ++ more.after)) (IsPermutation-middle more.before e more.after))
      (permutation-same (more.before ++ e ∷ more.after) new (sym more.are)))))) in
      arranged_by-unique place_before place_order place_of (entries qs) new all
      (distinct-permutation place_before place_order place_of new (entries qs) (IsPermutation-sym (entries qs) new all) (rising-distinct new rising))
      (rising-in_order new rising)

  -- an object more of another collection changes nothing
  pub other-entries : (p : Placed) (ps qs : List Placed) → (p.collection ≡ c → ⊥) → IsPermutation qs (p ∷ ps) → IsRising (collection_entries key_of c ps)
      → collection_entries key_of c qs ≡ collection_entries key_of c ps
  other-entries p ps qs other moved rising =
      let all : IsPermutation (entries ps) (entries qs) =
      IsPermutation-trans (entries ps) (entries (p ∷ ps)) (entries qs)
      (permutation-same (entries ps) (entries (p ∷ ps)) (sym (entries_past p ps other)))
      (entries_moved (p ∷ ps) qs (IsPermutation-sym qs (p ∷ ps) moved)) in
      sym (arranged_by-same place_before place_order place_of (entries ps) (entries qs) all (distinct ps rising))

-- ---- an entry less

-- the list without the first entry of this key and id
without : Entry → List Entry → List Entry
without x [] = []
without x (y ∷ ys) = if is_entry x.key x.id y then ys else y ∷ without x ys

itself : (key id : ℕ) → ((key == key) && (id == id)) ≡ true
itself key id = grind (arith, nat_tests)

before_is_other : (key id key' id' : ℕ) → IsTrue (goes_before key id key' id') → ((key == key') && (id == id')) ≡ false
before_is_other key id key' id' before = grind (arith, nat_tests, before)

inserted_if : (x y : Entry) (ys : List Entry) (b : Bool) → goes_before y.key y.id x.key x.id ≡ b → without x (with_inserted entry_before x ys) ≡ ys
    → without x (if b then y ∷ with_inserted entry_before x ys else x ∷ y ∷ ys) ≡ y ∷ ys
unfolding without
inserted_if x y ys true before rest =
    ap (λ b. if b then with_inserted entry_before x ys else y ∷ without x (with_inserted entry_before x ys)) (before_is_other y.key y.id x.key x.id before)
    ∙ ap (λ es. y ∷ es) rest
inserted_if x y ys false before rest = ap (λ b. if b then y ∷ ys else x ∷ without x (y ∷ ys)) (itself x.key x.id)

without-inserted : (x : Entry) (ys : List Entry) → without x (with_inserted entry_before x ys) ≡ ys
unfolding without
without-inserted x [] = ap (λ b. if b then [] else x ∷ []) (itself x.key x.id)
without-inserted x (y ∷ ys) = inserted_if x y ys (goes_before y.key y.id x.key x.id) refl (without-inserted x ys)

without-between : (x : Entry) (before after : List Entry) → AreBefore x.key x.id before → without x (before ++ x ∷ after) ≡ before ++ after
unfolding without
without-between x [] after all = ap (λ b. if b then after else x ∷ without x after) (itself x.key x.id)
without-between x (y ∷ ys) after all =
    ap (λ b. if b then ys ++ x ∷ after else y ∷ without x (ys ++ x ∷ after)) (before_is_other y.key y.id x.key x.id all.0)
    ∙ ap (λ es. y ∷ es) (without-between x ys after all.1)

-- in a rising list what is in front of an entry goes before it
front_before : (x : Entry) (before after : List Entry) → IsRising (before ++ x ∷ after) → AreBefore x.key x.id before
front_before x [] after rising = tt
front_before x (y ∷ ys) after rising = (back_first x y ys after rising.0, front_before x ys after rising.1)
  where
    back_first : (x y : Entry) (ys after : List Entry) → AllByRecursion (λ (f : Entry). IsTrue (goes_before y.key y.id f.key f.id)) (ys ++ x ∷ after)
        → IsTrue (goes_before y.key y.id x.key x.id)
    back_first x y [] after all = all.0
    back_first x y (z ∷ zs) after all = back_first x y zs after all.1

module _ (key_of : ℕ → List ℕ → ℕ) (c : ℕ) where
  -- an object less: the rising list without its entry is that of the others
  pub cleared-entries : (p : Placed) (ps qs : List Placed) (new : List Entry) → p.collection ≡ c → IsPermutation ps (p ∷ qs)
      → IsWith (entry_of key_of p) new (collection_entries key_of c ps) → IsRising (collection_entries key_of c ps) → new ≡ collection_entries key_of c qs
  unfolding sorted_by
  cleared-entries p ps qs new is moved less rising =
      let e = entry_of key_of p in
      let all : IsPermutation (entries key_of c ps) (e ∷ entries key_of c qs) =
      IsPermutation-trans (entries key_of c ps) (entries key_of c (p ∷ qs)) (e ∷ entries key_of c qs) (entries_moved key_of c ps (p ∷ qs) moved)
      (permutation-same (entries key_of c (p ∷ qs)) (e ∷ entries key_of c qs) (entries_here key_of c p qs is)) in
      let whole : less.before ++ e ∷ less.after ≡ with_inserted entry_before e (collection_entries key_of c qs) =
      sym less.are ∙ arranged_by-same place_before place_order place_of (entries key_of c ps) (e ∷ entries key_of c qs) all (distinct key_of c ps rising) in
      less.were
      ∙ sym (without-between e less.before less.after (front_before e less.before less.after (subst IsRising less.are rising)))
      ∙ ap (without e) whole
      ∙ without-inserted e (collection_entries key_of c qs)

  -- an object less of another collection changes nothing
  pub fewer-entries : (p : Placed) (ps qs : List Placed) → (p.collection ≡ c → ⊥) → IsPermutation ps (p ∷ qs) → IsRising (collection_entries key_of c ps)
      → collection_entries key_of c qs ≡ collection_entries key_of c ps
  fewer-entries p ps qs other moved rising =
      let all : IsPermutation (entries key_of c ps) (entries key_of c qs) =
      IsPermutation-trans (entries key_of c ps) (entries key_of c (p ∷ qs)) (entries key_of c qs) (entries_moved key_of c ps (p ∷ qs) moved)
      (permutation-same (entries key_of c (p ∷ qs)) (entries key_of c qs) (entries_past key_of c p qs other)) in
      sym (arranged_by-same place_before place_order place_of (entries key_of c ps) (entries key_of c qs) all (distinct key_of c ps rising))
