-- What a key and an id find among the entries of a collection.
use Rattle.std.proofs.Common.{◌≡◌, inl, inr, ℕ, ◌<◌, ◌==◌, Bool, true, false, cond, List, [], ◌∷◌, map, refl, sym, ap, subst, ◌∙◌, arith, true≢false}
use Rattle.std.specs.Prelude.{◌&&◌, if◌then◌else◌, Option, Some, None, All}
use Rattle.std.specs.List.{AllByRecursion}
use Rattle.std.specs.Map.{lookup}
use Rattle.std.specs.BTreeMap.{is_at}
use Rattle.std.proofs.lemmas.Bool.{cases_eq, cases_lt}
use Rattle.std.proofs.lemmas.Bool.Decides.{nat_tests}
use Rattle.std.proofs.lemmas.List.Elements.{All-from_recursion, recursion_from_All}
use Rattle.std.proofs.lemmas.List.Sorted.{All-permutation}
use Rattle.answer_lists.specs.OrderLaws.{all-sorted_by, sorted_by-permutation}
use Rattle.metrics_builtin.specs.declared.Space.{Space}
use Rattle.spb_defs.specs.State.{Members, key_cmp}
use Rattle.scan_laws.specs.Members.{key_order}
use Rattle.scan_laws.specs.Sorted.{lookup-sorted_by}
use Rattle.object_file.specs.Slots.{Holds}
use Rattle.object_file.specs.ObjectFile.{slot_at}
use Rattle.store_check.specs.Stands.{Placed, placed, placed_in, placed_members, HoldsMembers}
use Rattle.store_check.proofs.Placed.{held_placed, clash_placed}
use Rattle.slot_laws.specs.PlacedLaws.{placed_here, placed_apart, with_free, IsInSlot, all_in_slots}
use Rattle.slot_laws.specs.ChangeLaws.{slots_give_objects}
use Rattle.bptree_node.specs.declared.rows.Entry.{Entry}
use Rattle.bptree_node.specs.Lists.{all-weaker}
use Rattle.bptree_node.specs.Trees.{is_entry, slot_of}
use Rattle.tree_state.specs.TreeEntries.{entry_before, in_collection}
use Rattle.tree_lists.specs.Lists.{entry_of, collection_entries}
use Rattle.tree_lists.proofs.Changes.{entries, entries_moved, entries_here}

-- ---- what holds of all entries

one_number : (d c : ℕ) → (d == c) ≡ true → d ≡ c
one_number d c is = grind (arith, nat_tests, is)

all_if : (R : Placed → Type 0) (c : ℕ) (p : Placed) (rest : List Placed) (b : Bool) → (p.collection == c) ≡ b → (p.collection ≡ c → R p) → AllByRecursion R rest
    → AllByRecursion R (cond b (p ∷ rest) rest)
all_if R c p rest true is one all = (one (one_number p.collection c is), all)
all_if R c p rest false is one all = all

all_in_collection : (R : Placed → Type 0) (c : ℕ) (ps : List Placed) → AllByRecursion (λ (p : Placed). p.collection ≡ c → R p) ps
    → AllByRecursion R (in_collection c ps)
all_in_collection R c [] all = tt
all_in_collection R c (p ∷ ps) all = all_if R c p (in_collection c ps) (p.collection == c) refl all.0 (all_in_collection R c ps all.1)

all_mapped : (R : Entry → Type 0) (f : Placed → Entry) (ps : List Placed) → AllByRecursion (λ (p : Placed). R (f p)) ps → AllByRecursion R (map f ps)
all_mapped R f [] all = tt
all_mapped R f (p ∷ ps) all = (all.0, all_mapped R f ps all.1)

pub all-entries : (R : Entry → Type 0) (key_of : ℕ → List ℕ → ℕ) (c : ℕ) (ps : List Placed)
    → AllByRecursion (λ (p : Placed). p.collection ≡ c → R (entry_of key_of p)) ps → AllByRecursion R (collection_entries key_of c ps)
all-entries R key_of c ps all =
    all-sorted_by entry_before R (entries key_of c ps)
    (all_mapped R (entry_of key_of) (in_collection c ps) (all_in_collection (λ (p : Placed). R (entry_of key_of p)) c ps all))

-- ---- what is found

both_same : (a b c d : ℕ) → ((a == c) && (b == d)) ≡ true → (a ≡ c) × (b ≡ d)
both_same a b c d is = grind (arith, nat_tests, is)

-- an entry of which something holds
pub record IsFound (R : Entry → Type 0) (key id slot : ℕ) : Type 0 where
  pub entry : Entry
  pub holds : R entry
  pub same_key : entry.key ≡ key
  pub same_id : entry.id ≡ id
  pub same_slot : entry.slot ≡ slot

some_slot : (a b : ℕ) → ◌≡◌ {A = Option ℕ} (Some a) (Some b) → a ≡ b
some_slot a b e = cc

never : (a : ℕ) → ◌≡◌ {A = Option ℕ} None (Some a) → ⊥
never a e = cc

found_if : (R : Entry → Type 0) (key id slot : ℕ) (e : Entry) (rest : Option ℕ) (b : Bool) → is_entry key id e ≡ b → R e → (if b then Some e.slot else rest) ≡ Some slot
    → (rest ≡ Some slot → IsFound R key id slot) → IsFound R key id slot
found_if R key id slot e rest true is holds found behind =
    let both = both_same e.key e.id key id is in
    record { entry = e; holds = holds; same_key = both.0; same_id = both.1; same_slot = some_slot e.slot slot found }
found_if R key id slot e rest false is holds found behind = behind found

pub entry-found : (R : Entry → Type 0) (key id slot : ℕ) (es : List Entry) → AllByRecursion R es → slot_of key id es ≡ Some slot → IsFound R key id slot
entry-found R key id slot [] all found = absurd (never slot found)
entry-found R key id slot (e ∷ es) all found =
    found_if R key id slot e (slot_of key id es) (is_entry key id e) refl all.0 found (entry-found R key id slot es all.1)

some_never : (a : ℕ) → ◌≡◌ {A = Option ℕ} (Some a) None → ⊥
some_never a e = cc

none_if : (e : Entry) (rest : Option ℕ) (b : Bool) → (if b then Some e.slot else rest) ≡ None → (b ≡ false) × (rest ≡ None)
none_if e rest true none = absurd (some_never e.slot none)
none_if e rest false none = (refl, none)

none-found : (key id : ℕ) (es : List Entry) → slot_of key id es ≡ None → AllByRecursion (λ (e : Entry). is_entry key id e ≡ false) es
none-found key id [] none = tt
none-found key id (e ∷ es) none =
    let parts = none_if e (slot_of key id es) (is_entry key id e) none in (parts.0, none-found key id es parts.1)

-- ---- the entries of what the slots hold

-- the slot of an entry is below cap, and holds an object under this collection and the entry's id
abbrev pub IsHeldEntry : (ℕ → List ℕ → ℕ) → ℕ → (ℕ → List ℕ) → ℕ → Entry → Type 0
IsHeldEntry key_of cap home c e = (object : List ℕ) × (e.slot < cap) × (slot_at home e.slot ≡ Holds c e.id object) × (e.key ≡ key_of e.id object)

held_entry : (key_of : ℕ → List ℕ → ℕ) (cap : ℕ) (home : ℕ → List ℕ) (c : ℕ) (p : Placed) → IsInSlot cap (slot_at home) p → p.collection ≡ c
    → IsHeldEntry key_of cap home c (entry_of key_of p)
held_entry key_of cap home c p is same = (p.object, is.0, is.1 ∙ ap (λ d. Holds d p.id p.object) same, refl)

pub all-held : (key_of : ℕ → List ℕ → ℕ) (cap : ℕ) (home : ℕ → List ℕ) (c : ℕ)
    → AllByRecursion (IsHeldEntry key_of cap home c) (collection_entries key_of c (placed cap home))
all-held key_of cap home c =
    all-entries (IsHeldEntry key_of cap home c) key_of c (placed cap home)
    (all-weaker (IsInSlot cap (slot_at home)) (λ (p : Placed). p.collection ≡ c → IsHeldEntry key_of cap home c (entry_of key_of p))
    (held_entry key_of cap home c) (placed cap home) (all_in_slots cap (slot_at home)))

same_entry : (key id : ℕ) → ((key == key) && (id == id)) ≡ true
same_entry key id = grind (arith, nat_tests)

-- an entry isn't that of a key and an id
abbrev Differs : ℕ → ℕ → Entry → Type 0
Differs key id e = is_entry key id e ≡ false

-- what a slot holds is found by its key
held_is_there : (key_of : ℕ → List ℕ → ℕ) (cap slot c id : ℕ) (object : List ℕ) (home : ℕ → List ℕ) → slot < cap → slot_at home slot ≡ Holds c id object
    → slot_of (key_of id object) id (collection_entries key_of c (placed cap home)) ≡ None → ⊥
held_is_there key_of cap slot c id object home below is none =
    let p = placed_here slot c id object in
    let rest = placed_in cap (with_free (slot_at home) slot) in
    let key = key_of id object in
    let all : All (Differs key id) (collection_entries key_of c (placed cap home)) =
    All-from_recursion (Differs key id) (collection_entries key_of c (placed cap home)) (none-found key id (collection_entries key_of c (placed cap home)) none) in
    let moved : All (Differs key id) (entries key_of c (p ∷ rest)) =
    All-permutation (Differs key id) (entries key_of c (placed cap home)) (entries key_of c (p ∷ rest))
    (entries_moved key_of c (placed cap home) (p ∷ rest) (placed_apart cap slot c id object (slot_at home) below is))
    (All-permutation (Differs key id) (collection_entries key_of c (placed cap home)) (entries key_of c (placed cap home))
    (sorted_by-permutation entry_before (entries key_of c (placed cap home))) all) in
    let first : AllByRecursion (Differs key id) (entry_of key_of p ∷ entries key_of c rest) =
    subst (AllByRecursion (Differs key id)) (entries_here key_of c p rest refl) (recursion_from_All (Differs key id) (entries key_of c (p ∷ rest)) moved) in
    true≢false (sym (same_entry key id) ∙ first.0)

module _ (space : Space) (cap : ℕ) (home : ℕ → List ℕ) (members : Members) (holds : HoldsMembers space cap home members) (key_of : ℕ → List ℕ → ℕ) where
  -- the slot that a key and an id find holds the member's object
  pub found-held : (c key id slot : ℕ) → slot_of key id (collection_entries key_of c (placed cap home)) ≡ Some slot
      → (object : List ℕ) × (slot < cap) × (slot_at home slot ≡ Holds c id object) × (lookup (is_at (key_cmp (c, id))) members ≡ Some object)
  found-held c key id slot found =
      let f = entry-found (IsHeldEntry key_of cap home c) key id slot (collection_entries key_of c (placed cap home)) (all-held key_of cap home c) found in
      let object = f.holds.0 in
      let below : slot < cap = subst (λ s. s < cap) f.same_slot f.holds.1 in
      let is : slot_at home slot ≡ Holds c id object =
      ap (slot_at home) (sym f.same_slot) ∙ f.holds.2 ∙ ap (λ i. Holds c i object) f.same_id in
      (object, below, is, slots_give_objects space cap slot c id object home members holds below is)

  -- where no member has the key, nothing is found
  pub absent-none : (c key id : ℕ) → lookup (is_at (key_cmp (c, id))) members ≡ None → slot_of key id (collection_entries key_of c (placed cap home)) ≡ None
  absent-none c key id absent = by_cases (slot_of key id (collection_entries key_of c (placed cap home))) refl
    where
      no_object : (object : List ℕ) → ◌≡◌ {A = Option (List ℕ)} None (Some object) → ⊥
      no_object object e = cc

      by_cases : (o : Option ℕ) → slot_of key id (collection_entries key_of c (placed cap home)) ≡ o → o ≡ None
      by_cases None is = refl
      by_cases (Some slot) is = let held = found-held c key id slot is in absurd (no_object held.0 (sym absent ∙ held.3))

  same_slot : (slot other c id : ℕ) (object another : List ℕ) → slot < cap → other < cap → slot_at home slot ≡ Holds c id object
      → slot_at home other ≡ Holds c id another → other ≡ slot
  same_slot slot other c id object another below inside is too = elim (cases_eq other slot) [
    | inl same ↦ same
    | inr differs ↦ absurd (elim (cases_lt other slot) [
      | inl less ↦ clash_placed cap (slot_at home) other slot c id another object holds.distinct less below too is
      | inr more ↦ clash_placed cap (slot_at home) slot other c id object another holds.distinct (omega (arith, more, differs)) inside is too
    ])
  ]

  -- the slot of an object is found by its key and its id
  pub held-found : (slot c id : ℕ) (object : List ℕ) → slot < cap → slot_at home slot ≡ Holds c id object
      → slot_of (key_of id object) id (collection_entries key_of c (placed cap home)) ≡ Some slot
  held-found slot c id object below is = by_cases (slot_of (key_of id object) id (collection_entries key_of c (placed cap home))) refl
    where
      by_cases : (o : Option ℕ) → slot_of (key_of id object) id (collection_entries key_of c (placed cap home)) ≡ o → o ≡ Some slot
      by_cases None none = absurd (held_is_there key_of cap slot c id object home below is none)
      by_cases (Some other) found =
          let held = found-held c (key_of id object) id other found in
          ap Some (same_slot slot other c id object held.0 below held.1 is held.2)

-- where an id isn't found, no member has it
pub none-absent : (space : Space) (cap : ℕ) (home : ℕ → List ℕ) (members : Members) → HoldsMembers space cap home members → (c id : ℕ)
    → slot_of id id (collection_entries (λ i object. i) c (placed cap home)) ≡ None → lookup (is_at (key_cmp (c, id))) members ≡ None
none-absent space cap home members holds c id none = by_cases (lookup (is_at (key_cmp (c, id))) members) refl
  where
    by_cases : (o : Option (List ℕ)) → lookup (is_at (key_cmp (c, id))) members ≡ o → o ≡ None
    by_cases None is = refl
    by_cases (Some object) is =
        let placed_is : lookup (is_at (key_cmp (c, id))) (placed_members cap home) ≡ Some object =
        sym (lookup-sorted_by key_order (c, id) (placed_members cap home)) ∙ ap (lookup (is_at (key_cmp (c, id)))) (sym holds.members_are) ∙ is in
        let held = held_placed cap (slot_at home) c id object placed_is in
        absurd (held_is_there (λ i object. i) cap held.0 c id object home held.1 held.2 none)
