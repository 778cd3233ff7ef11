-- What the filled slots hold, in the order of the slots.
use Rattle.std.proofs.Common.{◌≡◌, inl, inr, ℕ, zero, suc, ◌+◌, ◌≤◌, ◌<◌, Bool, true, false, cond, List, [], ◌∷◌, length, refl, sym, ap, subst, ◌∙◌, arith}
use Rattle.std.specs.Prelude.{map, Option, Some, None}
use Rattle.std.specs.List.{AllByRecursion, IsDistinct, filter_map, cons_option, range_with_len}
use Rattle.std.specs.Map.{keys_of, lookup}
use Rattle.std.specs.BTreeMap.{is_at}
use Rattle.std.specs.Ordering.{nat_cmp, is_eq, eq_by_cmp}
use Rattle.std.specs.declared.cmp.Ordering.{Ordering}
use Rattle.std.specs.declared.cmp.Ordering.TheVariants.{Less, Equal, Greater}
use Rattle.std.proofs.lemmas.Bool.{cases_eq, false≢true}
use Rattle.std.proofs.lemmas.Cmp.{eq_by_cmp_equiv}
use Rattle.std.proofs.lemmas.Option.{same_Some}
use Rattle.std.proofs.lemmas.Map.Keys.{IsDistinct-head, IsDistinct-tail}
use Rattle.std.proofs.lemmas.Map.Lookups.{CmpEqualImpliesEq, exact_pairs, exact_unsigned}
use Rattle.spb_defs.specs.State.{Key, Members, key_cmp}
use Rattle.scan_laws.specs.Sorted.{lookup-absent}
use Rattle.scan_laws.specs.Members.{key_order}
use Rattle.object_file.specs.Slots.{Slot, Free, Holds, Broken}
use Rattle.store_check.specs.Stands.{Placed, placed_of, placed_in, member_of}

-- keys that compare as equal are one
exact_keys : CmpEqualImpliesEq key_cmp
exact_keys = exact_pairs nat_cmp nat_cmp exact_unsigned exact_unsigned

abbrev at : ℕ → ℕ → Key → Bool
at c id = is_at (key_cmp (c, id))

itself : (c id : ℕ) → at c id (c, id) ≡ true
itself c id = (eq_by_cmp_equiv key_order).refl (c, id)

never : {X : Type 0} (x : X) → None ≡ Some x → ⊥
never x e = cc

is_equal : (r : Ordering) → is_eq r ≡ true → r ≡ Equal
is_equal Less is = absurd (false≢true is)
is_equal Equal is = refl
is_equal Greater is = absurd (false≢true is)

-- an entry found under a key has the key
one_key : (c id d i : ℕ) → at c id (d, i) ≡ true → ◌≡◌ {A = Key} (c, id) (d, i)
one_key c id d i is = exact_keys (c, id) (d, i) (is_equal (key_cmp (c, id) (d, i)) is)

module _ (slots : ℕ → Slot) where
  -- those of n slots, the first of the number `from`
  abbrev pub from_on : ℕ → ℕ → List Placed
  from_on from n = filter_map (λ slot. placed_of slot (slots slot)) (range_with_len from n)

  abbrev pub entries_on : ℕ → ℕ → Members
  entries_on from n = map member_of (from_on from n)

-- they are the same for slots that are alike
pub same_on : (slots other : ℕ → Slot) (from n : ℕ) → ((slot : ℕ) → from ≤ slot → slot < from + n → other slot ≡ slots slot) → from_on other from n ≡ from_on slots from n
same_on slots other from zero same = refl
same_on slots other from (suc n) same =
    ap (λ slot. cons_option (placed_of from slot) (from_on other (from + 1) n)) (same from (omega arith) (omega arith))
    ∙ ap (λ rest. cons_option (placed_of from (slots from)) rest)
    (same_on slots other (from + 1) n (λ slot least below. same slot (omega (arith, least)) (omega (arith, below))))

pub placed-same : (cap : ℕ) (slots other : ℕ → Slot) → ((slot : ℕ) → slot < cap → other slot ≡ slots slot) → placed_in cap other ≡ placed_in cap slots
unfolding placed_in
placed-same cap slots other same = same_on slots other 0 cap (λ slot least below. same slot (omega (arith, below)))

-- there are no more than slots
longer_by : (from : ℕ) (slot : Slot) (rest : List Placed) (n : ℕ) → length rest ≤ n → length (cons_option (placed_of from slot) rest) ≤ suc n
longer_by from Free rest n few = omega (arith, few)
longer_by from (Holds c id object) rest n few = omega (arith, few)
longer_by from Broken rest n few = omega (arith, few)

few_on : (slots : ℕ → Slot) (from n : ℕ) → length (from_on slots from n) ≤ n
few_on slots from zero = omega arith
few_on slots from (suc n) = longer_by from (slots from) (from_on slots (from + 1) n) n (few_on slots (from + 1) n)

pub length-placed_in : (cap : ℕ) (slots : ℕ → Slot) → length (placed_in cap slots) ≤ cap
unfolding placed_in
length-placed_in cap slots = few_on slots 0 cap

-- what is so of all filled slots
module _ (P : Key × List ℕ → Type 0) where
  all_by : (from : ℕ) (slot : Slot) (rest : List Placed) → ((c id : ℕ) (object : List ℕ) → slot ≡ Holds c id object → P ((c, id), object))
      → AllByRecursion P (map member_of rest) → AllByRecursion P (map member_of (cons_option (placed_of from slot) rest))
  all_by from Free rest each all = all
  all_by from (Holds c id object) rest each all = (each c id object refl, all)
  all_by from Broken rest each all = all

  all_on : (slots : ℕ → Slot) (from n : ℕ) → ((slot c id : ℕ) (object : List ℕ) → slot < from + n → slots slot ≡ Holds c id object → P ((c, id), object))
      → AllByRecursion P (entries_on slots from n)
  all_on slots from zero each = tt
  all_on slots from (suc n) each = all_by from (slots from) (from_on slots (from + 1) n) (λ c id object is. each from c id object (omega arith) is)
      (all_on slots (from + 1) n (λ slot c id object below is. each slot c id object (omega (arith, below)) is))

  pub all-placed_in : (cap : ℕ) (slots : ℕ → Slot) → ((slot c id : ℕ) (object : List ℕ) → slot < cap → slots slot ≡ Holds c id object → P ((c, id), object))
      → AllByRecursion P (map member_of (placed_in cap slots))
  unfolding placed_in
  all-placed_in cap slots each = all_on slots 0 cap (λ slot c id object below is. each slot c id object (omega (arith, below)) is)

-- ---- what is found under a key

passed_by : (b : Bool) (x object : List ℕ) (rest : Option (List ℕ)) → (b ≡ true → ⊥) → rest ≡ Some object → cond b (Some x) rest ≡ Some object
passed_by true x object rest other found = absurd (other refl)
passed_by false x object rest other found = found

first_by : (b : Bool) (x : List ℕ) (rest : Option (List ℕ)) → b ≡ true → cond b (Some x) rest ≡ Some x
first_by true x rest is = refl
first_by false x rest is = absurd (false≢true is)

-- an entry that is found behind another one has another key
module _ (d i : ℕ) (first : List ℕ) (rest : Members) (distinct : IsDistinct (eq_by_cmp key_cmp) (keys_of (((d, i), first) ∷ rest))) where
  none_behind : lookup (at d i) rest ≡ None
  none_behind = lookup-absent (at d i) rest (IsDistinct-head (eq_by_cmp key_cmp) (d, i) (keys_of rest) distinct)

  other_key : (c id : ℕ) (object : List ℕ) → lookup (at c id) rest ≡ Some object → at c id (d, i) ≡ true → ⊥
  other_key c id object found is =
      never object (sym none_behind ∙ ap (λ (k : Key). lookup (is_at (key_cmp k)) rest) (sym (one_key c id d i is)) ∙ found)

abbrev AreDistinct : List Placed → Type 0
AreDistinct rest = IsDistinct (eq_by_cmp key_cmp) (keys_of (map member_of rest))

distinct_by : (from : ℕ) (slot : Slot) (rest : List Placed) → AreDistinct (cons_option (placed_of from slot) rest) → AreDistinct rest
distinct_by from Free rest distinct = distinct
distinct_by from Broken rest distinct = distinct
distinct_by from (Holds d i first) rest distinct = IsDistinct-tail (eq_by_cmp key_cmp) (d, i) (keys_of (map member_of rest)) distinct

behind_by : (c id from : ℕ) (object : List ℕ) (slot : Slot) (rest : List Placed) → AreDistinct (cons_option (placed_of from slot) rest)
    → lookup (at c id) (map member_of rest) ≡ Some object → lookup (at c id) (map member_of (cons_option (placed_of from slot) rest)) ≡ Some object
behind_by c id from object Free rest distinct found = found
behind_by c id from object Broken rest distinct found = found
behind_by c id from object (Holds d i first) rest distinct found =
    passed_by (at c id (d, i)) first object (lookup (at c id) (map member_of rest)) (other_key d i first (map member_of rest) distinct c id object found) found

here_by : (c id from : ℕ) (object : List ℕ) (slot : Slot) (rest : List Placed) → slot ≡ Holds c id object
    → lookup (at c id) (map member_of (cons_option (placed_of from slot) rest)) ≡ Some object
here_by c id from object slot rest is =
    ap (λ (r : Slot). lookup (at c id) (map member_of (cons_option (placed_of from r) rest))) is
    ∙ first_by (at c id (c, id)) object (lookup (at c id) (map member_of rest)) (itself c id)

module _ (slots : ℕ → Slot) where
  -- what a slot holds is found
  found_on : (from n slot c id : ℕ) (object : List ℕ) → from ≤ slot → slot < from + n → slots slot ≡ Holds c id object → AreDistinct (from_on slots from n)
      → lookup (at c id) (entries_on slots from n) ≡ Some object
  found_on from zero slot c id object least below is distinct = absurd (omega (arith, least, below))
  found_on from (suc n) slot c id object least below is distinct = elim (cases_eq slot from) [
    | inl here ↦ here_by c id from object (slots from) (from_on slots (from + 1) n) (ap slots (sym here) ∙ is)
    | inr after ↦ behind_by c id from object (slots from) (from_on slots (from + 1) n) distinct
        (found_on (from + 1) n slot c id object (omega (arith, least, after)) (omega (arith, below)) is
        (distinct_by from (slots from) (from_on slots (from + 1) n) distinct))
  ]

  -- two slots don't hold the same key
  clash_by : (c id from : ℕ) (object another : List ℕ) (slot : Slot) (rest : List Placed) → slot ≡ Holds c id object
      → AreDistinct (cons_option (placed_of from slot) rest) → lookup (at c id) (map member_of rest) ≡ Some another → ⊥
  clash_by c id from object another slot rest is distinct found =
      never another (sym (none_behind c id object (map member_of rest)
      (subst (λ (r : Slot). AreDistinct (cons_option (placed_of from r) rest)) is distinct)) ∙ found)

  clash_on : (from n lower slot c id : ℕ) (object another : List ℕ) → from ≤ lower → lower < slot → slot < from + n → slots lower ≡ Holds c id object
      → slots slot ≡ Holds c id another → AreDistinct (from_on slots from n) → ⊥
  clash_on from zero lower slot c id object another least less below is other distinct = omega (arith, least, less, below)
  clash_on from (suc n) lower slot c id object another least less below is other distinct =
      let rest = from_on slots (from + 1) n in
      let tail = distinct_by from (slots from) rest distinct in
      elim (cases_eq lower from) [
        | inl here ↦ clash_by c id from object another (slots from) rest (ap slots (sym here) ∙ is) distinct
            (found_on (from + 1) n slot c id another (omega (arith, less, here)) (omega (arith, below)) other tail)
        | inr after ↦ clash_on (from + 1) n lower slot c id object another (omega (arith, least, after)) less (omega (arith, below)) is other tail
      ]

  -- what is found is in a slot
  abbrev pub IsHeld : ℕ → ℕ → ℕ → ℕ → List ℕ → Type 0
  IsHeld from n c id object = (slot : ℕ) × (slot < from + n) × (slots slot ≡ Holds c id object)

  later : (from n c id : ℕ) (object : List ℕ) → IsHeld (from + 1) n c id object → IsHeld from (suc n) c id object
  later from n c id object held = (held.0, omega (arith, held.1), held.2)

  held_if : (b : Bool) (from n c id d i : ℕ) (object first : List ℕ) (rest : Option (List ℕ)) → at c id (d, i) ≡ b → slots from ≡ Holds d i first
      → cond b (Some first) rest ≡ Some object → (rest ≡ Some object → IsHeld (from + 1) n c id object) → IsHeld from (suc n) c id object
  held_if true from n c id d i object first rest is here found behind =
      let key : ◌≡◌ {A = Key} (d, i) (c, id) = sym (one_key c id d i is) in
      (from, omega arith, here ∙ ap (λ (k : Key). Holds k.0 k.1 first) key ∙ ap (Holds c id) (same_Some first object found))
  held_if false from n c id d i object first rest is here found behind = later from n c id object (behind found)

  held_by : (from n c id : ℕ) (object : List ℕ) (slot : Slot) (rest : List Placed) → slots from ≡ slot
      → lookup (at c id) (map member_of (cons_option (placed_of from slot) rest)) ≡ Some object
      → (lookup (at c id) (map member_of rest) ≡ Some object → IsHeld (from + 1) n c id object) → IsHeld from (suc n) c id object
  held_by from n c id object Free rest here found behind = later from n c id object (behind found)
  held_by from n c id object Broken rest here found behind = later from n c id object (behind found)
  held_by from n c id object (Holds d i first) rest here found behind =
      held_if (at c id (d, i)) from n c id d i object first (lookup (at c id) (map member_of rest)) refl here found behind

  held_on : (from n c id : ℕ) (object : List ℕ) → lookup (at c id) (entries_on slots from n) ≡ Some object → IsHeld from n c id object
  held_on from zero c id object found = absurd (never object found)
  held_on from (suc n) c id object found =
      held_by from n c id object (slots from) (from_on slots (from + 1) n) refl found (held_on (from + 1) n c id object)

-- ---- the same of all slots

module _ (cap : ℕ) (slots : ℕ → Slot) where
  pub found_placed : (slot c id : ℕ) (object : List ℕ) → IsDistinct (eq_by_cmp key_cmp) (keys_of (map member_of (placed_in cap slots))) → slot < cap
      → slots slot ≡ Holds c id object → lookup (is_at (key_cmp (c, id))) (map member_of (placed_in cap slots)) ≡ Some object
  unfolding placed_in
  found_placed slot c id object distinct below is = found_on slots 0 cap slot c id object (omega arith) (omega (arith, below)) is distinct

  pub held_placed : (c id : ℕ) (object : List ℕ) → lookup (is_at (key_cmp (c, id))) (map member_of (placed_in cap slots)) ≡ Some object
      → (slot : ℕ) × (slot < cap) × (slots slot ≡ Holds c id object)
  unfolding placed_in
  held_placed c id object found = let h = held_on slots 0 cap c id object found in (h.0, omega (arith, h.1), h.2)

  pub clash_placed : (lower slot c id : ℕ) (object another : List ℕ) → IsDistinct (eq_by_cmp key_cmp) (keys_of (map member_of (placed_in cap slots)))
      → lower < slot → slot < cap → slots lower ≡ Holds c id object → slots slot ≡ Holds c id another → ⊥
  unfolding placed_in
  clash_placed lower slot c id object another distinct less below is other =
      clash_on slots 0 cap lower slot c id object another (omega arith) less (omega (arith, below)) is other distinct

-- ---- free slots

free_on : (from n : ℕ) → from_on (λ slot. Free) from n ≡ []
free_on from zero = refl
free_on from (suc n) = free_on (from + 1) n

pub free_placed : (cap : ℕ) (slots : ℕ → Slot) → ((slot : ℕ) → slot < cap → slots slot ≡ Free) → placed_in cap slots ≡ []
unfolding placed_in
free_placed cap slots free = same_on (λ slot. Free) slots 0 cap (λ slot least below. free slot (omega (arith, below))) ∙ free_on 0 cap

-- ---- distinct keys

-- what a list of members has of each entry, its keys have
keys_all : (P : Key → Type 0) (es : Members) → AllByRecursion (λ e. P e.0) es → AllByRecursion P (keys_of es)
keys_all P [] all = tt
keys_all P (e ∷ es) all = (all.0, keys_all P es all.1)

module _ (slots : ℕ → Slot) where
  -- no two of n slots hold the same key
  abbrev NoneAgain : ℕ → ℕ → Type 0
  NoneAgain from n = (lower slot c id : ℕ) (object another : List ℕ) → from ≤ lower → lower < slot → slot < from + n → slots lower ≡ Holds c id object
      → slots slot ≡ Holds c id another → ⊥

  other_by : (b : Bool) (c id d i : ℕ) → at d i (c, id) ≡ b → ((d ≡ c) × (i ≡ id) → ⊥) → at d i (c, id) ≡ false
  other_by true c id d i is other = absurd (let key = one_key d i c id is in other (ap (λ (k : Key). k.0) key, ap (λ (k : Key). k.1) key))
  other_by false c id d i is other = is

  others_on : (d i from n : ℕ) → ((slot : ℕ) (object : List ℕ) → from ≤ slot → slot < from + n → slots slot ≡ Holds d i object → ⊥)
      → AllByRecursion (λ (e : Key × List ℕ). at d i e.0 ≡ false) (entries_on slots from n)
  others_on d i from zero none = tt
  others_on d i from (suc n) none = all_by (λ (e : Key × List ℕ). at d i e.0 ≡ false) from (slots from) (from_on slots (from + 1) n)
      (λ c id object is. other_by (at d i (c, id)) c id d i refl (λ key. none from object (omega arith) (omega arith)
      (is ∙ (λ j. Holds (sym key.0 j) (sym key.1 j) object))))
      (others_on d i (from + 1) n (λ slot object least below. none slot object (omega (arith, least)) (omega (arith, below))))

  distinct_if : (from n : ℕ) (slot : Slot) → slots from ≡ slot → NoneAgain from (suc n) → AreDistinct (from_on slots (from + 1) n)
      → AreDistinct (cons_option (placed_of from slot) (from_on slots (from + 1) n))
  unfolding IsDistinct
  distinct_if from n Free is none rest = rest
  distinct_if from n Broken is none rest = rest
  distinct_if from n (Holds d i first) is none rest = (
    keys_all (λ k. at d i k ≡ false) (entries_on slots (from + 1) n)
        (others_on d i (from + 1) n (λ slot object least below again. none from slot d i first object (omega arith) (omega (arith, least)) (omega (arith, below)) is again)),
    rest,
  )

  distinct_on : (from n : ℕ) → NoneAgain from n → AreDistinct (from_on slots from n)
  unfolding IsDistinct
  distinct_on from zero none = tt
  distinct_on from (suc n) none = distinct_if from n (slots from) refl none (distinct_on (from + 1) n (λ lower slot c id object another least less below is again.
      none lower slot c id object another (omega (arith, least)) less (omega (arith, below)) is again))

pub distinct_placed : (cap : ℕ) (slots : ℕ → Slot) → ((lower slot c id : ℕ) (object another : List ℕ) → lower < slot → slot < cap → slots lower ≡ Holds c id object
    → slots slot ≡ Holds c id another → ⊥) → IsDistinct (eq_by_cmp key_cmp) (keys_of (map member_of (placed_in cap slots)))
unfolding placed_in
distinct_placed cap slots none = distinct_on slots 0 cap (λ lower slot c id object another least less below is again.
    none lower slot c id object another less (omega (arith, below)) is again)
