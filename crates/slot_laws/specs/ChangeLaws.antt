-- The members in the slots when a slot is filled or cleared.
use Rattle.std.proofs.Common.{◌≡◌, inl, inr, ℕ, ◌<◌, cond, List, ◌∷◌, sym, ap, subst, ◌∙◌}
use Rattle.std.specs.Prelude.{◌^◌, Some, None, map}
use Rattle.std.specs.List.{IsDistinct}
use Rattle.std.specs.List.Sorted.{IsPermutation}
use Rattle.std.specs.Map.{keys_of, lookup}
use Rattle.std.specs.BTreeMap.{is_at}
use Rattle.std.specs.Ordering.{eq_by_cmp, nat_cmp}
use Rattle.std.proofs.lemmas.Bool.{cases_eq}
use Rattle.std.proofs.lemmas.Cmp.{eq_by_cmp_equiv}
use Rattle.std.proofs.lemmas.List.Sorted.{IsPermutation-sym, IsPermutation-map}
use Rattle.std.proofs.lemmas.Map.Keys.{IsDistinct-cons, IsDistinct-head, IsDistinct-tail}
use Rattle.std.proofs.lemmas.Map.Lookups.{CmpEqualImpliesEq, exact_pairs, exact_unsigned}
use Rattle.answer_lists.specs.Order.{sorted_by}
use Rattle.metrics_builtin.specs.declared.Space.{Space}
use Rattle.metrics_builtin.specs.Space.{IsValid}
use Rattle.spb_defs.specs.State.{Members, key_cmp, with_object, without_object}
use Rattle.scan_laws.specs.Members.{key_order}
use Rattle.scan_laws.specs.Sorted.{absent-lookup, lookup-absent, lookup-sorted_by, distinct-moved, sorted_by-same_keys, sorted_by-inserted, sorted_by-removed}
use Rattle.scan_laws.specs.Tables.{key_before}
use Rattle.object_file.specs.Slots.{Slot, Free, Holds}
use Rattle.object_file.specs.ObjectFile.{slot_at, SetsSlot}
use Rattle.store_check.specs.Stands.{Placed, member_of, placed_in, placed, placed_members, IsReadable, HoldsMembers}
use Rattle.slot_laws.specs.PlacedLaws.{placed_here, with_free, placed_more, placed_apart}

-- keys that compare as equal are one
pub exact_keys : CmpEqualImpliesEq key_cmp
exact_keys = exact_pairs nat_cmp nat_cmp exact_unsigned exact_unsigned

-- no two members have the same key
abbrev pub HasDistinctMembers : List Placed → Type 0
HasDistinctMembers ps = IsDistinct (eq_by_cmp key_cmp) (keys_of (map member_of ps))

-- ---- what is placed in another order

pub distinct-placed : (ps qs : List Placed) → IsPermutation ps qs → HasDistinctMembers ps → HasDistinctMembers qs
distinct-placed ps qs moved distinct = distinct-moved key_order (map member_of ps) (map member_of qs) (IsPermutation-map member_of ps qs moved) distinct

pub sorted-placed : (ps qs : List Placed) → IsPermutation ps qs → HasDistinctMembers ps
    → sorted_by key_before (map member_of ps) ≡ sorted_by key_before (map member_of qs)
sorted-placed ps qs moved distinct =
    sorted_by-same_keys key_order exact_keys (map member_of ps) (map member_of qs) (IsPermutation-map member_of ps qs moved) distinct

-- ---- the slots after a change

-- what is readable when a slot is set
readable_after : (space : Space) (cap slot : ℕ) (content : Slot) (old new : ℕ → List ℕ) → SetsSlot slot content old new
    → ((n : ℕ) → n < cap → IsReadable space (slot_at old n)) → IsReadable space content → (n : ℕ) → n < cap → IsReadable space (slot_at new n)
readable_after space cap slot content old new sets readable is n below = elim (cases_eq n slot) [
  | inl here ↦ subst (IsReadable space) (sym (ap (slot_at new) here ∙ sets.here)) is
  | inr other ↦ subst (IsReadable space) (sym (sets.others n other)) (readable n below)
]

-- a filled slot
pub filled_placed : (cap slot c id : ℕ) (object : List ℕ) (old new : ℕ → List ℕ) → slot < cap → slot_at old slot ≡ Free
    → SetsSlot slot (Holds c id object) old new → IsPermutation (placed cap new) (placed_here slot c id object ∷ placed cap old)
filled_placed cap slot c id object old new below free sets =
    placed_more cap slot c id object (slot_at old) (slot_at new) below free sets.here sets.others

-- a cleared slot
pub cleared_placed : (cap slot c id : ℕ) (object : List ℕ) (old new : ℕ → List ℕ) → slot < cap → slot_at old slot ≡ Holds c id object
    → SetsSlot slot Free old new → IsPermutation (placed cap old) (placed_here slot c id object ∷ placed cap new)
cleared_placed cap slot c id object old new below filled sets =
    placed_more cap slot c id object (slot_at new) (slot_at old) below sets.here filled (λ n other. sym (sets.others n other))

-- ---- the members

-- a filled slot holds one member more
pub filling_adds : (space : Space) (cap slot c id : ℕ) (object : List ℕ) (old new : ℕ → List ℕ) (members : Members) → HoldsMembers space cap old members
    → slot < cap → slot_at old slot ≡ Free → lookup (is_at (key_cmp (c, id))) members ≡ None → id < 2 ^ 32 → IsValid space object
    → SetsSlot slot (Holds c id object) old new → HoldsMembers space cap new (with_object members c id object)
filling_adds space cap slot c id object old new members holds below free none few valid sets =
    let more = filled_placed cap slot c id object old new below free sets in
    let absent : lookup (is_at (key_cmp (c, id))) (placed_members cap old) ≡ None =
    sym (lookup-sorted_by key_order (c, id) (placed_members cap old)) ∙ ap (lookup (is_at (key_cmp (c, id)))) (sym holds.members_are) ∙ none in
    let apart : HasDistinctMembers (placed_here slot c id object ∷ placed cap old) =
    IsDistinct-cons (eq_by_cmp key_cmp) (c, id) (keys_of (placed_members cap old)) (absent-lookup (is_at (key_cmp (c, id))) (placed_members cap old) absent)
    holds.distinct in
    record {
      readable = readable_after space cap slot (Holds c id object) old new sets holds.readable (few, valid);
      distinct = distinct-placed (placed_here slot c id object ∷ placed cap old) (placed cap new)
          (IsPermutation-sym (placed cap new) (placed_here slot c id object ∷ placed cap old) more) apart;
      members_are =
          ap (λ ms. with_object ms c id object) holds.members_are
          ∙ sym (sorted_by-inserted key_order (c, id) object (placed_members cap old) absent)
          ∙ sorted-placed (placed_here slot c id object ∷ placed cap old) (placed cap new)
          (IsPermutation-sym (placed cap new) (placed_here slot c id object ∷ placed cap old) more) apart;
    }

-- if the member of one item is apart from the others, it isn't found among them
apart_is_absent : (slot c id : ℕ) (object : List ℕ) (ps : List Placed) → HasDistinctMembers (placed_here slot c id object ∷ ps)
    → lookup (is_at (key_cmp (c, id))) (map member_of ps) ≡ None
apart_is_absent slot c id object ps distinct =
    lookup-absent (is_at (key_cmp (c, id))) (map member_of ps) (IsDistinct-head (eq_by_cmp key_cmp) (c, id) (keys_of (map member_of ps)) distinct)

-- a cleared slot holds one member less
pub clearing_removes : (space : Space) (cap slot c id : ℕ) (object : List ℕ) (old new : ℕ → List ℕ) (members : Members) → HoldsMembers space cap old members
    → slot < cap → slot_at old slot ≡ Holds c id object → SetsSlot slot Free old new → HoldsMembers space cap new (without_object members c id)
clearing_removes space cap slot c id object old new members holds below filled sets =
    let less = cleared_placed cap slot c id object old new below filled sets in
    let apart : HasDistinctMembers (placed_here slot c id object ∷ placed cap new) =
    distinct-placed (placed cap old) (placed_here slot c id object ∷ placed cap new) less holds.distinct in
    record {
      readable = readable_after space cap slot Free old new sets holds.readable tt;
      distinct = IsDistinct-tail (eq_by_cmp key_cmp) (c, id) (keys_of (placed_members cap new)) apart;
      members_are =
          ap (λ ms. without_object ms c id) (holds.members_are
          ∙ sorted-placed (placed cap old) (placed_here slot c id object ∷ placed cap new) less holds.distinct)
          ∙ sorted_by-removed key_order (c, id) object (placed_members cap new) (apart_is_absent slot c id object (placed cap new) apart);
    }

-- the object in a slot is that of the member
pub slots_give_objects : (space : Space) (cap slot c id : ℕ) (object : List ℕ) (home : ℕ → List ℕ) (members : Members)
    → HoldsMembers space cap home members → slot < cap → slot_at home slot ≡ Holds c id object → lookup (is_at (key_cmp (c, id))) members ≡ Some object
slots_give_objects space cap slot c id object home members holds below filled =
    let rest = placed_in cap (with_free (slot_at home) slot) in
    let split = placed_apart cap slot c id object (slot_at home) below filled in
    ap (lookup (is_at (key_cmp (c, id)))) (holds.members_are ∙ sorted-placed (placed cap home) (placed_here slot c id object ∷ rest) split holds.distinct)
    ∙ lookup-sorted_by key_order (c, id) (((c, id), object) ∷ map member_of rest)
    ∙ ap (λ b. cond b (Some object) (lookup (is_at (key_cmp (c, id))) (map member_of rest))) ((eq_by_cmp_equiv key_order).refl (c, id))
