-- The state that pages with trees hold: there is at most one, and it is a state.
use Rattle.std.proofs.Common.{◌≡◌, ℕ, ◌%◌, ◌≤◌, ◌<◌, Bool, true, false, List, [], length, refl, sym, ap, subst, ◌∙◌, arith}
use Rattle.std.specs.Prelude.{◌==◌, nat_lt, IsTrue, IfSome, All, take, drop, slice_index, slice_index_or, Some, None, if◌then◌else◌}
use Rattle.std.specs.List.Sorted.{IsStrictlySortedBy}
use Rattle.std.specs.Map.{keys_of}
use Rattle.std.proofs.lemmas.Bool.Decides.{nat_tests}
use Rattle.std.proofs.lemmas.List.{ext_get_or, length-map}
use Rattle.std.proofs.lemmas.List.Elements.{All-from_recursion}
use Rattle.std.proofs.lemmas.Option.{same_Some}
use Rattle.answer_lists.specs.Order.{sorted_by}
use Rattle.answer_lists.specs.OrderLaws.{all-sorted_by, sorted_by-length}
use Rattle.metrics_builtin.specs.Space.{fits, IsValid}
use Rattle.spb_defs.specs.State.{Key, State, IsState, IsMemberKey, AreSamples, key_cmp}
use Rattle.scan_laws.specs.Tables.{key_before}
use Rattle.scan_laws.specs.Sorted.{rising-sorted_by}
use Rattle.scan_laws.specs.Members.{key_order}
use Rattle.redo_journal.specs.Redo.{redo_page}
use Rattle.object_file.specs.Slots.{Free, Holds, Broken, is_filled_slot, id_in, slot_of, slot_bytes}
use Rattle.object_file.specs.ObjectFile.{slot_page, slot_at}
use Rattle.store_check.specs.declared.profile.Profile.{Profile}
use Rattle.store_check.specs.Stands.{placed, placed_members, member_of, IsReadable, HoldsMembers}
use Rattle.store_check.proofs.Placed.{length-placed_in, all-placed_in}
use Rattle.store_check.proofs.Reading.{read_in_range}
use Rattle.tree_state.specs.StoreTrees.{KeepsTrees, StandsOnTrees}
use Rattle.tree_state.proofs.Moving.{redone}

-- ---- at most one state

state_same : (s t : State) → s.space ≡ t.space → s.wanted ≡ t.wanted → s.pivots ≡ t.pivots → s.curve ≡ t.curve → s.cap ≡ t.cap → s.samples ≡ t.samples
    → s.members ≡ t.members → s ≡ t
state_same s t space wanted pivots curve cap samples members = λ i. record {
  space = space i;
  wanted = wanted i;
  pivots = pivots i;
  curve = curve i;
  cap = cap i;
  samples = samples i;
  members = members i;
}

one_kept : (home : ℕ → List ℕ) (s t : State) → KeepsTrees home s → KeepsTrees home t → s ≡ t
one_kept home s t a b =
    let p = a.profiled in
    let q = b.profiled in
    let profile : p.profile ≡ q.profile = same_Some p.profile q.profile (sym p.reads ∙ q.reads) in
    let count : length s.pivots ≡ length t.pivots = p.count ∙ ap (λ (r : Profile). r.pivots) profile ∙ sym q.count in
    let cap : s.cap ≡ t.cap = p.cap ∙ ap (λ (r : Profile). r.cap) profile ∙ sym q.cap in
    let pivots : s.pivots ≡ t.pivots = ext_get_or [] s.pivots t.pivots count (λ k below.
    let few : k < 8 = omega (arith, below, p.pivots.few) in
    same_Some (slice_index_or s.pivots k []) (slice_index_or t.pivots k []) (sym (p.pivots.each k few) ∙ q.pivots.each k few)) in
    state_same s t
    (p.space ∙ ap (λ (r : Profile). r.space) profile ∙ sym q.space)
    (p.wanted ∙ count ∙ sym q.wanted)
    pivots
    (p.curve ∙ ap (λ (r : Profile). Some r.curve) profile ∙ sym q.curve)
    cap
    (p.samples ∙ sym q.samples)
    (a.members.members_are ∙ ap (λ n. sorted_by key_before (placed_members n home)) cap ∙ sym b.members.members_are)

pub one : (image : List ℕ) (s t : State) → StandsOnTrees image s → StandsOnTrees image t → s ≡ t
one image s t a b = one_kept (redo_page image) s t (redone image s a) (redone image t b)

-- ---- states

filled_by : (free filled : Bool) (first number c id : ℕ) (bytes object : List ℕ) → (if free then Free else if filled then Holds first number bytes else Broken) ≡ Holds c id object
    → (filled ≡ true) × (first ≡ c)
filled_by true filled first number c id bytes object is = absurd cc
filled_by false true first number c id bytes object is = (refl, cc)
filled_by false false first number c id bytes object is = absurd cc

-- a slot holds one of four collections
pub collection_is : (bytes : List ℕ) (c id : ℕ) (object : List ℕ) → slot_of bytes ≡ Holds c id object → c < 4
unfolding slot_of
collection_is bytes c id object is =
    let parts = filled_by (slice_index bytes 0 == 255) (is_filled_slot bytes) (slice_index bytes 0) (id_in bytes) c id
    (take (slice_index bytes 1) (drop 8 bytes)) object is in
    let small : nat_lt (slice_index bytes 0) 4 ≡ true = grind (arith, parts.0) in
    subst (λ n. n < 4) parts.1 (grind (arith, nat_tests, small))

pub slot_collection : (home : ℕ → List ℕ) (slot c id : ℕ) (object : List ℕ) → slot_at home slot ≡ Holds c id object → c < 4
slot_collection home slot c id object is = collection_is (slot_bytes (home (slot_page slot)) (slot % 4)) c id object is

module _ (home : ℕ → List ℕ) (s : State) (holds : HoldsMembers s.space s.cap home s.members) where
  -- what a member is that a slot holds
  member_is : (slot c id : ℕ) (object : List ℕ) → slot < s.cap → slot_at home slot ≡ Holds c id object → IsMemberKey (c, id) × IsValid s.space object
  member_is slot c id object below is =
      let read : IsReadable s.space (Holds c id object) = subst (IsReadable s.space) is (holds.readable slot below) in
      ((slot_collection home slot c id object is, read.0), read.1)

  members_all : (P : Key × List ℕ → Type 0) → ((member : Key × List ℕ) → IsMemberKey member.0 × IsValid s.space member.1 → P member) → All P s.members
  members_all P weaker =
      let each = all-placed_in P s.cap (slot_at home) (λ slot c id object below is. weaker ((c, id), object) (member_is slot c id object below is)) in
      subst (All P) (sym holds.members_are) (All-from_recursion P (sorted_by key_before (placed_members s.cap home))
      (all-sorted_by key_before P (placed_members s.cap home) each))

  members_few : length s.members ≤ s.cap
  members_few =
      let sorted : length s.members ≡ length (placed_members s.cap home) =
      ap length holds.members_are ∙ sorted_by-length key_before (placed_members s.cap home) in
      omega (arith, sorted, length-map (placed s.cap home) member_of, length-placed_in s.cap (slot_at home))

pub kept_state : (home : ℕ → List ℕ) (s : State) → KeepsTrees home s → IsState s
kept_state home s keeps =
    let p = keeps.profiled in
    let range = read_in_range (home 1) p.profile p.reads in
    let wanted : s.wanted ≡ length s.pivots = p.wanted in
    record {
      in_range = subst (λ space. IsTrue (fits space)) (sym p.space) range.fit;
      order = subst (λ members. IsStrictlySortedBy key_cmp (keys_of members)) (sym keeps.members.members_are)
          (rising-sorted_by key_order (placed_members s.cap home) keeps.members.distinct);
      room = members_few home s keeps.members;
      keys = members_all home s keeps.members (λ member. IsMemberKey member.0) (λ member is. is.0);
      objects = members_all home s keeps.members (λ member. IsValid s.space member.1) (λ member is. is.1);
      samples = subst (AreSamples s.space) (sym p.samples) tt;
      pivots = p.objects;
      few_pivots = omega (arith, wanted);
      few_wanted = omega (arith, wanted, p.pivots.few);
      sampling = subst (λ samples. IfSome samples (λ kept. (s.pivots ≡ []) × (s.members ≡ []))) (sym p.samples) tt;
      in_file = subst (λ curve. IfSome curve (λ kind. (s.samples ≡ None) × (s.wanted ≡ length s.pivots))) (sym p.curve) (p.samples, p.wanted);
    }

pub is_state : (image : List ℕ) (s : State) → StandsOnTrees image s → IsState s
is_state image s stands = kept_state stands.home s stands.keeps
