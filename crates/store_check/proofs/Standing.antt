-- What pages hold, and what images stand for.
use Rattle.std.proofs.Common.{◌≡◌, inl, inr, ℕ, ◌+◌, ◌/◌, ◌%◌, ◌≤◌, ◌<◌, Bool, true, false, List, [], length, refl, sym, ap, subst, ◌∙◌, arith}
use Rattle.std.specs.Prelude.{◌==◌, nat_lt, IsTrue, IfSome, map, All, take, drop, slice_index, slice_index_or, Some, None, if◌then◌else◌}
use Rattle.std.specs.List.{IsDistinct}
use Rattle.std.specs.List.Sorted.{IsStrictlySortedBy}
use Rattle.std.specs.Map.{keys_of, lookup}
use Rattle.std.specs.BTreeMap.{is_at}
use Rattle.std.specs.Ordering.{eq_by_cmp}
use Rattle.std.proofs.lemmas.Bool.{cases_lt}
use Rattle.std.proofs.lemmas.Bool.Decides.{nat_tests}
use Rattle.std.proofs.lemmas.List.{ext_get_or, length-map}
use Rattle.std.proofs.lemmas.List.Elements.{All-from_recursion}
use Rattle.std.proofs.lemmas.Option.{same_Some}
use Rattle.answer_lists.specs.Order.{sorted_by}
use Rattle.answer_lists.specs.OrderLaws.{all-sorted_by, sorted_by-length}
use Rattle.metrics_builtin.specs.declared.Space.{Space}
use Rattle.metrics_builtin.specs.Space.{fits, IsValid}
use Rattle.spb_defs.specs.State.{Key, Members, State, IsState, IsMemberKey, AreSamples, key_cmp, object_at, empty_in_file}
use Rattle.scan_laws.specs.Tables.{key_before}
use Rattle.scan_laws.specs.Sorted.{lookup-sorted_by, rising-sorted_by}
use Rattle.scan_laws.specs.Members.{key_order}
use Rattle.redo_journal.specs.Pages.{IsHome}
use Rattle.redo_journal.specs.Redo.{redo_page}
use Rattle.object_file.specs.Slots.{Free, Holds, Broken, is_filled_slot, id_in, slot_of, slot_bytes, slot_in}
use Rattle.object_file.specs.ObjectFile.{slot_page, slot_at}
use Rattle.store_check.specs.declared.profile.Profile.{Profile}
use Rattle.store_check.specs.Layout.{file_pages}
use Rattle.store_check.specs.Profile.{profile_in, IsInRange}
use Rattle.store_check.specs.Pivots.{pivot_in, pivot_at, HasPivots}
use Rattle.store_check.specs.Stands.{Placed, member_of, placed, placed_members, IsReadable, HoldsMembers, are_empty, Keeps, Stands}
use Rattle.store_check.proofs.Placed.{placed-same, length-placed_in, all-placed_in, found_placed, held_placed, clash_placed, free_placed}
use Rattle.store_check.proofs.Reading.{read_in_range}

-- ---- where a change may replace pages

pub home_profile : (total : ℕ) → IsHome total 1
home_profile total = inl (omega arith, omega arith)

pub home_pivot : (total i : ℕ) → i < 8 → IsHome total (2 + i / 4)
home_pivot total i below = inl (omega arith, omega (arith, below))

pub home_slot : (cap slot : ℕ) → slot < cap → IsHome (file_pages cap) (slot_page slot)
home_slot cap slot below = inr (omega arith, omega (arith, below))

-- ---- pages that are alike there

module _ (home other : ℕ → List ℕ) (cap : ℕ) (same : (n : ℕ) → IsHome (file_pages cap) n → other n ≡ home n) where
  pub slot_same : (slot : ℕ) → slot < cap → slot_at other slot ≡ slot_at home slot
  slot_same slot below = ap (λ page. slot_in page (slot % 4)) (same (slot_page slot) (home_slot cap slot below))

  pub pivot_same : (i : ℕ) → i < 8 → pivot_at other i ≡ pivot_at home i
  pivot_same i below = ap (λ page. pivot_in page (i % 4)) (same (2 + i / 4) (home_pivot (file_pages cap) i below))

  placed_same : placed cap other ≡ placed cap home
  placed_same = placed-same cap (slot_at home) (slot_at other) slot_same

  members_moved : (space : Space) (members : Members) → HoldsMembers space cap home members → HoldsMembers space cap other members
  members_moved space members holds = record {
    readable = λ slot below. subst (IsReadable space) (sym (slot_same slot below)) (holds.readable slot below);
    distinct = subst (λ (ps : List Placed). IsDistinct (eq_by_cmp key_cmp) (keys_of (map member_of ps))) (sym placed_same) holds.distinct;
    members_are = holds.members_are ∙ ap (λ (ps : List Placed). sorted_by key_before (map member_of ps)) (sym placed_same);
  }

pub moved : (home other : ℕ → List ℕ) (s : State) → Keeps home s → ((n : ℕ) → IsHome (file_pages s.cap) n → other n ≡ home n) → Keeps other s
moved home other s keeps same =
    let p = keeps.profiled in
    record {
      profiled = record {
        profile = p.profile;
        reads = ap profile_in (same 1 (home_profile (file_pages s.cap))) ∙ p.reads;
        space = p.space;
        curve = p.curve;
        cap = p.cap;
        count = p.count;
        pivots = record { few = p.pivots.few; each = λ i below. pivot_same home other s.cap same i below ∙ p.pivots.each i below };
        objects = p.objects;
        samples = p.samples;
        wanted = p.wanted;
      };
      roots = keeps.roots;
      members = members_moved home other s.cap same s.space s.members keeps.members;
    }

-- a recovery leaves pages that hold the state
pub redone : (image : List ℕ) (s : State) → Stands image s → Keeps (redo_page image) s
redone image s stands = moved stands.home (redo_page image) s stands.keeps stands.has.pages_are

-- ---- at most one state

state_same : (s t : State) → s.space ≡ t.space → s.wanted ≡ t.wanted → s.pivots ≡ t.pivots → s.curve ≡ t.curve → s.cap ≡ t.cap → s.samples ≡ t.samples
    → s.members ≡ t.members → s ≡ t
state_same s t space wanted pivots curve cap samples members = λ i. record {
  space = space i;
  wanted = wanted i;
  pivots = pivots i;
  curve = curve i;
  cap = cap i;
  samples = samples i;
  members = members i;
}

one_kept : (home : ℕ → List ℕ) (s t : State) → Keeps home s → Keeps home t → s ≡ t
one_kept home s t a b =
    let p = a.profiled in
    let q = b.profiled in
    let profile : p.profile ≡ q.profile = same_Some p.profile q.profile (sym p.reads ∙ q.reads) in
    let count : length s.pivots ≡ length t.pivots = p.count ∙ ap (λ (r : Profile). r.pivots) profile ∙ sym q.count in
    let cap : s.cap ≡ t.cap = p.cap ∙ ap (λ (r : Profile). r.cap) profile ∙ sym q.cap in
    let pivots : s.pivots ≡ t.pivots = ext_get_or [] s.pivots t.pivots count (λ k below.
    let few : k < 8 = omega (arith, below, p.pivots.few) in
    same_Some (slice_index_or s.pivots k []) (slice_index_or t.pivots k []) (sym (p.pivots.each k few) ∙ q.pivots.each k few)) in
    state_same s t
    (p.space ∙ ap (λ (r : Profile). r.space) profile ∙ sym q.space)
    (p.wanted ∙ count ∙ sym q.wanted)
    pivots
    (p.curve ∙ ap (λ (r : Profile). Some r.curve) profile ∙ sym q.curve)
    cap
    (p.samples ∙ sym q.samples)
    (a.members.members_are ∙ ap (λ n. sorted_by key_before (placed_members n home)) cap ∙ sym b.members.members_are)

pub one : (image : List ℕ) (s t : State) → Stands image s → Stands image t → s ≡ t
one image s t a b = one_kept (redo_page image) s t (redone image s a) (redone image t b)

-- ---- states

pub profile_in_range : (home : ℕ → List ℕ) (s : State) (keeps : Keeps home s) → IsInRange keeps.profiled.profile
profile_in_range home s keeps = read_in_range (home 1) keeps.profiled.profile keeps.profiled.reads

filled_by : (free filled : Bool) (first number c id : ℕ) (bytes object : List ℕ) → (if free then Free else if filled then Holds first number bytes else Broken) ≡ Holds c id object
    → (filled ≡ true) × (first ≡ c)
filled_by true filled first number c id bytes object is = absurd cc
filled_by false true first number c id bytes object is = (refl, cc)
filled_by false false first number c id bytes object is = absurd cc

-- a slot holds one of four collections
collection_is : (bytes : List ℕ) (c id : ℕ) (object : List ℕ) → slot_of bytes ≡ Holds c id object → c < 4
unfolding slot_of
collection_is bytes c id object is =
    let parts = filled_by (slice_index bytes 0 == 255) (is_filled_slot bytes) (slice_index bytes 0) (id_in bytes) c id
    (take (slice_index bytes 1) (drop 8 bytes)) object is in
    let small : nat_lt (slice_index bytes 0) 4 ≡ true = grind (arith, parts.0) in
    subst (λ n. n < 4) parts.1 (grind (arith, nat_tests, small))

-- what a member is that a slot holds
abbrev IsMember : Space → Key × List ℕ → Type 0
IsMember space member = IsMemberKey member.0 × IsValid space member.1

member_is : (home : ℕ → List ℕ) (s : State) → Keeps home s → (slot c id : ℕ) (object : List ℕ) → slot < s.cap → slot_at home slot ≡ Holds c id object
    → IsMember s.space ((c, id), object)
member_is home s keeps slot c id object below is =
    let read : IsReadable s.space (Holds c id object) = subst (IsReadable s.space) is (keeps.members.readable slot below) in
    ((collection_is (slot_bytes (home (slot_page slot)) (slot % 4)) c id object is, read.0), read.1)

members_all : (home : ℕ → List ℕ) (s : State) → Keeps home s → (P : Key × List ℕ → Type 0) → ((member : Key × List ℕ) → IsMember s.space member → P member)
    → All P s.members
members_all home s keeps P weaker =
    let each = all-placed_in P s.cap (slot_at home) (λ slot c id object below is. weaker ((c, id), object) (member_is home s keeps slot c id object below is)) in
    subst (All P) (sym keeps.members.members_are) (All-from_recursion P (sorted_by key_before (placed_members s.cap home))
    (all-sorted_by key_before P (placed_members s.cap home) each))

members_few : (home : ℕ → List ℕ) (s : State) → Keeps home s → length s.members ≤ s.cap
members_few home s keeps =
    let sorted : length s.members ≡ length (placed_members s.cap home) =
    ap length keeps.members.members_are ∙ sorted_by-length key_before (placed_members s.cap home) in
    omega (arith, sorted, length-map (placed s.cap home) member_of, length-placed_in s.cap (slot_at home))

pub kept_state : (home : ℕ → List ℕ) (s : State) → Keeps home s → IsState s
kept_state home s keeps =
    let p = keeps.profiled in
    let range = profile_in_range home s keeps in
    let wanted : s.wanted ≡ length s.pivots = p.wanted in
    record {
      in_range = subst (λ space. IsTrue (fits space)) (sym p.space) range.fit;
      order = subst (λ members. IsStrictlySortedBy key_cmp (keys_of members)) (sym keeps.members.members_are)
          (rising-sorted_by key_order (placed_members s.cap home) keeps.members.distinct);
      room = members_few home s keeps;
      keys = members_all home s keeps (λ member. IsMemberKey member.0) (λ member is. is.0);
      objects = members_all home s keeps (λ member. IsValid s.space member.1) (λ member is. is.1);
      samples = subst (AreSamples s.space) (sym p.samples) tt;
      pivots = p.objects;
      few_pivots = omega (arith, wanted);
      few_wanted = omega (arith, wanted, p.pivots.few);
      sampling = subst (λ samples. IfSome samples (λ kept. (s.pivots ≡ []) × (s.members ≡ []))) (sym p.samples) tt;
      in_file = subst (λ curve. IfSome curve (λ kind. (s.samples ≡ None) × (s.wanted ≡ length s.pivots))) (sym p.curve) (p.samples, p.wanted);
    }

pub is_state : (image : List ℕ) (s : State) → Stands image s → IsState s
is_state image s stands = kept_state stands.home s stands.keeps

-- ---- the state without members

pub empty_kept : (home : ℕ → List ℕ) (profile : Profile) (pivots : List (List ℕ)) → profile_in (home 1) ≡ Some profile → IsTrue (are_empty profile.roots)
    → HasPivots home pivots → length pivots ≡ profile.pivots → All (IsValid profile.space) pivots
    → ((slot : ℕ) → slot < profile.cap → slot_at home slot ≡ Free) → Keeps home (empty_in_file profile.space profile.curve pivots profile.cap)
unfolding IsDistinct sorted_by
empty_kept home profile pivots reads empty has count valid free =
    let none : placed profile.cap home ≡ [] = free_placed profile.cap (slot_at home) free in
    record {
      profiled = record {
        profile = profile;
        reads = reads;
        space = refl;
        curve = refl;
        cap = refl;
        count = count;
        pivots = has;
        objects = valid;
        samples = refl;
        wanted = refl;
      };
      roots = empty;
      members = record {
        readable = λ slot below. subst (IsReadable profile.space) (sym (free slot below)) tt;
        distinct = subst (λ (ps : List Placed). IsDistinct (eq_by_cmp key_cmp) (keys_of (map member_of ps))) (sym none) tt;
        members_are = ap (λ (ps : List Placed). sorted_by key_before (map member_of ps)) (sym none);
      };
    }

-- ---- slots and members

module _ (home : ℕ → List ℕ) (s : State) where
  at_key : Keeps home s → (c id : ℕ) → object_at s c id ≡ lookup (is_at (key_cmp (c, id))) (placed_members s.cap home)
  at_key keeps c id = ap (lookup (is_at (key_cmp (c, id)))) keeps.members.members_are ∙ lookup-sorted_by key_order (c, id) (placed_members s.cap home)

  pub filled : (slot c id : ℕ) (object : List ℕ) → Keeps home s → slot < s.cap → slot_at home slot ≡ Holds c id object → object_at s c id ≡ Some object
  filled slot c id object keeps below is = at_key keeps c id ∙ found_placed s.cap (slot_at home) slot c id object keeps.members.distinct below is

  pub held : (c id : ℕ) (object : List ℕ) → Keeps home s → object_at s c id ≡ Some object
      → (slot : ℕ) × (slot < s.cap) × (slot_at home slot ≡ Holds c id object)
  held c id object keeps found = held_placed s.cap (slot_at home) c id object (sym (at_key keeps c id) ∙ found)

  pub once : (slot other c id : ℕ) (object another : List ℕ) → Keeps home s → slot < s.cap → other < s.cap → slot_at home slot ≡ Holds c id object
      → slot_at home other ≡ Holds c id another → other ≡ slot
  once slot other c id object another keeps below inside is same = elim (cases_lt slot other) [
    | inl before ↦ absurd (clash_placed s.cap (slot_at home) slot other c id object another keeps.members.distinct before inside is same)
    | inr after ↦ elim (cases_lt other slot) [
      | inl before ↦ absurd (clash_placed s.cap (slot_at home) other slot c id another object keeps.members.distinct before below same is)
      | inr least ↦ omega (arith, after, least)
    ]
  ]
