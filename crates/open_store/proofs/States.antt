-- A store that stands for a state, before and after a slot is set.
use Rattle.std.proofs.Common.{◌≡◌, ℕ, ◌+◌, ◌*◌, ◌/◌, ◌%◌, ◌^◌, ◌<◌, ◌≤◌, Bool, false, IsTrue, List, ◌∷◌, length, Some, None, sym, ap, subst, ◌∙◌, arith}
use Rattle.std.specs.Prelude.{nat_le, nat_lt, ◌&&◌}
use Rattle.std.specs.List.Sorted.{IsPermutation}
use Rattle.std.specs.Option.{option_map}
use Rattle.std.proofs.lemmas.Bool.Decides.{nat_tests}
use Rattle.std.proofs.lemmas.Option.{same_Some}
use Rattle.metrics_builtin.specs.declared.Space.{Space}
use Rattle.metrics_builtin.specs.declared.Space.TheVariants.{L1, LInf, Hamming, Sets}
use Rattle.metrics_builtin.specs.Space.{fits, IsValid}
use Rattle.metrics_builtin.specs.VectorLaws.{length-IsVector, length-object_of_components}
use Rattle.spb_defs.specs.State.{State, Members, object_at, is_full, with_object}
use Rattle.pivot_map.specs.declared.row.Row.{Row}
use Rattle.redo_journal.specs.Pages.{page, IsHome}
use Rattle.redo_journal.specs.Redo.{RecoversTo, has_open_gate}
use Rattle.page_laws.specs.Pages.{is_among}
use Rattle.page_store.specs.PageStore.{PagesView, in_pool, has}
use Rattle.object_file.specs.Slots.{Slot, Holds, slot_in}
use Rattle.object_file.specs.ObjectFile.{slot_at, SetsSlot}
use Rattle.store_check.specs.declared.profile.Profile.{Profile}
use Rattle.store_check.specs.Layout.{file_pages}
use Rattle.store_check.specs.Profile.{profile_in}
use Rattle.store_check.specs.Pivots.{pivot_of, HasPivots}
use Rattle.store_check.specs.Stands.{Keeps, Stands, HoldsMembers, store_magic}
use Rattle.slot_laws.specs.ChangeLaws.{filling_adds}
use Rattle.slot_laws.specs.FreeSlots.{AreFreeSlots}
use Rattle.slot_laws.specs.FreeSlotLaws.{free_slots_read_as_free, slots_are_counted}
use Rattle.slot_laws.specs.SlotTables.{AreTablesOf}
use Rattle.slot_laws.specs.UnchangedSlots.{same_slots_have_the_same_tables, same_slots_are_free}
use Rattle.store_check.proofs.Standing.{moved, slot_same, home_profile}
use Rattle.open_store.specs.SlotChange.{HasSlotSet, HasSlotFilled, HasSamePool}
use Rattle.open_store.specs.Store.{StoreView, IsStored, IsInState, slot_tables, row_in, is_full_store, row_count, with_member}
use Rattle.open_store.proofs.SlotRuns.{stands_for_itself, has_its_pages}
use Rattle.open_store.proofs.Tables.{object_is}

-- an object of a space fits into a slot
pub fits_in_slot : (space : Space) (object : List ℕ) → IsTrue (fits space) → IsValid space object → length object ≤ 120
fits_in_slot (L1 dim most) object fit valid =
    let few : dim ≤ 30 = grind (arith, nat_tests, fit) in
    omega (arith, few, length-IsVector dim most object valid)
fits_in_slot (LInf dim most) object fit valid =
    let few : dim ≤ 30 = grind (arith, nat_tests, fit) in
    omega (arith, few, length-IsVector dim most object valid)
fits_in_slot (Hamming len) object fit valid =
    let few : len ≤ 120 = grind (arith, nat_tests, fit) in
    omega (arith, few, valid.size)
fits_in_slot (Sets universe most) object fit valid =
    let few : most ≤ 30 = grind (arith, nat_tests, fit) in
    let long : length object ≡ 4 * length valid.elements = ap length valid.spelling ∙ length-object_of_components valid.elements in
    omega (arith, few, long, valid.set.few)

-- ---- pages with one slot set

module _ (slot : ℕ) (content : Slot) (old new : ℕ → List ℕ) (sets : SetsSlot slot content old new) where
  front_same : (n : ℕ) → n < 85 → new n ≡ old n
  front_same n front = sets.elsewhere n (λ same. omega (arith, front, same))

  pub profile_same : profile_in (new 1) ≡ profile_in (old 1)
  profile_same = ap profile_in (front_same 1 (omega arith))

  pivots_same : (pivots : List (List ℕ)) → HasPivots old pivots → HasPivots new pivots
  pivots_same pivots has = record {
    few = has.few;
    each = λ i below. ap (λ p. pivot_of (slot_in p (i % 4))) (front_same (2 + i / 4) (omega (arith, below))) ∙ has.each i below;
  }

  -- the state with other members
  pub set_keeps : (s : State) (members : Members) → Keeps old s → HoldsMembers s.space s.cap new members → Keeps new (record s { members = members })
  set_keeps s members keeps holds = record {
    profiled = record {
      profile = keeps.profiled.profile;
      reads = profile_same ∙ keeps.profiled.reads;
      space = keeps.profiled.space;
      curve = keeps.profiled.curve;
      cap = keeps.profiled.cap;
      count = keeps.profiled.count;
      pivots = pivots_same s.pivots keeps.profiled.pivots;
      objects = keeps.profiled.objects;
      samples = keeps.profiled.samples;
      wanted = keeps.profiled.wanted;
    };
    roots = keeps.roots;
    members = holds;
  }

-- ---- images

pub stored_stands : (image : List ℕ) (s : State) → IsStored image s → Stands image s
stored_stands image s stored = record {
  home = page image;
  has = subst (λ marks. RecoversTo (file_pages s.cap) image marks (page image)) stored.marks_are
      (stands_for_itself (file_pages s.cap) image (omega arith) stored.size stored.closed);
  keeps = stored.keeps;
}

pub standing_is_stored : (image : List ℕ) (s : State) → Stands image s → has_open_gate image ≡ false → IsStored image s
standing_is_stored image s stands closed = record {
  size = stands.has.size;
  marks_are = stands.has.marks_are;
  closed = closed;
  keeps = moved stands.home (page image) s stands.keeps (has_its_pages (file_pages s.cap) image store_magic stands.home stands.has closed);
}

-- ---- a store that stands for a state

module _ {D M : Type 0} (is_known : D → Bool) (image : D → List ℕ) where
  pub profile_of : (v : StoreView D M) (s : State) (in_state : IsInState is_known image v s) → in_state.stored.keeps.profiled.profile ≡ v.profile
  profile_of v s in_state =
      same_Some in_state.stored.keeps.profiled.profile v.profile (sym in_state.stored.keeps.profiled.reads ∙ in_state.profile_is)

  pub cap_of : (v : StoreView D M) (s : State) → IsInState is_known image v s → s.cap ≡ v.profile.cap
  cap_of v s in_state = in_state.stored.keeps.profiled.cap ∙ ap (λ (p : Profile). p.cap) (profile_of v s in_state)

  pub space_of : (v : StoreView D M) (s : State) → IsInState is_known image v s → s.space ≡ v.profile.space
  space_of v s in_state = in_state.stored.keeps.profiled.space ∙ ap (λ (p : Profile). p.space) (profile_of v s in_state)

  -- what the rows say of a key
  pub key_in : (v : StoreView D M) (s : State) (c id : ℕ) → IsInState is_known image v s → length v.tables ≡ 4
      → object_at s c id ≡ option_map (λ (row : Row). row.object) (row_in v.tables c id)
  key_in v s c id in_state four =
      object_is s.space s.cap c id (page (image v.pages.disk)) s.members v.tables in_state.stored.keeps.members four in_state.rows_are

  -- a store is full exactly if the state is
  pub full_in : (v : StoreView D M) (s : State) → IsInState is_known image v s → row_count v.tables + length v.slots.free ≡ v.profile.cap
      → is_full s ≡ is_full_store v
  full_in v s in_state counted =
      let all = slots_are_counted s.space s.cap (page (image v.pages.disk)) s.members v.slots.free in_state.stored.keeps.members in_state.free_are in
      let cap = cap_of v s in_state in
      let many : length s.members ≡ row_count v.tables = omega (arith, all, cap, counted) in
      ap (λ n. nat_le n (length s.members)) cap ∙ ap (nat_le v.profile.cap) many

  pub stands_before : (v : StoreView D M) (s : State) (total : ℕ) (c : List ℕ) → IsInState is_known image v s → total ≡ file_pages s.cap
      → RecoversTo total c store_magic (page (image v.pages.disk)) → Stands c s
  stands_before v s total c in_state is has = record {
    home = page (image v.pages.disk);
    has = subst (λ n. RecoversTo n c store_magic (page (image v.pages.disk))) is has;
    keeps = in_state.stored.keeps;
  }

  -- the pages with a slot filled hold the state with the object
  pub filled_keeps : (v : StoreView D M) (s : State) (slot c id : ℕ) (object rest : List ℕ) (home : ℕ → List ℕ) → IsInState is_known image v s
      → IsPermutation v.slots.free (slot ∷ rest) → SetsSlot slot (Holds c id object) (page (image v.pages.disk)) home → object_at s c id ≡ None
      → id < 2 ^ 32 → IsValid s.space object → Keeps home (with_member s c id object)
  filled_keeps v s slot c id object rest home in_state taken sets absent few valid =
      let old = page (image v.pages.disk) in
      let free = free_slots_read_as_free s.cap (slot_at old) v.slots.free rest slot in_state.free_are taken in
      set_keeps slot (Holds c id object) old home sets s (with_object s.members c id object) in_state.stored.keeps
      (filling_adds s.space s.cap slot c id object old home s.members in_state.stored.keeps.members free.0 free.1 absent few valid sets)

  pub stands_after : (v : StoreView D M) (s : State) (total c id : ℕ) (object : List ℕ) (left : List ℕ) → IsInState is_known image v s → total ≡ file_pages s.cap
      → HasSlotFilled total v.slots.free (Holds c id object) store_magic (page (image v.pages.disk)) left → object_at s c id ≡ None
      → id < 2 ^ 32 → IsValid s.space object → Stands left (with_member s c id object)
  stands_after v s total c id object left in_state is filled absent few valid = record {
    home = filled.after.home;
    has = subst (λ n. RecoversTo n left store_magic filled.after.home) is filled.after.has;
    keeps = filled_keeps v s filled.slot c id object filled.rest filled.after.home in_state filled.was_free filled.after.sets absent few valid;
  }

-- the same pool
pub pool_same : {D : Type 0} (old new : PagesView D) → HasSamePool old new → (n : ℕ) → in_pool new n ≡ in_pool old n
pool_same old new pool n = ap (λ k. nat_le k n && nat_lt n (k + new.count)) pool.same_first ∙ ap (λ k. nat_le old.first n && nat_lt n (old.first + k)) pool.same_count

-- ---- a store after a change

module _ {D M : Type 0} (is_known : D → Bool) (image : D → List ℕ) (v w : StoreView D M) (s t : State) (slot : ℕ) (content : Slot)
    (in_state : IsInState is_known image v s) (known : is_known w.pages.disk ≡ is_known v.pages.disk) (profile : w.profile ≡ v.profile) (pivots : w.pivots ≡ v.pivots)
    (pool : HasSamePool v.pages w.pages) (total : v.pages.total ≡ file_pages s.cap)
    (after : HasSlotSet v.pages.total slot content store_magic (page (image v.pages.disk)) (image w.pages.disk)) (closed : has_open_gate (image w.pages.disk) ≡ false) where
  left : (n : ℕ) → IsHome (file_pages s.cap) n → page (image w.pages.disk) n ≡ after.home n
  left n home = has_its_pages (file_pages s.cap) (image w.pages.disk) store_magic after.home
      (subst (λ m. RecoversTo m (image w.pages.disk) store_magic after.home) total after.has) closed n home

  -- where the pages with the slot set hold the state, its tables and its free slots
  pub in_state_after : (members : Members) → t ≡ record s { members = members } → Keeps after.home (record s { members = members })
      → AreTablesOf s.cap after.home (slot_tables w.tables) → AreFreeSlots s.cap (slot_at after.home) w.slots.free → IsInState is_known image w t
  in_state_after members is keeps rows free =
      let same = slot_same after.home (page (image w.pages.disk)) s.cap left in
      subst (IsInState is_known image w) (sym is) (record {
        known = subst IsTrue (sym known) in_state.known;
        stored = record {
          size = after.has.size ∙ ap (λ n. 512 * n) total;
          marks_are = after.has.marks_are;
          closed = closed;
          keeps = moved after.home (page (image w.pages.disk)) (record s { members = members }) keeps left;
        };
        profile_is =
            ap profile_in (left 1 (home_profile (file_pages s.cap))) ∙ profile_same slot content (page (image v.pages.disk)) after.home after.sets
            ∙ in_state.profile_is ∙ ap Some (sym profile);
        pivots_are = in_state.pivots_are ∙ sym pivots;
        rows_are = same_slots_have_the_same_tables s.cap (slot_at after.home) (slot_at (page (image w.pages.disk))) (slot_tables w.tables) rows same;
        free_are = same_slots_are_free s.cap (slot_at after.home) (slot_at (page (image w.pages.disk))) w.slots.free free same;
        pool_is = λ n. ap (is_among n) pool.same_free ∙ in_state.pool_is n ∙ sym (pool_same v.pages w.pages pool n);
      })
