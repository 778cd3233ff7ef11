-- What a store's pages say of the object under an id.
use Rattle.std.proofs.Common.{◌≡◌, inl, inr, ℕ, zero, suc, ◌+◌, ◌<◌, Bool, true, List, length, sym, ap, subst, ◌∙◌, arith, true≢false}
use Rattle.std.specs.Prelude.{Some, None, Result, Ok, Err}
use Rattle.std.proofs.lemmas.Option.{same_Some}
use Rattle.page_laws.specs.Errors.{IsNotDamaged}
use Rattle.page_laws.specs.declared.errors.TreeError.{TreeError}
use Rattle.page_laws.specs.declared.errors.TreeError.TheVariants as tree
use Rattle.page_laws.specs.declared.root.Root.{Root}
use Rattle.page_laws.specs.Pages.{is_live}
use Rattle.bptree_node.specs.Trees.{IsTree, IsBPlusTree, list_at, slot_of}
use Rattle.object_file.specs.Slots.{Holds}
use Rattle.object_file.specs.ObjectFile.{Slots, slot_at, is_slot}
use Rattle.query_shelf.specs.Reading.{ReadsSlot}
use Rattle.slot_laws.specs.FreeSlotLaws.{filled_slots_are_live}
use Rattle.spb_defs.specs.State.{State, object_at}
use Rattle.store_check.specs.declared.profile.Profile.{Profile}
use Rattle.store_check.specs.Stands.{IsReadable, placed}
use Rattle.store_check.proofs.Reading.{read_in_range}
use Rattle.tree_state.specs.StoreTrees.{id_root, is_pool_page, AreTrees}
use Rattle.tree_state.specs.TreeEntries.{id_entries}
use Rattle.tree_forest.specs.Forests.{corners_of, root_at, IsForest}
use Rattle.tree_forest.proofs.Replacing.{live-tree}
use Rattle.tree_lists.proofs.Finding.{found-held, none-absent}
use Rattle.tree_changes.specs.Stores.{HoldsStore}
use Rattle.tree_changes.specs.Answers.{Admits, GivesObject}

module _ (home : ℕ → List ℕ) (in_pool : ℕ → Bool) (free : List ℕ) (slots : Slots) (profile : Profile) (s : State)
    (store : HoldsStore home in_pool free slots profile s) where
  profile_same : store.keeps.profiled.profile ≡ profile
  profile_same = same_Some store.keeps.profiled.profile profile (sym store.keeps.profiled.reads ∙ store.profile_is)

  pub trees-of : AreTrees home profile s.pivots (placed s.cap home)
  trees-of = subst (λ p. AreTrees home p s.pivots (placed s.cap home)) profile_same store.keeps.trees

  eight : length profile.roots ≡ 8
  eight = (read_in_range (home 1) profile store.profile_is).trees.eight

  tree_here : (k : ℕ) → k < 8 → IsTree (corners_of profile k) home (is_pool_page profile.cap) (root_at profile.roots k)
  tree_here zero below = (trees-of.each 0 (omega arith)).curve_tree
  tree_here (suc zero) below = (trees-of.each 1 (omega arith)).curve_tree
  tree_here (suc (suc zero)) below = (trees-of.each 2 (omega arith)).curve_tree
  tree_here (suc (suc (suc zero))) below = (trees-of.each 3 (omega arith)).curve_tree
  tree_here (suc (suc (suc (suc zero)))) below = (trees-of.each 0 (omega arith)).id_tree
  tree_here (suc (suc (suc (suc (suc zero))))) below = (trees-of.each 1 (omega arith)).id_tree
  tree_here (suc (suc (suc (suc (suc (suc zero)))))) below = (trees-of.each 2 (omega arith)).id_tree
  tree_here (suc (suc (suc (suc (suc (suc (suc zero))))))) below = (trees-of.each 3 (omega arith)).id_tree
  tree_here (suc (suc (suc (suc (suc (suc (suc (suc k)))))))) below = absurd (omega (arith, below))

  -- the trees share the pool
  pub forest-of : IsForest (corners_of profile) home in_pool free profile.roots
  forest-of = record {
    trees = λ k below. subst (λ (p : ℕ → Bool). IsTree (corners_of profile k) home p (root_at profile.roots k)) (sym store.pool_is) (tree_here k (omega (arith, below, eight)));
    pages = store.pages_are;
  }

  -- the id tree of a collection
  pub id-tree : (c : ℕ) (root : Root) → c < 4 → root ≡ id_root profile.roots c → IsBPlusTree home (is_live in_pool free) root
  id-tree c root below is =
      subst (λ r. IsBPlusTree home (is_live in_pool free) r) (sym is)
      (live-tree (corners_of profile) home in_pool free profile.roots forest-of (4 + c) (omega (arith, below, eight))).tree

  ids_are : (c : ℕ) (root : Root) → c < 4 → root ≡ id_root profile.roots c → list_at home root ≡ id_entries c (placed s.cap home)
  ids_are c root below is = ap (list_at home) is ∙ (trees-of.each c below).id_list

  -- nothing under the id
  pub none-given : (c id : ℕ) (root : Root) → c < 4 → root ≡ id_root profile.roots c → None ≡ slot_of id id (list_at home root) → object_at s c id ≡ None
  none-given c id root below is none =
      none-absent s.space s.cap home s.members store.keeps.members c id (ap (slot_of id id) (sym (ids_are c root below is)) ∙ sym none)

  record IsHeldAt (c id slot : ℕ) : Type 0 where
    object : List ℕ
    low : slot < s.cap
    holds : slot_at home slot ≡ Holds c id object
    given : object_at s c id ≡ Some object

  held : (c id slot : ℕ) (root : Root) → c < 4 → root ≡ id_root profile.roots c → Some slot ≡ slot_of id id (list_at home root) → IsHeldAt c id slot
  held c id slot root below is some =
      let h = found-held s.space s.cap home s.members store.keeps.members (λ i object. i) c id id slot (ap (slot_of id id) (sym (ids_are c root below is)) ∙ sym some) in
      record { object = h.0; low = h.1; holds = h.2; given = h.3 }

  one_object : (c id d i : ℕ) (a b : List ℕ) → Holds c id a ≡ Holds d i b → a ≡ b
  one_object c id d i a b e = cc

  -- the object that was read is the one under the id
  pub some-given : (c id slot : ℕ) (root : Root) (object : List ℕ) → c < 4 → root ≡ id_root profile.roots c → Some slot ≡ slot_of id id (list_at home root)
      → slot_at home slot ≡ Holds c id object → GivesObject s home c id object (Some slot)
  some-given c id slot root object below is some read =
      let h = held c id slot root below is some in
      (h.low, read, h.given ∙ ap Some (one_object c id c id h.object object (sym h.holds ∙ read)))

  -- and it is read
  pub never-damaged : {A : Type 0} (admitted : List ℕ → Type 0) (c key id slot : ℕ) (root : Root) (object : List ℕ) (r : Result A TreeError) → c < 4 → root ≡ id_root profile.roots c
      → Some slot ≡ slot_of id id (list_at home root) → Admits admitted s.space
      → ReadsSlot admitted slots home c (record { key = key; id = id; slot = slot }) r object → IsNotDamaged r
  never-damaged admitted c key id slot root object (Ok x) below is some admits reads = tt
  never-damaged admitted c key id slot root object (Err tree.Fault) below is some admits reads = tt
  never-damaged admitted c key id slot root object (Err tree.Memory) below is some admits reads = tt
  never-damaged admitted c key id slot root object (Err (tree.Damaged page why)) below is some admits reads =
      let h = held c id slot root below is some in
      let readable : IsReadable s.space (Holds c id h.object) = subst (IsReadable s.space) h.holds (store.keeps.members.readable slot h.low) in
      elim reads.1 [
        | inl lost ↦
            let live : is_live (is_slot s.cap) slots.free slot ≡ true = filled_slots_are_live s.cap (slot_at home) slots.free slot c id h.object store.slots_are h.low h.holds in
            true≢false (sym live ∙ ap (λ cap. is_live (is_slot cap) slots.free slot) (sym store.cap_is) ∙ lost.free)
        | inr other ↦ other.other h.object h.holds (admits h.object readable.1)
      ]
