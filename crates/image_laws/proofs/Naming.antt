-- Where slots and trees hold a store's objects, the trees of both kinds name the filled slots.
use Rattle.std.proofs.Common.{◌≡◌, inl, inr, ℕ, zero, suc, ◌+◌, ◌<◌, ◌==◌, Bool, true, false, ◌||◌, List, [], ◌∷◌, map, refl, sym, ap, subst, ◌∙◌, arith}
use Rattle.std.proofs.lemmas.Bool.{cases_eq}
use Rattle.std.proofs.lemmas.Bool.Decides.{nat_tests}
use Rattle.answer_lists.specs.Order.{sorted_by}
use Rattle.metric_laws.specs.Objects.{Object}
use Rattle.page_laws.specs.declared.root.Root.{Root}
use Rattle.page_laws.specs.Pages.{is_among}
use Rattle.bptree_node.specs.declared.rows.Entry.{Entry}
use Rattle.bptree_node.specs.Trees.{list_at}
use Rattle.object_file.specs.Slots.{Slot, Free, Holds, Broken}
use Rattle.object_file.specs.ObjectFile.{slot_at}
use Rattle.store_check.specs.declared.profile.Profile.{Profile}
use Rattle.store_check.specs.Stands.{Placed, placed, IsReadable}
use Rattle.tree_state.specs.StoreCurves.{object_key}
use Rattle.tree_state.specs.StoreTrees.{curve_root, id_root}
use Rattle.tree_state.specs.TreeEntries.{entry_before, id_entry, curve_entry, in_collection}
use Rattle.tree_state.proofs.Members.{slot_collection}
use Rattle.image_trees.specs.Trees.{slots_of, root_at, named_before}
use Rattle.image_laws.specs.Held.{HoldsTrees}
use Rattle.image_laws.proofs.Listing.{In, of-in, in-sorted, sorted-in, IsPlacedOn, placed-all, placed-there, collected-in, collected-all, in-map, of-map}
use Rattle.image_laws.proofs.Whole.{named-by}

or_left : (a b : Bool) → a ≡ true → (a || b) ≡ true
or_left true b is = refl
or_left false b is = absurd (cc)

or_right : (a b : Bool) → b ≡ true → (a || b) ≡ true
or_right true b is = refl
or_right false b is = is

not_true : (b : Bool) → (b ≡ true → ⊥) → b ≡ false
not_true true none = absurd (none refl)
not_true false none = refl

in_among : (e : Entry) (slot : ℕ) (es : List Entry) → In e es → e.slot ≡ slot → is_among slot (slots_of es) ≡ true
in_among e slot [] among same = absurd among
in_among e slot (f ∷ es) (inl here) same =
    let own : f.slot ≡ slot = ap (λ (g : Entry). g.slot) here ∙ same in
    let one : (f.slot == slot) ≡ true = grind (arith, nat_tests, own) in
    or_left (f.slot == slot) (is_among slot (slots_of es)) one
in_among e slot (f ∷ es) (inr there) same = or_right (f.slot == slot) (is_among slot (slots_of es)) (in_among e slot es there same)

named_up : (home : ℕ → List ℕ) (roots : List Root) (first count slot d : ℕ) → d < count → is_among slot (slots_of (list_at home (root_at roots (first + d)))) ≡ true
    → named_before home roots first count slot ≡ true
named_up home roots first zero slot d few is = absurd (omega (arith, few))
named_up home roots first (suc c) slot d few is = elim (cases_eq d c) [
  | inl same ↦
      or_right (named_before home roots first c slot) (is_among slot (slots_of (list_at home (root_at roots (first + c)))))
      (subst (λ (k : ℕ). is_among slot (slots_of (list_at home (root_at roots (first + k)))) ≡ true) same is)
  | inr other ↦
      or_left (named_before home roots first c slot) (is_among slot (slots_of (list_at home (root_at roots (first + c)))))
      (named_up home roots first c slot d (omega (arith, few, other)) is)
]

module _ (home : ℕ → List ℕ) (profile : Profile) (c : ℕ) (f : Placed → Entry) (shape : (p : Placed) → (f p).slot ≡ p.slot) where
  abbrev Made : List Entry
  Made = map f (in_collection c (placed profile.cap home))

  own_among : (es : List Entry) → es ≡ sorted_by entry_before Made → (slot id : ℕ) (object : List ℕ) → slot < profile.cap → slot_at home slot ≡ Holds c id object
      → is_among slot (slots_of es) ≡ true
  own_among es is slot id object below holds =
      let p : Placed = record { slot = slot; collection = c; id = id; object = object } in
      let there : In p (placed profile.cap home) = placed-there (slot_at home) profile.cap slot c id object below holds in
      let made : In (f p) Made = in-map f p (in_collection c (placed profile.cap home)) (collected-in c p (placed profile.cap home) refl there) in
      in_among (f p) slot es (subst (λ (xs : List Entry). In (f p) xs) (sym is) (sorted-in (f p) Made made)) (shape p)

  none_free : (es : List Entry) → es ≡ sorted_by entry_before Made → (e : Entry) → In e es → slot_at home e.slot ≡ Free → ⊥
  none_free es is e among free =
      let found = of-map f e (in_collection c (placed profile.cap home)) (in-sorted e Made (subst (λ (xs : List Entry). In e xs) is among)) in
      let p = found.0 in
      let known = of-in (λ (q : Placed). IsPlacedOn (slot_at home) profile.cap q × (q.collection ≡ c)) (in_collection c (placed profile.cap home)) p
      (collected-all c (IsPlacedOn (slot_at home) profile.cap) (placed profile.cap home) (placed-all (slot_at home) profile.cap)) found.1.0 in
      let slot : p.slot ≡ e.slot = sym (shape p) ∙ ap (λ (g : Entry). g.slot) found.1.1 in
      let both : Holds p.collection p.id p.object ≡ Free = sym known.0.holds ∙ ap (slot_at home) slot ∙ free in
      absurd (cc)

module _ (home : ℕ → List ℕ) (profile : Profile) (pivots : List Object) (holds : HoldsTrees home profile pivots) where
  abbrev Names : Bool → ℕ → Type 0
  Names b slot = (named_before home profile.roots 0 4 slot ≡ b) × (named_before home profile.roots 4 4 slot ≡ b)

  by_slot : (slot : ℕ) (s : Slot) → slot_at home slot ≡ s → slot < profile.cap → IsReadable profile.space s → (s ≡ Free → ⊥) → Names true slot
  by_slot slot Free is below readable filled = absurd (filled refl)
  by_slot slot Broken is below readable filled = absurd readable
  by_slot slot (Holds c id object) is below readable filled =
      let few : c < 4 = slot_collection home slot c id object is in
      let own = holds.trees.each c few in
      let same : c ≡ 0 + c = omega arith in
      let curve = own_among home profile c (curve_entry (object_key profile pivots)) (λ p. refl) (list_at home (curve_root profile.roots c)) own.curve_list slot id object below is in
      let ids = own_among home profile c id_entry (λ p. refl) (list_at home (id_root profile.roots c)) own.id_list slot id object below is in (
        named_up home profile.roots 0 4 slot c few (subst (λ (k : ℕ). is_among slot (slots_of (list_at home (root_at profile.roots k))) ≡ true) same curve),
        named_up home profile.roots 4 4 slot c few ids,
      )

  pub filled-named : (slot : ℕ) → slot < profile.cap → (slot_at home slot ≡ Free → ⊥) → Names true slot
  filled-named slot below filled = by_slot slot (slot_at home slot) refl below (holds.readable slot below) filled

  curve_none : (slot : ℕ) → slot_at home slot ≡ Free → named_before home profile.roots 0 4 slot ≡ true → ⊥
  curve_none slot free is =
      let found = named-by home profile.roots 0 4 slot is in
      let same : 0 + found.0 ≡ found.0 = omega arith in
      let e = found.1.1.0 in
      none_free home profile found.0 (curve_entry (object_key profile pivots)) (λ p. refl) (list_at home (curve_root profile.roots found.0)) (holds.trees.each found.0 found.1.0).curve_list e
      (subst (λ (k : ℕ). In e (list_at home (root_at profile.roots k))) same found.1.1.1.0) (ap (slot_at home) found.1.1.1.1 ∙ free)

  ids_none : (slot : ℕ) → slot_at home slot ≡ Free → named_before home profile.roots 4 4 slot ≡ true → ⊥
  ids_none slot free is =
      let found = named-by home profile.roots 4 4 slot is in
      let e = found.1.1.0 in
      none_free home profile found.0 id_entry (λ p. refl) (list_at home (id_root profile.roots found.0)) (holds.trees.each found.0 found.1.0).id_list e
      found.1.1.1.0 (ap (slot_at home) found.1.1.1.1 ∙ free)

  pub free-unnamed : (slot : ℕ) → slot_at home slot ≡ Free → Names false slot
  free-unnamed slot free =
      (not_true (named_before home profile.roots 0 4 slot) (curve_none slot free), not_true (named_before home profile.roots 4 4 slot) (ids_none slot free))
