-- The eight trees of a store, whose entries match its slots.
use Rattle.std.proofs.Common.{◌≡◌, ◌⊎◌, inl, inr, ℕ, zero, suc, ◌+◌, ◌<◌, ◌≤◌, Bool, true, false, ◌||◌, List, map, length, refl, sym, ap, subst, ◌∙◌, arith}
use Rattle.std.specs.List.{AllByRecursion}
use Rattle.metric_laws.specs.Objects.{Object}
use Rattle.page_laws.specs.declared.root.Root.{Root}
use Rattle.page_laws.specs.Pages.{is_among}
use Rattle.bptree_node.specs.declared.rows.Entry.{Entry}
use Rattle.bptree_node.specs.Trees.{IsTree, list_at}
use Rattle.bptree_edit.specs.NodesAt.{times}
use Rattle.bptree_edit.proofs.Counts.{times-distinct}
use Rattle.object_file.specs.Slots.{Free, Holds}
use Rattle.object_file.specs.ObjectFile.{slot_at}
use Rattle.store_check.specs.declared.profile.Profile.{Profile}
use Rattle.store_check.specs.Stands.{Placed, placed, IsReadable}
use Rattle.store_check.proofs.Placed.{distinct_placed}
use Rattle.tree_state.specs.StoreCurves.{object_key, AreCurveCorners, AreIdCorners}
use Rattle.tree_state.specs.TreeEntries.{id_entry, curve_entry, in_collection, id_entries, curve_entries}
use Rattle.tree_state.specs.StoreTrees.{is_pool_page, curve_root, id_root, tree_pages, HasTrees}
use Rattle.tree_state.proofs.Members.{slot_collection}
use Rattle.image_trees.specs.Trees.{slots_of, root_at, named_before}
use Rattle.image_laws.specs.Held.{HoldsTrees, IsHeldBy}
use Rattle.image_laws.proofs.Listing.{In, of-in, HasIds, IsPlacedOn, placed-all, collected-all, pairs-moved, placed-rising, part-pairs, ids-of, rising-one}
use Rattle.image_laws.proofs.Holding.{among-in, list-is}

-- ---- slots that are named

or_cases : (a b : Bool) → (a || b) ≡ true → (a ≡ true) ⊎ (b ≡ true)
or_cases true b is = inl refl
or_cases false b is = inr is

pub named-by : (home : ℕ → List ℕ) (roots : List Root) (first count slot : ℕ) → named_before home roots first count slot ≡ true
    → (d : ℕ) × ((d < count) × ((e : Entry) × (In e (list_at home (root_at roots (first + d))) × (e.slot ≡ slot))))
named-by home roots first zero slot is = absurd (cc)
named-by home roots first (suc c) slot is = elim (or_cases (named_before home roots first c slot) (is_among slot (slots_of (list_at home (root_at roots (first + c))))) is) [
  | inl before ↦ let found = named-by home roots first c slot before in (found.0, (omega (arith, found.1.0), found.1.1))
  | inr here ↦ (c, (omega arith, among-in slot (list_at home (root_at roots (first + c))) here))
]

curve_named : (home : ℕ → List ℕ) (roots : List Root) (slot : ℕ) → named_before home roots 0 4 slot ≡ true
    → (d : ℕ) × ((d < 4) × ((e : Entry) × (In e (list_at home (curve_root roots d)) × (e.slot ≡ slot))))
curve_named home roots slot is =
    let found = named-by home roots 0 4 slot is in
    let same : 0 + found.0 ≡ found.0 = omega arith in
    (found.0, (found.1.0, (found.1.1.0, (subst (λ (k : ℕ). In found.1.1.0 (list_at home (root_at roots k))) same found.1.1.1.0, found.1.1.1.1))))

-- ---- the whole

module _ (home : ℕ → List ℕ) (profile : Profile) (pivots : List Object) (eight : length profile.roots ≡ 8)
    (curve_held : (c : ℕ) → c < 4 → AllByRecursion (IsHeldBy home profile pivots c true) (list_at home (curve_root profile.roots c)))
    (id_held : (c : ℕ) → c < 4 → AllByRecursion (IsHeldBy home profile pivots c false) (list_at home (id_root profile.roots c)))
    (curve_trees : (c : ℕ) → c < 4 → IsTree (AreCurveCorners profile) home (is_pool_page profile.cap) (curve_root profile.roots c))
    (id_trees : (c : ℕ) → c < 4 → IsTree AreIdCorners home (is_pool_page profile.cap) (id_root profile.roots c))
    (id_keys : (c : ℕ) → c < 4 → AllByRecursion (λ (e : Entry). e.key ≡ e.id) (list_at home (id_root profile.roots c)))
    (slots : (slot : ℕ) → slot < profile.cap → (slot_at home slot ≡ Free) ⊎ ((named_before home profile.roots 0 4 slot ≡ true) × (named_before home profile.roots 4 4 slot ≡ true)))
    (once : (m : ℕ) → times m (tree_pages home profile.roots) ≤ 1) where
  abbrev Holding : ℕ → ℕ → ℕ → Object → Type 0
  Holding slot c id object = slot_at home slot ≡ Holds c id object

  same_collection : (slot c d id i : ℕ) (x y : Object) → Holding slot c id x → Holding slot d i y → (c ≡ d) × (id ≡ i)
  same_collection slot c d id i x y one two = let both : Holds c id x ≡ Holds d i y = sym one ∙ two in (cc, cc)

  -- a filled slot is named by the curve tree of its collection, and by the id tree
  by_curve : (c slot id : ℕ) (object : Object) → slot < profile.cap → Holding slot c id object
      → (e : Entry) × (In e (list_at home (curve_root profile.roots c)) × (e.slot ≡ slot))
  by_curve c slot id object below holds = elim (slots slot below) [
    | inl free ↦ absurd (let both : Holds c id object ≡ Free = sym holds ∙ free in cc)
    | inr named ↦
        let found = curve_named home profile.roots slot named.0 in
        let e = found.1.1.0 in
        let h = of-in (IsHeldBy home profile pivots found.0 true) (list_at home (curve_root profile.roots found.0)) e (curve_held found.0 found.1.0) found.1.1.1.0 in
        let own = same_collection slot found.0 c e.id id h.object object (sym (ap (slot_at home) found.1.1.1.1) ∙ h.holds) holds in
        (e, (subst (λ (k : ℕ). In e (list_at home (curve_root profile.roots k))) own.0 found.1.1.1.0, found.1.1.1.1))
  ]

  by_ids : (c slot id : ℕ) (object : Object) → slot < profile.cap → Holding slot c id object
      → (e : Entry) × (In e (list_at home (id_root profile.roots c)) × (e.slot ≡ slot))
  by_ids c slot id object below holds = elim (slots slot below) [
    | inl free ↦ absurd (let both : Holds c id object ≡ Free = sym holds ∙ free in cc)
    | inr named ↦
        let found = named-by home profile.roots 4 4 slot named.1 in
        let e = found.1.1.0 in
        let h = of-in (IsHeldBy home profile pivots found.0 false) (list_at home (id_root profile.roots found.0)) e (id_held found.0 found.1.0) found.1.1.1.0 in
        let own = same_collection slot found.0 c e.id id h.object object (sym (ap (slot_at home) found.1.1.1.1) ∙ h.holds) holds in
        (e, (subst (λ (k : ℕ). In e (list_at home (id_root profile.roots k))) own.0 found.1.1.1.0, found.1.1.1.1))
  ]

  -- no two slots hold the same collection and id
  one_slot : (c : ℕ) → c < 4 → (slot other id : ℕ) (x y : Object) → slot < profile.cap → other < profile.cap → Holding slot c id x → Holding other c id y → slot ≡ other
  one_slot c few slot other id x y below inside one two =
      let es = list_at home (id_root profile.roots c) in
      let a = by_ids c slot id x below one in
      let b = by_ids c other id y inside two in
      let ha = of-in (IsHeldBy home profile pivots c false) es a.0 (id_held c few) a.1.0 in
      let hb = of-in (IsHeldBy home profile pivots c false) es b.0 (id_held c few) b.1.0 in
      let ia = same_collection slot c c a.0.id id ha.object x (sym (ap (slot_at home) a.1.1) ∙ ha.holds) one in
      let ib = same_collection other c c b.0.id id hb.object y (sym (ap (slot_at home) b.1.1) ∙ hb.holds) two in
      let ids : a.0.id ≡ b.0.id = ia.1 ∙ sym ib.1 in
      let keys : a.0.key ≡ b.0.key =
      of-in (λ (e : Entry). e.key ≡ e.id) es a.0 (id_keys c few) a.1.0 ∙ ids ∙ sym (of-in (λ (e : Entry). e.key ≡ e.id) es b.0 (id_keys c few) b.1.0) in
      let same = rising-one es (id_trees c few).tree.rising a.0 b.0 a.1.0 b.1.0 keys ids in
      sym a.1.1 ∙ ap (λ (e : Entry). e.slot) same ∙ b.1.1

  module _ (c : ℕ) (few : c < 4) where
    abbrev Known : Placed → Type 0
    Known p = IsPlacedOn (slot_at home) profile.cap p × (p.collection ≡ c)

    known : AllByRecursion Known (in_collection c (placed profile.cap home))
    known = collected-all c (IsPlacedOn (slot_at home) profile.cap) (placed profile.cap home) (placed-all (slot_at home) profile.cap)

    held_at : (p : Placed) → Known p → Holding p.slot c p.id p.object
    held_at p is = is.0.holds ∙ ap (λ (k : ℕ). Holds k p.id p.object) is.1

    ids : (f : Placed → Entry) → ((p : Placed) → (f p).id ≡ p.id) → HasIds (map f (in_collection c (placed profile.cap home)))
    ids f shape =
        ids-of f shape (in_collection c (placed profile.cap home))
        (pairs-moved Known (λ (p q : Placed). p.slot < q.slot) (λ (p q : Placed). p.id ≡ q.id → ⊥)
        (λ p q own other less same.
        let slot : p.slot ≡ q.slot =
        one_slot c few p.slot q.slot q.id p.object q.object own.0.below other.0.below
        (held_at p own ∙ ap (λ (k : ℕ). Holds c k p.object) same) (held_at q other) in
        omega (arith, less, slot))
        (in_collection c (placed profile.cap home)) known (part-pairs c (λ (p q : Placed). p.slot < q.slot) (placed profile.cap home) (placed-rising (slot_at home) profile.cap)))

    entry_same : (e g : Entry) → e.key ≡ g.key → e.id ≡ g.id → e.slot ≡ g.slot → e ≡ g
    entry_same e g key id slot = λ i. record { key = key i; id = id i; slot = slot i }

    curve_is : list_at home (curve_root profile.roots c) ≡ curve_entries (object_key profile pivots) c (placed profile.cap home)
    curve_is =
        list-is home profile pivots c true (curve_entry (object_key profile pivots)) (λ p. (refl, refl)) (list_at home (curve_root profile.roots c)) (curve_trees c few).tree.rising (curve_held c few)
        (λ e among h. entry_same (curve_entry (object_key profile pivots) (record { slot = e.slot; collection = c; id = e.id; object = h.object })) e (sym (h.key refl)) refl refl)
        (λ slot id object below holds. by_curve c slot id object below holds) (ids (curve_entry (object_key profile pivots)) (λ p. refl))

    ids_are : list_at home (id_root profile.roots c) ≡ id_entries c (placed profile.cap home)
    ids_are =
        list-is home profile pivots c false id_entry (λ p. (refl, refl)) (list_at home (id_root profile.roots c)) (id_trees c few).tree.rising (id_held c few)
        (λ e among h. entry_same (id_entry (record { slot = e.slot; collection = c; id = e.id; object = h.object })) e
        (sym (of-in (λ (e : Entry). e.key ≡ e.id) (list_at home (id_root profile.roots c)) e (id_keys c few) among)) refl refl)
        (λ slot id object below holds. by_ids c slot id object below holds) (ids id_entry (λ p. refl))

    has_trees : HasTrees home profile pivots (placed profile.cap home) c
    has_trees = record { curve_tree = curve_trees c few; curve_list = curve_is; id_tree = id_trees c few; id_list = ids_are }

  readable : (slot : ℕ) → slot < profile.cap → IsReadable profile.space (slot_at home slot)
  readable slot below = elim (slots slot below) [
    | inl free ↦ subst (IsReadable profile.space) (sym free) tt
    | inr named ↦
        let found = curve_named home profile.roots slot named.0 in
        let e = found.1.1.0 in
        let h = of-in (IsHeldBy home profile pivots found.0 true) (list_at home (curve_root profile.roots found.0)) e (curve_held found.0 found.1.0) found.1.1.1.0 in
        subst (IsReadable profile.space) (sym h.holds ∙ ap (slot_at home) found.1.1.1.1) (h.small, h.valid)
  ]

  never_again : (lower slot c id : ℕ) (object another : List ℕ) → lower < slot → slot < profile.cap → Holding lower c id object → Holding slot c id another → ⊥
  never_again lower slot c id object another less below one two =
      let same = one_slot c (slot_collection home slot c id another two) lower slot id object another (omega (arith, less, below)) below one two in
      omega (arith, less, same)

  pub trees-hold : HoldsTrees home profile pivots
  trees-hold = record {
    readable = readable;
    distinct = distinct_placed profile.cap (slot_at home) never_again;
    trees = record {
      each = has_trees;
      distinct = times-distinct (tree_pages home profile.roots) once;
    };
  }
