-- Slots and trees whose entries match them hold a store's objects.
use Rattle.std.proofs.Common.{◌≡◌, inl, inr, ℕ, zero, suc, ◌<◌, ◌==◌, Bool, true, false, not, ◌&&◌, ◌||◌, List, [], ◌∷◌, map, length, get_or, refl, sym, ap, subst, ◌∙◌, arith}
use Rattle.std.specs.Prelude.{IsTrue, Option, Some, None}
use Rattle.std.specs.List.{AllByRecursion, slice_get}
use Rattle.std.proofs.lemmas.Bool.{and_parts}
use Rattle.std.proofs.lemmas.Bool.Decides.{nat_tests}
use Rattle.answer_lists.specs.Order.{sorted_by}
use Rattle.metric_laws.specs.Objects.{Object}
use Rattle.page_laws.specs.Pages.{is_among}
use Rattle.bptree_node.specs.declared.rows.Entry.{Entry}
use Rattle.bptree_node.specs.Trees.{IsRising}
use Rattle.object_file.specs.Slots.{Holds}
use Rattle.object_file.specs.ObjectFile.{slot_at}
use Rattle.store_check.specs.declared.profile.Profile.{Profile}
use Rattle.store_check.specs.Stands.{Placed, placed}
use Rattle.tree_state.specs.StoreCurves.{object_key}
use Rattle.tree_state.specs.TreeEntries.{entry_before, in_collection}
use Rattle.slot_notes.specs.declared.notes.SlotNote.{SlotNote}
use Rattle.slot_notes.specs.declared.notes.SlotNote.TheVariants as note
use Rattle.slot_notes.specs.Notes.{IsNoteOf, AreNotes}
use Rattle.entry_match.specs.Matching.{is_named, is_keyed, is_match}
use Rattle.image_trees.specs.Trees.{slots_of}
use Rattle.image_laws.specs.Held.{IsHeldBy}
use Rattle.image_laws.proofs.Listing.{In, of-in, rising-same, HasIds, sorted-rising, in-sorted, sorted-in, IsPlacedOn, placed-all, placed-there, collected-in, collected-all, in-map, of-map}

-- ---- one entry

got-below : (notes : List SlotNote) (i : ℕ) (n : SlotNote) → slice_get notes i ≡ Some n → (i < length notes) × ((d : SlotNote) → get_or notes i d ≡ n)
got-below [] i n is = absurd (cc)
got-below (x ∷ xs) zero n is = (omega arith, λ d. let same : x ≡ n = cc in same)
got-below (x ∷ xs) (suc i) n is = let rest = got-below xs i n is in (omega (arith, rest.0), rest.1)

module _ (home : ℕ → List ℕ) (profile : Profile) (pivots : List Object) (notes : List SlotNote) (are : AreNotes profile pivots home profile.cap notes) where
  named_by : (c : ℕ) (by_key : Bool) (e : Entry) (o : Option SlotNote) → slice_get notes e.slot ≡ o → (is_named c e o && (not by_key || is_keyed e o)) ≡ true
      → IsHeldBy home profile pivots c by_key e
  named_by c by_key e None got is = absurd (cc)
  named_by c by_key e (Some note.Free) got is = absurd (cc)
  named_by c by_key e (Some note.Broken) got is = absurd (cc)
  named_by c by_key e (Some (note.Filled collection id key)) got is =
      let place = got-below notes e.slot (note.Filled collection id key) got in
      let below : e.slot < profile.cap = omega (arith, place.0, are.count_is) in
      let noted : IsNoteOf profile.space (object_key profile pivots) (note.Filled collection id key) (slot_at home e.slot) =
      subst (λ (n : SlotNote). IsNoteOf profile.space (object_key profile pivots) n (slot_at home e.slot)) (place.1 note.Free) (are.each e.slot note.Free below) in
      let parts = and_parts ((collection == c) && (id == e.id)) (not by_key || (key == e.key)) is in
      let ids = and_parts (collection == c) (id == e.id) parts.0 in
      let own : collection ≡ c = grind (arith, nat_tests, ids.0) in
      let same : id ≡ e.id = grind (arith, nat_tests, ids.1) in
      record {
        object = noted.0;
        below = below;
        holds = noted.1.0 ∙ (λ i. Holds (own i) (same i) noted.0);
        small = omega (arith, noted.1.1.0, same);
        valid = noted.1.1.1;
        key = λ keyed. let equal : key ≡ e.key = keys by_key key e.key keyed parts.1 in sym equal ∙ noted.1.2;
      }
    where
      keys : (b : Bool) (k l : ℕ) → b ≡ true → (not b || (k == l)) ≡ true → k ≡ l
      keys true k l on is = grind (arith, nat_tests, is)
      keys false k l on is = absurd (cc)

  pub held-by : (c : ℕ) (by_key : Bool) (e : Entry) → IsTrue (is_match notes c by_key e) → IsHeldBy home profile pivots c by_key e
  held-by c by_key e is = named_by c by_key e (slice_get notes e.slot) refl is

-- ---- the trees of a collection

pub among-in : (slot : ℕ) (es : List Entry) → is_among slot (slots_of es) ≡ true → (e : Entry) × (In e es × (e.slot ≡ slot))
among-in slot [] is = absurd (cc)
among-in slot (e ∷ es) is = by (e.slot == slot) refl is (among-in slot es)
  where
    by : (b : Bool) → (e.slot == slot) ≡ b → (b || is_among slot (slots_of es)) ≡ true → (is_among slot (slots_of es) ≡ true → (f : Entry) × (In f es × (f.slot ≡ slot)))
        → (f : Entry) × (In f (e ∷ es) × (f.slot ≡ slot))
    by true here is deep = (e, (inl refl, grind (arith, nat_tests, here)))
    by false other is deep = let found = deep is in (found.0, (inr found.1.0, found.1.1))

module _ (home : ℕ → List ℕ) (profile : Profile) (pivots : List Object) (c : ℕ) (by_key : Bool) (f : Placed → Entry)
    (shape : (p : Placed) → (f p).id ≡ p.id × ((f p).slot ≡ p.slot)) where
  -- the entries of the collection's objects
  abbrev Made : List Entry
  Made = map f (in_collection c (placed profile.cap home))

  module _ (es : List Entry) (rising : IsRising es) (held : AllByRecursion (IsHeldBy home profile pivots c by_key) es)
      (made : (e : Entry) → In e es → (h : IsHeldBy home profile pivots c by_key e) → f (record { slot = e.slot; collection = c; id = e.id; object = h.object }) ≡ e)
      (all : (slot id : ℕ) (object : Object) → slot < profile.cap → slot_at home slot ≡ Holds c id object → (e : Entry) × (In e es × (e.slot ≡ slot)))
      (ids : HasIds Made) where
    forth : (e : Entry) → In e es → In e (sorted_by entry_before Made)
    forth e among =
        let h = of-in (IsHeldBy home profile pivots c by_key) es e held among in
        let p : Placed = record { slot = e.slot; collection = c; id = e.id; object = h.object } in
        let there : In p (placed profile.cap home) = placed-there (slot_at home) profile.cap e.slot c e.id h.object h.below h.holds in
        sorted-in e Made (subst (λ (g : Entry). In g Made) (made e among h) (in-map f p (in_collection c (placed profile.cap home)) (collected-in c p (placed profile.cap home) refl there)))

    back : (e : Entry) → In e (sorted_by entry_before Made) → In e es
    back e among =
        let found = of-map f e (in_collection c (placed profile.cap home)) (in-sorted e Made among) in
        let p = found.0 in
        let is = of-in (λ (q : Placed). IsPlacedOn (slot_at home) profile.cap q × (q.collection ≡ c)) (in_collection c (placed profile.cap home)) p
        (collected-all c (IsPlacedOn (slot_at home) profile.cap) (placed profile.cap home) (placed-all (slot_at home) profile.cap)) found.1.0 in
        let holds : slot_at home p.slot ≡ Holds c p.id p.object = is.0.holds ∙ ap (λ (k : ℕ). Holds k p.id p.object) is.1 in
        let named = all p.slot p.id p.object is.0.below holds in
        let g = named.0 in
        let h = of-in (IsHeldBy home profile pivots c by_key) es g held named.1.0 in
        let both : Holds c g.id h.object ≡ Holds c p.id p.object = sym h.holds ∙ ap (slot_at home) named.1.1 ∙ holds in
        let id : g.id ≡ p.id = cc in
        let object : h.object ≡ p.object = cc in
        let placed_is : ◌≡◌ {A = Placed} (record { slot = g.slot; collection = c; id = g.id; object = h.object }) p =
        λ i. record { slot = named.1.1 i; collection = sym is.1 i; id = id i; object = object i } in
        subst (λ (k : Entry). In k es) (sym (made g named.1.0 h) ∙ ap f placed_is ∙ found.1.1) named.1.0

    pub list-is : es ≡ sorted_by entry_before Made
    list-is = rising-same es (sorted_by entry_before Made) rising (sorted-rising Made ids) forth back
