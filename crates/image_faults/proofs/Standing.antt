-- Where slots and trees hold a store's objects, the trees are sound, match the notes of the slots, and break no rule.
use Rattle.std.proofs.Common.{◌≡◌, ◌⊎◌, inl, inr, ℕ, zero, suc, ◌+◌, ◌<◌, ◌≤◌, ◌==◌, ◌^◌, Bool, true, false, not, ◌&&◌, ◌||◌, List, [], ◌∷◌, map, length, get_or, refl, sym, ap, subst, ◌∙◌, arith}
use Rattle.std.specs.Prelude.{IsTrue, IsSome, All, Option, Some, None, if◌then◌else◌}
use Rattle.std.specs.List.{AllByRecursion, slice_get}
use Rattle.std.proofs.lemmas.Bool.{cases_eq}
use Rattle.std.proofs.lemmas.Bool.Decides.{nat_tests}
use Rattle.std.proofs.lemmas.List.Elements.{All-from_recursion}
use Rattle.answer_lists.specs.Order.{sorted_by}
use Rattle.metric_laws.specs.Objects.{Object}
use Rattle.metrics_builtin.specs.Space.{IsValid}
use Rattle.page_laws.specs.declared.errors.TreeError.{TreeError}
use Rattle.page_laws.specs.declared.errors.TreeError.TheVariants as tree
use Rattle.page_laws.specs.declared.root.Root.{Root}
use Rattle.page_laws.specs.declared.rule.Rule.{Rule}
use Rattle.bptree_node.specs.declared.rows.Entry.{Entry}
use Rattle.bptree_node.specs.declared.summary.NoBox.{NoBox}
use Rattle.bptree_node.specs.Trees.{list_at, pages_at}
use Rattle.bptree_edit.specs.NodesAt.{times}
use Rattle.bptree_edit.proofs.Counts.{distinct-times}
use Rattle.curve_laws.specs.Grid.{IsKey}
use Rattle.object_file.specs.Slots.{Slot, Free, Holds, Broken}
use Rattle.object_file.specs.ObjectFile.{slot_at}
use Rattle.box_corner.specs.Boxes.{joined, point}
use Rattle.box_corner.specs.CurveBoxes as boxes
use Rattle.box_corner.specs.CurveBoxLaws.{Decides-is_key}
use Rattle.box_corner.specs.IdBoxes as ids
use Rattle.store_check.specs.declared.profile.Profile.{Profile}
use Rattle.store_check.specs.Profile.{IsInRange}
use Rattle.store_check.specs.Stands.{Placed, placed, IsReadable}
use Rattle.spb_defs.specs.Pivots.{cells_of}
use Rattle.metrics_builtin.specs.Space.{dist}
use Rattle.tree_check.specs.PageSets.{Marks, uses}
use Rattle.tree_state.specs.StoreCurves.{object_key, profile_key, profile_cell}
use Rattle.tree_state.specs.StoreTrees.{is_pool_page, curve_root, id_root, tree_pages}
use Rattle.tree_state.specs.TreeEntries.{entry_before, id_entry, curve_entry, in_collection}
use Rattle.tree_state.proofs.Cells.{cells_are_cells, curve_on}
use Rattle.slot_notes.specs.declared.notes.SlotNote.{SlotNote}
use Rattle.slot_notes.specs.declared.notes.SlotNote.TheVariants as note
use Rattle.slot_notes.specs.Notes.{IsNoteOf, AreNotes}
use Rattle.entry_match.specs.Matching.{is_named, is_keyed, is_match}
use Rattle.entry_match.specs.Mismatches.{IsMatchedTree}
use Rattle.image_trees.specs.Trees.{root_at, times_before, named_before}
use Rattle.image_laws.specs.Held.{HoldsTrees, IsHeldBy}
use Rattle.image_laws.proofs.Listing.{In, of-in, in-sorted, IsPlacedOn, placed-all, collected-all, of-map}
use Rattle.image_laws.proofs.Eight.{eight-pages}
use Rattle.image_laws.proofs.Naming.{filled-named, free-unnamed}
use Rattle.image_faults.specs.Faults.{HasCurveMismatch, HasIdMismatch, HasLeftSlot, HasOtherSlot, IsBroken}
use Rattle.image_faults.proofs.Refuting.{matched-refutes}

-- ---- lists and marks

all_in : {A : Type 0} (P : A → Type 0) (xs : List A) → ((x : A) → In x xs → P x) → AllByRecursion P xs
all_in P [] each = tt
all_in P (x ∷ xs) each = (each x (inl refl), all_in P xs (λ y among. each y (inr among)))

pub got-there : (notes : List SlotNote) (i : ℕ) (d : SlotNote) → i < length notes → slice_get notes i ≡ Some (get_or notes i d)
got-there [] i d below = absurd (omega (arith, below))
got-there (x ∷ xs) zero d below = refl
got-there (x ∷ xs) (suc i) d below = got-there xs i d (omega (arith, below))

some_if : {S : Type 0} (b : Bool) (x : S) → b ≡ true → IsSome (if b then Some x else None)
some_if true x is = refl
some_if false x is = absurd (cc)

matched_is : (a b k : Bool) (by_key : Bool) → a ≡ true → b ≡ true → (by_key ≡ true → k ≡ true) → ((a && b) && (not by_key || k)) ≡ true
matched_is false b k by_key one two three = absurd (cc)
matched_is true false k by_key one two three = absurd (cc)
matched_is true true k true one two three = three refl
matched_is true true k false one two three = refl

-- ---- pages

module _ (home : ℕ → List ℕ) (roots : List Root) (first m : ℕ) where
  before_grows : (c n : ℕ) → c ≤ n → times_before home roots first c m ≤ times_before home roots first n m
  before_grows c zero least = let none : c ≡ 0 = omega (arith, least) in subst (λ (k : ℕ). times_before home roots first k m ≤ 0) (sym none) (omega arith)
  before_grows c (suc n) least = elim (cases_eq c (suc n)) [
    | inl same ↦ subst (λ (k : ℕ). times_before home roots first k m ≤ times_before home roots first (suc n) m) (sym same) (omega arith)
    | inr other ↦ let less : c ≤ n = omega (arith, least, other) in omega (arith, before_grows c n less)
  ]

  within : (c : ℕ) → c < 4 → times_before home roots first c m + times m (pages_at home (root_at roots (first + c))) ≤ times_before home roots first 4 m
  within c few = before_grows (suc c) 4 few

-- ---- the whole

module _ (home : ℕ → List ℕ) (profile : Profile) (pivots : List Object) (holds : HoldsTrees home profile pivots) (notes : List SlotNote) (are : AreNotes profile pivots home profile.cap notes)
    (range : IsInRange profile) (count : length pivots ≡ profile.pivots) (valid : All (IsValid profile.space) pivots) where
  -- an entry that names what its slot holds
  held_of : (c : ℕ) (by_key : Bool) (f : Placed → Entry) → ((p : Placed) → (f p).id ≡ p.id × ((f p).slot ≡ p.slot))
      → ((p : Placed) → by_key ≡ true → (f p).key ≡ object_key profile pivots p.object) → (e : Entry)
      → In e (sorted_by entry_before (map f (in_collection c (placed profile.cap home)))) → IsHeldBy home profile pivots c by_key e
  held_of c by_key f shape keyed e among =
      let found = of-map f e (in_collection c (placed profile.cap home)) (in-sorted e (map f (in_collection c (placed profile.cap home))) among) in
      let p = found.0 in
      let known = of-in (λ (q : Placed). IsPlacedOn (slot_at home) profile.cap q × (q.collection ≡ c)) (in_collection c (placed profile.cap home)) p
      (collected-all c (IsPlacedOn (slot_at home) profile.cap) (placed profile.cap home) (placed-all (slot_at home) profile.cap)) found.1.0 in
      let readable = subst (IsReadable profile.space) known.0.holds (holds.readable p.slot known.0.below) in
      let slot : p.slot ≡ e.slot = sym (shape p).1 ∙ ap (λ (g : Entry). g.slot) found.1.1 in
      let id : p.id ≡ e.id = sym (shape p).0 ∙ ap (λ (g : Entry). g.id) found.1.1 in
      record {
        object = p.object;
        below = subst (λ (k : ℕ). k < profile.cap) slot known.0.below;
        holds = sym (ap (slot_at home) slot) ∙ known.0.holds ∙ (λ i. Holds (known.1 i) (id i) p.object);
        small = subst (λ (k : ℕ). k < 2 ^ 32) id readable.0;
        valid = readable.1;
        key = λ on. sym (ap (λ (g : Entry). g.key) found.1.1) ∙ keyed p on;
      }

  -- it matches
  match_by : (c : ℕ) (by_key : Bool) (e : Entry) (h : IsHeldBy home profile pivots c by_key e) (n : SlotNote) → slice_get notes e.slot ≡ Some n
      → IsNoteOf profile.space (object_key profile pivots) n (slot_at home e.slot) → is_match notes c by_key e ≡ true
  match_by c by_key e h note.Free got noted = absurd (let both : Holds c e.id h.object ≡ Free = sym h.holds ∙ noted in cc)
  match_by c by_key e h note.Broken got noted = absurd (noted (subst (IsReadable profile.space) (sym h.holds) (h.small, h.valid)))
  match_by c by_key e h (note.Filled collection id key) got noted =
      let both : Holds collection id noted.0 ≡ Holds c e.id h.object = sym noted.1.0 ∙ h.holds in
      let own : collection ≡ c = cc in
      let same : id ≡ e.id = cc in
      let object : noted.0 ≡ h.object = cc in
      let one : (collection == c) ≡ true = grind (arith, nat_tests, own) in
      let two : (id == e.id) ≡ true = grind (arith, nat_tests, same) in
      subst (λ (o : Option SlotNote). (is_named c e o && (not by_key || is_keyed e o)) ≡ true) (sym got)
      (matched_is (collection == c) (id == e.id) (key == e.key) by_key one two
      (λ on. let equal : key ≡ e.key = noted.1.2 ∙ ap (object_key profile pivots) object ∙ sym (h.key on) in grind (arith, nat_tests, equal)))

  match_of : (c : ℕ) (by_key : Bool) (e : Entry) → IsHeldBy home profile pivots c by_key e → is_match notes c by_key e ≡ true
  match_of c by_key e h =
      match_by c by_key e h (get_or notes e.slot note.Free) (got-there notes e.slot note.Free (omega (arith, h.below, are.count_is))) (are.each e.slot note.Free h.below)

  -- the key of an object is one of the curve
  keys_of_objects : (object : Object) → IsValid profile.space object → IsKey profile.pivots profile.bits (object_key profile pivots object)
  keys_of_objects object ok =
      (curve_on profile.curve profile.pivots profile.bits).key_of_cell (cells_of (dist profile.space) pivots object)
      (cells_are_cells profile pivots object range count valid ok)

  boxed : (c : ℕ) (e : Entry) → IsHeldBy home profile pivots c true e → IsSome (boxes.entry_box profile.pivots profile.bits (profile_cell profile) e)
  boxed c e h =
      some_if (boxes.is_key profile.pivots profile.bits e.key) (point (profile_cell profile e.key))
      ((Decides-is_key profile.pivots profile.bits e.key).1 (subst (λ (k : ℕ). IsKey profile.pivots profile.bits k) (sym (h.key refl)) (keys_of_objects h.object h.valid)))

  all_pages : (m : ℕ) → times_before home profile.roots 0 4 m + times_before home profile.roots 4 4 m ≤ 1
  all_pages m = omega (arith, eight-pages home m profile.roots range.trees.eight, distinct-times m (tree_pages home profile.roots) holds.trees.distinct)

  -- ---- curve trees

  curve_held : (c : ℕ) → c < 4 → (e : Entry) → In e (list_at home (curve_root profile.roots c)) → IsHeldBy home profile pivots c true e
  curve_held c few e among =
      held_of c true (curve_entry (object_key profile pivots)) (λ p. (refl, refl)) (λ p on. refl) e
      (subst (λ (xs : List Entry). In e xs) (holds.trees.each c few).curve_list among)

  curve_matched : (c : ℕ) → c < 4 → (before : Marks) → ((m : ℕ) → uses before m ≡ times_before home profile.roots 0 c m)
      → IsMatchedTree joined (boxes.entry_box profile.pivots profile.bits (profile_cell profile)) (boxes.keys_of (profile_key profile)) notes c true home (is_pool_page profile.cap) before
      (root_at profile.roots (0 + c))
  curve_matched c few before reached =
      let same : c ≡ 0 + c = omega arith in
      let es = list_at home (curve_root profile.roots c) in
      let entry_box = boxes.entry_box profile.pivots profile.bits (profile_cell profile) in
      let space : (m : ℕ) → uses before m + times m (pages_at home (curve_root profile.roots c)) ≤ 1 =
      λ m. subst (λ (k : ℕ). uses before m + times m (pages_at home (root_at profile.roots k)) ≤ 1) (sym same)
      (omega (arith, reached m, within home profile.roots 0 m c few, all_pages m)) in
      subst (λ (k : ℕ). IsMatchedTree joined entry_box (boxes.keys_of (profile_key profile)) notes c true home (is_pool_page profile.cap) before (root_at profile.roots k)) same
      (record {
        sound = record {
          tree = (holds.trees.each c few).curve_tree;
          keys_are = All-from_recursion (λ (e : Entry). IsSome (entry_box e)) es (all_in (λ (e : Entry). IsSome (entry_box e)) es (λ e among. boxed c e (curve_held c few e among)));
          unused = space;
        };
        matched = All-from_recursion (λ (e : Entry). IsTrue (is_match notes c true e)) es
            (all_in (λ (e : Entry). IsTrue (is_match notes c true e)) es (λ e among. match_of c true e (curve_held c few e among)));
      })

  pub no-curve-mismatch : (page : ℕ) (r : Rule) → HasCurveMismatch home profile notes (tree.Damaged page r) → ⊥
  no-curve-mismatch page r has =
      let broken = has.broken in
      matched-refutes joined (boxes.entry_box profile.pivots profile.bits (profile_cell profile)) (boxes.keys_of (profile_key profile)) notes broken.collection true home (is_pool_page profile.cap)
      broken.before (root_at profile.roots (0 + broken.collection))
      (curve_matched broken.collection broken.below broken.before (λ m. omega (arith, broken.reached m, has.none m))) page r broken.tells

  -- ---- id trees

  id_held : (c : ℕ) → c < 4 → (e : Entry) → In e (list_at home (id_root profile.roots c)) → IsHeldBy home profile pivots c false e
  id_held c few e among =
      held_of c false id_entry (λ p. (refl, refl)) (λ p on. absurd (cc)) e (subst (λ (xs : List Entry). In e xs) (holds.trees.each c few).id_list among)

  id_keyed : (c : ℕ) → c < 4 → (e : Entry) → In e (list_at home (id_root profile.roots c)) → e.key ≡ e.id
  id_keyed c few e among =
      let listed = subst (λ (xs : List Entry). In e xs) (holds.trees.each c few).id_list among in
      let found = of-map id_entry e (in_collection c (placed profile.cap home)) (in-sorted e (map id_entry (in_collection c (placed profile.cap home))) listed) in
      sym (ap (λ (g : Entry). g.key) found.1.1) ∙ ap (λ (g : Entry). g.id) found.1.1

  id_boxed : (e : Entry) → e.key ≡ e.id → IsSome (ids.entry_box e)
  id_boxed e same = let equal : (e.key == e.id) ≡ true = grind (arith, nat_tests, same) in some_if (e.key == e.id) ids.nothing equal

  id_matched : (c : ℕ) → c < 4 → (before : Marks) → ((m : ℕ) → uses before m ≡ times_before home profile.roots 0 4 m + times_before home profile.roots 4 c m)
      → IsMatchedTree {S = NoBox} (λ a _. a) ids.entry_box (λ _. (0, 0)) notes c false home (is_pool_page profile.cap) before (root_at profile.roots (4 + c))
  id_matched c few before reached =
      let es = list_at home (id_root profile.roots c) in
      record {
        sound = record {
          tree = (holds.trees.each c few).id_tree;
          keys_are = All-from_recursion (λ (e : Entry). IsSome (ids.entry_box e)) es (all_in (λ (e : Entry). IsSome (ids.entry_box e)) es (λ e among. id_boxed e (id_keyed c few e among)));
          unused = λ m. omega (arith, reached m, within home profile.roots 4 m c few, all_pages m);
        };
        matched = All-from_recursion (λ (e : Entry). IsTrue (is_match notes c false e)) es
            (all_in (λ (e : Entry). IsTrue (is_match notes c false e)) es (λ e among. match_of c false e (id_held c few e among)));
      }

  pub no-id-mismatch : (page : ℕ) (r : Rule) → HasIdMismatch home profile notes (tree.Damaged page r) → ⊥
  no-id-mismatch page r has =
      let broken = has.broken in
      matched-refutes {S = NoBox} (λ a _. a) ids.entry_box (λ _. (0, 0)) notes broken.collection false home (is_pool_page profile.cap) broken.before (root_at profile.roots (4 + broken.collection))
      (id_matched broken.collection broken.below broken.before (λ m. omega (arith, broken.reached m, has.those m))) page r broken.tells

  -- ---- slots

  no-left-slot : (why : TreeError) → HasLeftSlot home profile why → ⊥
  no-left-slot why left =
      let named = filled-named home profile pivots holds left.slot left.below left.filled in
      let both : true ≡ false = sym named.0 ∙ left.unnamed in
      absurd (cc)

  same_names : (slot : ℕ) (s : Slot) → slot_at home slot ≡ s → slot < profile.cap → named_before home profile.roots 0 4 slot ≡ named_before home profile.roots 4 4 slot
  same_names slot Free is below = let none = free-unnamed home profile pivots holds slot is in none.0 ∙ sym none.1
  same_names slot Broken is below =
      let named = filled-named home profile pivots holds slot below (λ free. absurd (let both : Broken ≡ Free = sym is ∙ free in cc)) in named.0 ∙ sym named.1
  same_names slot (Holds c id object) is below =
      let named = filled-named home profile pivots holds slot below (λ free. absurd (let both : Holds c id object ≡ Free = sym is ∙ free in cc)) in named.0 ∙ sym named.1

  no-other-slot : (why : TreeError) → HasOtherSlot home profile why → ⊥
  no-other-slot why other = other.differs (same_names other.slot (slot_at home other.slot) refl other.below)

  pub breaks-none : (page : ℕ) (r : Rule) → (HasCurveMismatch home profile notes (tree.Damaged page r)
      ⊎ (HasIdMismatch home profile notes (tree.Damaged page r) ⊎ (HasLeftSlot home profile (tree.Damaged page r) ⊎ HasOtherSlot home profile (tree.Damaged page r)))) → ⊥
  breaks-none page r (inl broken) = no-curve-mismatch page r broken
  breaks-none page r (inr (inl broken)) = no-id-mismatch page r broken
  breaks-none page r (inr (inr (inl broken))) = no-left-slot (tree.Damaged page r) broken
  breaks-none page r (inr (inr (inr broken))) = no-other-slot (tree.Damaged page r) broken

pub held-unbroken : (home : ℕ → List ℕ) (profile : Profile) (pivots : List Object) → HoldsTrees home profile pivots → IsInRange profile → length pivots ≡ profile.pivots
    → All (IsValid profile.space) pivots → (page : ℕ) (r : Rule) → IsBroken home profile pivots (tree.Damaged page r) → ⊥
held-unbroken home profile pivots holds range count valid page r broken = breaks-none home profile pivots holds broken.notes broken.are range count valid page r broken.rule_broken
