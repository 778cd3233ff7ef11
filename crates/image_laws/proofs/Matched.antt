-- Trees that were checked and matched with notes of the slots hold a store's objects.
use Rattle.std.proofs.Common.{◌≡◌, ◌⊎◌, inl, inr, ℕ, ◌+◌, ◌<◌, ◌≤◌, ◌==◌, Bool, true, false, ◌&&◌, ◌||◌, List, [], length, refl, sym, ap, subst, ◌∙◌, arith}
use Rattle.std.specs.Prelude.{IsTrue, IsSome, Option, Some, None, nat_lt, if◌then◌else◌}
use Rattle.std.specs.List.{AllByRecursion}
use Rattle.std.proofs.lemmas.Bool.Decides.{nat_tests}
use Rattle.std.proofs.lemmas.List.Elements.{recursion_from_All}
use Rattle.metric_laws.specs.Objects.{Object}
use Rattle.page_laws.specs.Pages.{is_live}
use Rattle.bptree_node.specs.declared.rows.Entry.{Entry}
use Rattle.bptree_node.specs.declared.summary.NoBox.{NoBox}
use Rattle.bptree_node.specs.Lists.{all-weaker}
use Rattle.bptree_node.specs.Trees.{IsTree, list_at}
use Rattle.bptree_edit.specs.NodesAt.{times}
use Rattle.object_file.specs.Slots.{Free}
use Rattle.object_file.specs.ObjectFile.{slot_at}
use Rattle.box_corner.specs.Boxes.{joined}
use Rattle.box_corner.specs.CurveBoxes.{entry_box, keys_of}
use Rattle.box_corner.specs.IdBoxes as ids
use Rattle.store_check.specs.declared.profile.Profile.{Profile}
use Rattle.tree_check.specs.PageSets.{Marks, has, uses}
use Rattle.tree_state.specs.StoreCurves.{profile_key, profile_cell, IsCurveOf, AreCurveCorners}
use Rattle.tree_state.specs.StoreTrees.{is_pool_page, curve_root, id_root, tree_pages}
use Rattle.slot_notes.specs.declared.notes.SlotNote.{SlotNote}
use Rattle.slot_notes.specs.Notes.{AreNotes}
use Rattle.entry_match.specs.Matching.{is_match}
use Rattle.image_trees.specs.Trees.{root_at, times_before, named_before, AreMatched}
use Rattle.image_laws.specs.Held.{HoldsTrees, IsHeldBy, AreCurveTrees, AreIdTrees}
use Rattle.image_laws.proofs.Holding.{held-by}
use Rattle.image_laws.proofs.Eight.{pages-once}
use Rattle.image_laws.proofs.Whole.{trees-hold}

-- ---- what the check of curve trees says, by the profile

-- the curve trees are matched, by a curve and live pages
abbrev AreOnCurve : Profile → (ℕ → List ℕ) → List SlotNote → (before after unnamed named : Marks) → (axes bits : ℕ) → (List ℕ → ℕ) → (ℕ → List ℕ) → (ℕ → Bool) → Type 0
AreOnCurve profile home notes before after unnamed named axes bits key_of cell_of live =
    AreMatched joined (entry_box axes bits cell_of) (keys_of key_of) notes true home live profile.roots 0 profile.cap 4 before after unnamed named

pub curve-matched : (profile : Profile) (home : ℕ → List ℕ) (notes : List SlotNote) (before after unnamed named : Marks) (axes bits : ℕ) (key_of : List ℕ → ℕ) (cell_of : ℕ → List ℕ)
    (live : ℕ → Bool) → IsCurveOf axes bits key_of cell_of profile → live ≡ is_pool_page profile.cap
    → AreMatched joined (entry_box axes bits cell_of) (keys_of key_of) notes true home live profile.roots 0 profile.cap 4 before after unnamed named
    → ((m : ℕ) → uses before m ≡ 0) → ((m : ℕ) → has unnamed m ≡ false) → AreCurveTrees home profile notes before after named
curve-matched profile home notes before after unnamed named axes bits key_of cell_of live is pool are unused none =
    let On = AreOnCurve profile home notes before after unnamed named in
    let one = subst (λ (n : ℕ). On n bits key_of cell_of live) is.axes_are are in
    let two = subst (λ (n : ℕ). On profile.pivots n key_of cell_of live) is.bits_are one in
    let three = subst (λ (f : ℕ → List ℕ). On profile.pivots profile.bits key_of f live) is.cells_are two in
    let four = subst (λ (f : List ℕ → ℕ). On profile.pivots profile.bits f (profile_cell profile) live) is.keys_are three in
    record {
      unused = unused;
      unnamed = unnamed;
      none = none;
      trees = subst (λ (f : ℕ → Bool). On profile.pivots profile.bits (profile_key profile) (profile_cell profile) f) pool four;
    }

pub ids-matched : (profile : Profile) (home : ℕ → List ℕ) (notes : List SlotNote) (before after unnamed named : Marks) (live : ℕ → Bool) → live ≡ is_pool_page profile.cap
    → AreMatched {S = NoBox} (λ a _. a) ids.entry_box (λ _. (0, 0)) notes false home live profile.roots 4 profile.cap 4 before after unnamed named
    → ((m : ℕ) → has unnamed m ≡ false) → AreIdTrees home profile notes before after named
ids-matched profile home notes before after unnamed named live pool are none = record {
  unnamed = unnamed;
  none = none;
  trees = subst (λ (f : ℕ → Bool). AreMatched {S = NoBox} (λ a _. a) ids.entry_box (λ _. (0, 0)) notes false home f profile.roots 4 profile.cap 4 before after unnamed named) pool are;
}

and_true : (b : Bool) → (b && true) ≡ b
and_true true = refl
and_true false = refl

-- where no page is free, those of the pool are live
pub pool-live : (in_pool : ℕ → Bool) (free : List ℕ) (cap : ℕ) → free ≡ [] → ((n : ℕ) → in_pool n ≡ is_pool_page cap n) → is_live in_pool free ≡ is_pool_page cap
pool-live in_pool free cap none pool = λ i n. (ap (λ (numbers : List ℕ). is_live in_pool numbers n) none ∙ and_true (in_pool n) ∙ pool n) i

-- ---- entries of id trees

passes : {S : Type 0} (b : Bool) (o : Option S) → IsSome (if b then o else None) → b ≡ true
passes true o is = refl
passes false o is = absurd (cc)

id_keyed : (e : Entry) → IsSome (ids.entry_box e) → e.key ≡ e.id
id_keyed e is = let same : (e.key == e.id) ≡ true = passes (e.key == e.id) (Some ids.nothing) is in grind (arith, nat_tests, same)

-- ---- marks

of_named : (a b n h : Bool) → h ≡ (a || (b && n)) → a ≡ false → h ≡ true → n ≡ true
of_named true b n h is none yes_is = absurd (cc)
of_named false true n h is none yes_is = sym is ∙ yes_is
of_named false false n h is none yes_is = absurd (cc)

none_used : (u a b c d : ℕ) → u ≡ c + d → c ≡ a + b → a ≡ 0 → u ≡ b + d
none_used u a b c d one two none = omega (arith, one, two, none)

-- ---- the whole

module _ (home : ℕ → List ℕ) (profile : Profile) (pivots : List Object) (notes : List SlotNote) (are : AreNotes profile pivots home profile.cap notes)
    (before between after named by_ids : Marks) (curves : AreCurveTrees home profile notes before between named) (numbers : AreIdTrees home profile notes between after by_ids) where
  curve_held : (c : ℕ) → c < 4 → AllByRecursion (IsHeldBy home profile pivots c true) (list_at home (curve_root profile.roots c))
  curve_held c few =
      let same : 0 + c ≡ c = omega arith in
      let es = list_at home (root_at profile.roots (0 + c)) in
      subst (λ (k : ℕ). AllByRecursion (IsHeldBy home profile pivots c true) (list_at home (root_at profile.roots k))) same
      (all-weaker (λ (e : Entry). IsTrue (is_match notes c true e)) (IsHeldBy home profile pivots c true) (λ e is. held-by home profile pivots notes are c true e is) es
      (recursion_from_All (λ (e : Entry). IsTrue (is_match notes c true e)) es (curves.trees.matched c few)))

  id_held : (c : ℕ) → c < 4 → AllByRecursion (IsHeldBy home profile pivots c false) (list_at home (id_root profile.roots c))
  id_held c few =
      let es = list_at home (root_at profile.roots (4 + c)) in
      all-weaker (λ (e : Entry). IsTrue (is_match notes c false e)) (IsHeldBy home profile pivots c false) (λ e is. held-by home profile pivots notes are c false e is) es
      (recursion_from_All (λ (e : Entry). IsTrue (is_match notes c false e)) es (numbers.trees.matched c few))

  curve_trees : (c : ℕ) → c < 4 → IsTree (AreCurveCorners profile) home (is_pool_page profile.cap) (curve_root profile.roots c)
  curve_trees c few =
      let same : 0 + c ≡ c = omega arith in
      subst (λ (k : ℕ). IsTree (AreCurveCorners profile) home (is_pool_page profile.cap) (root_at profile.roots k)) same (curves.trees.trees c few)

  id_keys : (c : ℕ) → c < 4 → AllByRecursion (λ (e : Entry). e.key ≡ e.id) (list_at home (id_root profile.roots c))
  id_keys c few =
      let es = list_at home (root_at profile.roots (4 + c)) in
      all-weaker (λ (e : Entry). IsSome (ids.entry_box e)) (λ (e : Entry). e.key ≡ e.id) (λ e is. id_keyed e is) es
      (recursion_from_All (λ (e : Entry). IsSome (ids.entry_box e)) es (numbers.trees.boxed c few))

  once : length profile.roots ≡ 8 → (m : ℕ) → times m (tree_pages home profile.roots) ≤ 1
  once eight m =
      pages-once home m profile.roots eight after
      (none_used (uses after m) (uses before m) (times_before home profile.roots 0 4 m) (uses between m) (times_before home profile.roots 4 4 m) (numbers.trees.used m) (curves.trees.used m)
      (curves.unused m))

  pub matched-hold : length profile.roots ≡ 8 → ((slot : ℕ) → slot < profile.cap → (slot_at home slot ≡ Free) ⊎ ((has named slot ≡ true) × (has by_ids slot ≡ true)))
      → HoldsTrees home profile pivots
  matched-hold eight slots =
      trees-hold home profile pivots eight curve_held id_held curve_trees (λ c few. numbers.trees.trees c few) id_keys
      (λ slot below. either slot (slots slot below)) (once eight)
    where
      either : (slot : ℕ) → (slot_at home slot ≡ Free) ⊎ ((has named slot ≡ true) × (has by_ids slot ≡ true))
          → (slot_at home slot ≡ Free) ⊎ ((named_before home profile.roots 0 4 slot ≡ true) × (named_before home profile.roots 4 4 slot ≡ true))
      either slot (inl free) = inl free
      either slot (inr both) =
          inr (
            of_named (has curves.unnamed slot) (nat_lt slot profile.cap) (named_before home profile.roots 0 4 slot) (has named slot) (curves.trees.named slot) (curves.none slot) both.0,
            of_named (has numbers.unnamed slot) (nat_lt slot profile.cap) (named_before home profile.roots 4 4 slot) (has by_ids slot) (numbers.trees.named slot) (numbers.none slot) both.1,
          )
