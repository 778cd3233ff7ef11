-- Going down to an entry, level by level.
use Rattle.std.proofs.Common.{◌≡◌, inl, inr, ℕ, zero, suc, ◌+◌, ◌-◌, ◌≤◌, ◌<◌, Bool, List, Ok, Err, sym, ap, subst, ◌∙◌, arith}
use Rattle.std.specs.Prelude.{IsTrue, Contains, IfOk, IfErr, Result, Option, Some, None}
use Rattle.std.specs.List.{prefix_len}
use Rattle.std.proofs.lemmas.Bool.{false≢true}
use Rattle.page_laws.specs.Errors.{IsNotDamaged, TellsNoDamage}
use Rattle.page_laws.specs.declared.errors.TreeError.{TreeError}
use Rattle.page_laws.specs.declared.errors.TreeError.TheVariants as tree
use Rattle.page_laws.specs.declared.pages.Pages.{Ghosts}
use Rattle.page_laws.specs.declared.root.Root.{Root}
use Rattle.bptree_node.specs.declared.rows.Branch.{Branch}
use Rattle.bptree_node.specs.Nodes.{node_in}
use Rattle.bptree_node.specs.Trees.{IsBPlusTree, node_branches, node_entries, slot_of, list_at}
use Rattle.bptree_walk.specs.declared.ahead.Ahead.{Ahead}
use Rattle.bptree_walk.specs.Courses.{IsPart, AreSound, first_ahead}
use Rattle.bptree_walk.specs.Damage.{IsDamageOf, TellsDamage}
use Rattle.bptree_walk.specs.Routes.{reaches, IsLastReached}
use Rattle.bptree_walk.specs.Visits.{IsCause, child_ahead}
use Rattle.bptree_walk.proofs.Parts.{lost_breaks, mistaken_breaks, sound_live, sound_node, first_part, child_part, sound_child}
use Rattle.bptree_walk.proofs.Staying.{Stay, live_of, known_on, as_before, stays_same, stays_on}
use Rattle.bptree_walk.proofs.Ways.{IsOnWay, way_begins, way_goes_on, way_ends, way_is_there, last_lower}

module _ (pages : ℕ → List ℕ) (live : ℕ → Bool) (a : Ahead) where
  -- the cause of an error at a part of a tree
  pub cause_breaks : (root : Root) (why : TreeError) → IsPart pages root a → IsCause live a (pages a.page) why → TellsDamage pages live root why
  cause_breaks root tree.Fault part cause = tt
  cause_breaks root tree.Memory part cause = tt
  cause_breaks root (tree.Damaged page rule) part cause = elim cause [
    | inl lost ↦ lost_breaks pages live root a (tree.Damaged page rule) part lost
    | inr mistaken ↦ mistaken_breaks pages live root a (tree.Damaged page rule) part mistaken
  ]

  -- there is none at a sound node
  pub cause_unsound : (why : TreeError) → AreSound pages live a.level a.page → IsCause live a (pages a.page) why → TellsNoDamage why
  cause_unsound tree.Fault sound cause = tt
  cause_unsound tree.Memory sound cause = tt
  cause_unsound (tree.Damaged page rule) sound cause = elim cause [
    | inl lost ↦ false≢true (sym lost.lost ∙ sound_live pages live a.level a.page sound)
    | inr mistaken ↦ false≢true (sym mistaken.none ∙ sound_node pages live a.level a.page sound)
  ]

module _ {P : Type 0} (G : Ghosts P) where
  -- from the start a search came to this node
  pub record ComesTo (start now : P) (root : Root) (key id : ℕ) (a : Ahead) : Type 0 where
    pub part : IsTrue (G.is_known start) → IsPart (G.page_at start) root a
    pub sound : IsTrue (G.is_known start) → IsBPlusTree (G.page_at start) (live_of G start) root → AreSound (G.page_at start) (live_of G start) a.level a.page
    pub way : IsTrue (G.is_known start) → (of_tree : ℕ → Bool) → IsBPlusTree (G.page_at start) of_tree root → IsOnWay (G.page_at start) root key id a.level a.page
    pub levels : G.fetches now + a.level < G.fetches start + root.height
    pub stay : Stay G start now
    pub faults : G.faults start ≤ G.faults now

  module _ (start now : P) (root : Root) (key id : ℕ) (a : Ahead) (so : ComesTo start now root key id a) where
    -- a search that fails there
    pub down_breaks : (why : TreeError) → IsTrue (G.is_known start) → (IsTrue (G.is_known now) → IsCause (live_of G now) a (G.page_at now a.page) why)
        → TellsDamage (G.page_at start) (live_of G start) root why
    down_breaks why known cause =
        cause_breaks (G.page_at start) (live_of G start) a root why (so.part known)
        (as_before G start now so.stay (λ pages live. IsCause live a (pages a.page) why) known (cause (known_on G start now so.stay known)))

    pub down_unsound : (why : TreeError) → IsTrue (G.is_known start) → IsBPlusTree (G.page_at start) (live_of G start) root
        → (IsTrue (G.is_known now) → IsCause (live_of G now) a (G.page_at now a.page) why) → TellsNoDamage why
    down_unsound why known tree cause =
        cause_unsound (G.page_at start) (live_of G start) a why (so.sound known tree)
        (as_before G start now so.stay (λ pages live. IsCause live a (pages a.page) why) known (cause (known_on G start now so.stay known)))

  first_level : (height page : ℕ) (a : Ahead) → first_ahead height page ≡ Some a → a.level < height
  first_level zero page a is = absurd (cc)
  first_level (suc l) page a is =
      let same : record { page = page; level = l; parent = 1 } ≡ a = cc in
      subst (λ (x : Ahead). x.level < suc l) same (omega arith)

  sound_from : (start : P) (height page : ℕ) (a : Ahead) → first_ahead height page ≡ Some a → IsBPlusTree (G.page_at start) (live_of G start) (record { page = page; height = height })
      → AreSound (G.page_at start) (live_of G start) a.level a.page
  sound_from start zero page a is tree = absurd (cc)
  sound_from start (suc l) page a is tree =
      let same : record { page = page; level = l; parent = 1 } ≡ a = cc in
      subst (λ (x : Ahead). AreSound (G.page_at start) (live_of G start) x.level x.page) same (tree.sound.nodes, tree.live)

  -- a search begins at the root
  pub comes_first : ((p : P) → G.calm p p) → (start : P) (root : Root) (key id : ℕ) (a : Ahead) → first_ahead root.height root.page ≡ Some a → ComesTo start start root key id a
  comes_first same start root key id a is =
      let level = first_level root.height root.page a is in
      record {
        part = λ known. first_part (G.page_at start) root a is;
        sound = λ known tree. sound_from start root.height root.page a is tree;
        way = λ known of_tree tree. way_begins (G.page_at start) of_tree root key id a tree is;
        levels = omega (arith, level);
        stay = stays_same G same start;
        faults = omega arith;
      }

  module _ (start now : P) (root : Root) (key id : ℕ) (a : Ahead) (so : ComesTo start now root key id a) (page : List ℕ) (read : IsTrue (G.is_known now) → page ≡ G.page_at now a.page) where
    -- what was read is the page as it was at the start
    page_was : IsTrue (G.is_known start) → page ≡ G.page_at start a.page
    page_was known = read (known_on G start now so.stay known) ∙ ap (λ (pages : ℕ → List ℕ). pages a.page) (so.stay.contents known)

    -- it goes on to the child
    pub comes_next : ((a b c : P) → G.calm a b → G.calm b c → G.calm a c) → (new : P) (child : Ahead) → 0 < a.level → IsLastReached key id a (node_branches (node_in page)) child
        → G.fetches new ≤ G.fetches now + 1 → Stay G now new → G.faults now ≤ G.faults new → ComesTo start new root key id child
    comes_next chains new child some last fetched stay faults =
        let l : ℕ = a.level - 1 in
        let level : a.level ≡ suc l = omega arith in
        let lower : child.level ≡ l = last_lower key id a (node_branches (node_in page)) child last in
        let b : Branch = last.branch in
        let among : Contains (node_branches (node_in page)) b = (last.place, last.below, last.is) in
        let leads : child ≡ child_ahead l a.page b = last.leads in
        let so_levels = so.levels in
        let so_faults = so.faults in
        record {
          part = λ known. subst (IsPart (G.page_at start) root) (sym leads)
              (child_part (G.page_at start) root a l b level (so.part known) (subst (λ (p : List ℕ). Contains (node_branches (node_in p)) b) (page_was known) among));
          sound = λ known tree. subst (λ (x : Ahead). AreSound (G.page_at start) (live_of G start) x.level x.page) (sym leads)
              (sound_child (G.page_at start) (live_of G start) l a.page b (subst (λ (n : ℕ). AreSound (G.page_at start) (live_of G start) n a.page) level (so.sound known tree))
              (subst (λ (p : List ℕ). Contains (node_branches (node_in p)) b) (page_was known) among));
          way = λ known of_tree tree. way_goes_on (G.page_at start) root key id a child some (so.way known of_tree tree)
              (subst (λ (p : List ℕ). IsLastReached key id a (node_branches (node_in p)) child) (page_was known) last);
          levels = omega (arith, so_levels, lower, level, fetched);
          stay = stays_on G start now so.stay chains new stay;
          faults = omega (arith, so_faults, faults);
        }

    -- no branch leads on
    pub comes_to_none : (of_tree : ℕ → Bool) → IsTrue (G.is_known start) → IsBPlusTree (G.page_at start) of_tree root → 0 < a.level
        → prefix_len (reaches key id) (node_branches (node_in page)) ≡ 0 → None ≡ slot_of key id (list_at (G.page_at start) root)
    comes_to_none of_tree known tree some none =
        let level : a.level ≡ suc (a.level - 1) = omega arith in
        sym (way_ends (G.page_at start) root key id a.level (a.level - 1) a.page level (so.way known of_tree tree)
        (subst (λ (p : List ℕ). prefix_len (reaches key id) (node_branches (node_in p)) ≡ 0) (page_was known) none))

  module _ (start now : P) (root : Root) (key id : ℕ) (a : Ahead) (so : ComesTo start now root key id a) where
    slot_there : (pages : ℕ → List ℕ) (of_tree : ℕ → Bool) (result : Result (Option ℕ) TreeError) → slot_of key id (node_entries (node_in (pages a.page))) ≡ slot_of key id (list_at pages root)
        → IfOk result (λ slot. slot ≡ slot_of key id (node_entries (node_in (pages a.page)))) → IfOk result (λ slot. slot ≡ slot_of key id (list_at pages root))
    slot_there pages of_tree (Ok slot) same is = is ∙ same
    slot_there pages of_tree (Err why) same is = tt

    -- the leaf has the slot
    pub comes_to_slot : (of_tree : ℕ → Bool) (result : Result (Option ℕ) TreeError) → IsTrue (G.is_known start) → IsBPlusTree (G.page_at start) of_tree root → a.level ≡ 0
        → (IsTrue (G.is_known now) → IfOk result (λ slot. slot ≡ slot_of key id (node_entries (node_in (G.page_at now a.page)))))
        → IfOk result (λ slot. slot ≡ slot_of key id (list_at (G.page_at start) root))
    comes_to_slot of_tree result known tree leaf is =
        slot_there (G.page_at start) of_tree result (way_is_there (G.page_at start) root key id a.level a.page leaf (so.way known of_tree tree))
        (as_before G start now so.stay (λ pages live. IfOk result (λ slot. slot ≡ slot_of key id (node_entries (node_in (pages a.page))))) known (is (known_on G start now so.stay known)))

    -- the answer for the leaf
    pub ends_broken : (A : Type 0) (result : Result A TreeError) → IsTrue (G.is_known start) → (IsTrue (G.is_known now) → IfErr result (IsCause (live_of G now) a (G.page_at now a.page)))
        → IsDamageOf (G.page_at start) (live_of G start) root result
    ends_broken A (Ok x) known cause = tt
    ends_broken A (Err why) known cause = down_breaks start now root key id a so why known cause

    pub ends_unsound : (A : Type 0) (result : Result A TreeError) → IsTrue (G.is_known start) → IsBPlusTree (G.page_at start) (live_of G start) root
        → (IsTrue (G.is_known now) → IfErr result (IsCause (live_of G now) a (G.page_at now a.page))) → IsNotDamaged result
    ends_unsound A (Ok x) known tree cause = tt
    ends_unsound A (Err why) known tree cause = down_unsound start now root key id a so why known tree cause
