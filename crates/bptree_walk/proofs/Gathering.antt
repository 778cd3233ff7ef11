-- The entries that a walk has found so far.
use Rattle.std.proofs.Common.{◌≡◌, ℕ, zero, suc, ◌-◌, ◌≤◌, Bool, List, [], ◌++◌, length, refl, sym, ap, ap₂, subst, ◌∙◌, arith}
use Rattle.std.specs.Prelude.{filter, sum_by, IsTrue}
use Rattle.std.specs.List.{flat_map}
use Rattle.std.proofs.lemmas.List.{append-nil}
use Rattle.std.proofs.lemmas.List.Elements.{filter-append}
use Rattle.std.proofs.lemmas.List.Sums.{length-filter, count_by-le-length}
use Rattle.page_laws.specs.Pages.{count_after}
use Rattle.page_laws.specs.declared.pages.Pages.{Ghosts}
use Rattle.page_laws.specs.declared.root.Root.{Root}
use Rattle.bptree_node.specs.declared.layout.TheConstants.{HEIGHT_LIMIT}
use Rattle.bptree_node.specs.declared.rows.Entry.{Entry}
use Rattle.bptree_node.specs.TreeLaws.{walked, walked-all}
use Rattle.bptree_node.specs.Trees.{tree_at, list_at, visited, visited_at, IsBPlusTree, IsCoveredAt}
use Rattle.bptree_walk.specs.declared.ahead.Ahead.{Ahead}
use Rattle.bptree_walk.specs.Courses.{Course, begun, walk_left, visits_left, most_left, IsSoundCourse, MOST_IN_TREE}
use Rattle.bptree_walk.specs.Steps.{GoesOn, CountsFetches}
use Rattle.bptree_walk.proofs.Passing.{Passes, given_on, given_less, passes_none, passes_on, goes_further}
use Rattle.bptree_walk.proofs.Counts.{counted_on}
use Rattle.bptree_walk.proofs.Stacks.{begun_most}
use Rattle.bptree_walk.proofs.Staying.{Stay, live_of, known_on, as_before}

-- ---- the course that begins

module _ (pages : ℕ → List ℕ) where
  sound_from : (live : ℕ → Bool) (height page : ℕ) → IsBPlusTree pages live (record { page = page; height = height }) → IsSoundCourse pages live (begun (record { page = page; height = height }))
  sound_from live zero page tree = tt
  sound_from live (suc l) page tree = ((tree.sound.nodes, tree.live), tt)

  pub begun_sound : (live : ℕ → Bool) (root : Root) → IsBPlusTree pages live root → IsSoundCourse pages live (begun root)
  begun_sound live root tree = sound_from live root.height root.page tree

  module _ (meets : ℕ → ℕ → Bool) (has : ℕ → Bool) where
    walk_from : (height page : ℕ) → IsCoveredAt meets has pages height page
        → walk_left meets has pages (begun (record { page = page; height = height })) ≡ filter (λ (e : Entry). has e.key) (list_at pages (record { page = page; height = height }))
    walk_from zero page covered = refl
    walk_from (suc l) page covered = append-nil (walked meets has l (tree_at pages l page)) ∙ walked-all meets has l (tree_at pages l page) covered

    -- a walk from the root has the entries of the region left
    pub begun_walk : (root : Root) → IsCoveredAt meets has pages root.height root.page → walk_left meets has pages (begun root) ≡ filter (λ (e : Entry). has e.key) (list_at pages root)
    begun_walk root covered = walk_from root.height root.page covered

    visits_from : (height page : ℕ) → visits_left meets pages (begun (record { page = page; height = height })) ≡ visited_at meets pages (record { page = page; height = height })
    visits_from zero page = refl
    visits_from (suc l) page = omega arith

    pub begun_visits : (root : Root) → visits_left meets pages (begun root) ≡ visited_at meets pages root
    begun_visits root = visits_from root.height root.page

-- ---- the entries so far

module _ {P : Type 0} (G : Ghosts P) (meets : ℕ → ℕ → Bool) (has : ℕ → Bool) where
  abbrev pub chosen : List Entry → List Entry
  chosen es = filter (λ (e : Entry). has e.key) es

  -- those of the region among what the course gave
  pub record Gathers (start now : P) (root : Root) (found : List Entry) (c : Course) : Type 0 where
    pub given : List Entry
    pub passes : Passes G meets has start now given (begun root) c
    pub are : found ≡ chosen given

  pub gathers_none : ((p : P) → G.calm p p) → (p : P) (root : Root) (found : List Entry) (c : Course) → found ≡ [] → c ≡ begun root → Gathers p p root found c
  gathers_none same p root found c none is =
      subst (λ (x : Course). Gathers p p root found x) (sym is) (record { given = []; passes = passes_none G meets has same p (begun root); are = none })

  module _ (start now : P) (root : Root) (found : List Entry) (c : Course) (so : Gathers start now root found c) where
    -- one more node was visited, and all entries of its leaf were added
    pub gathers_on : ((a b d : P) → G.calm a b → G.calm b d → G.calm a d) → (next : P) (mid new : Course) (more : List Entry)
        → (IsTrue (G.is_known now) → GoesOn (G.page_at now) (live_of G now) meets has [] c mid) → most_left mid ≤ most_left c
        → CountsFetches c mid (G.fetches now) (G.fetches next) → Stay G now next → G.faults now ≤ G.faults next
        → new.entries ≡ [] → new.ahead ≡ mid.ahead → new.fetched ≡ mid.fetched → more ≡ found ++ chosen mid.entries → Gathers start next root more new
    gathers_on chains next mid new more goes limit counts stay faults none ahead fetched is = record {
      given = so.given ++ mid.entries;
      passes = passes_on G meets has start now so.given (begun root) c so.passes chains next mid.entries new
          (λ known.
          goes_further (G.page_at now) (live_of G now) meets has c mid [] mid.entries new (goes known) (given_on mid new none ahead fetched (G.page_at now) (live_of G now) meets has))
          (omega (arith, limit, given_less mid new none ahead fetched))
          (record {
            least = subst (λ (n : ℕ). c.fetched ≤ n) (sym fetched) counts.least;
            fetches = subst (λ (n : ℕ). G.fetches next ≡ count_after (G.fetches now) (n - c.fetched)) (sym fetched) counts.fetches;
          }) stay faults;
      are = is ∙ ap (λ (es : List Entry). es ++ chosen mid.entries) so.are ∙ sym (filter-append (λ (f : Entry). has f.key) so.given mid.entries);
    }

    -- there are few of them
    pub gathers_few : root.height ≤ HEIGHT_LIMIT → length found ≤ MOST_IN_TREE
    gathers_few low =
        let same : length found ≡ length (chosen so.given) = ap length so.are in
        let limit = so.passes.limit in
        let most = begun_most root low in
        omega (arith, same, limit, most, length-filter (λ (f : Entry). has f.key) so.given, count_by-le-length (λ (f : Entry). has f.key) so.given)

    -- the course is over
    module _ (next : P) (new : Course) (goes : IsTrue (G.is_known now) → GoesOn (G.page_at now) (live_of G now) meets has [] c new) (over : (new.entries ≡ []) × (new.ahead ≡ []))
        (counts : CountsFetches c new (G.fetches now) (G.fetches next)) where
      whole : IsTrue (G.is_known start) → GoesOn (G.page_at start) (live_of G start) meets has (so.given ++ []) (begun root) new
      whole known =
          goes_further (G.page_at start) (live_of G start) meets has (begun root) c so.given [] new (so.passes.goes known)
          (as_before G start now so.passes.stay (λ pages live. GoesOn pages live meets has [] c new) known (goes (known_on G start now so.passes.stay known)))

      walk_over : (pages : ℕ → List ℕ) → walk_left meets has pages new ≡ []
      walk_over pages =
          ap₂ (λ (es : List Entry) (nodes : List Ahead). chosen es ++ flat_map (λ (a : Ahead). walked meets has a.level (tree_at pages a.level a.page)) nodes) over.0 over.1

      visits_over : (pages : ℕ → List ℕ) → visits_left meets pages new ≡ 0
      visits_over pages = ap (sum_by (λ (a : Ahead). visited meets a.level (tree_at pages a.level a.page))) over.1

      pub all_gathered : IsTrue (G.is_known start) → IsCoveredAt meets has (G.page_at start) root.height root.page → found ≡ chosen (list_at (G.page_at start) root)
      all_gathered known covered =
          so.are ∙ ap chosen (sym (append-nil so.given)) ∙ sym (append-nil (chosen (so.given ++ [])))
          ∙ ap (λ (es : List Entry). chosen (so.given ++ []) ++ es) (sym (walk_over (G.page_at start))) ∙ sym (whole known).list
          ∙ begun_walk (G.page_at start) meets has root covered

      pub all_visited : IsTrue (G.is_known start) → G.fetches next ≡ count_after (G.fetches start) (visited_at meets (G.page_at start) root)
      all_visited known =
          let all = counted_on (begun root) c new (G.fetches start) (G.fetches now) (G.fetches next) so.passes.counts counts in
          let nodes = (whole known).nodes in
          let none = visits_over (G.page_at start) in
          let total : new.fetched - 0 ≡ visited_at meets (G.page_at start) root = omega (arith, nodes, none, begun_visits (G.page_at start) meets has root) in
          all.fetches ∙ ap (count_after (G.fetches start)) total
